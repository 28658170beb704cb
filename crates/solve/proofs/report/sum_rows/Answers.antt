use native.Mathlib.Omega.{arith}
use Rattle.solve.proofs.ReportLaws.{summed_none, summed_more, summed_end}
use Rattle.solve.proofs.report.sum_rows.Goals as goal

pub loop-f-init : goal.loop-f-init
loop-f-init c = summed_none c.args.table.now c.args.facts

pub first_at-requires : goal.first_at-requires
first_at-requires c =
    record {
      f_lt_max_facts = omega (arith, c.requires.facts_le_max_facts);
      all_rows_in_bounds = c.requires.readable.places;
    }

pub with_row-sum-requires : goal.with_row-sum-requires
with_row-sum-requires c = omega (arith, c.loop-f.invariant.bound, c.requires.facts_le_max_facts)

pub loop-f-preserved : goal.loop-f-preserved
loop-f-preserved c =
    summed_more c.args.table.now c.args.facts c.requires.facts_le_max_facts c.requires.readable c.loop-f.sum c.with_row-sum.result c.loop-f.f
    c.first_at.result (omega arith) c.first_at.ensures c.with_row-sum.ensures c.loop-f.invariant

pub returns : goal.returns
returns c = summed_end c.args.table.now c.args.facts c.loop-f.sum c.loop-f.f (omega arith) c.loop-f.invariant
