use mathlib.Core.Path.{◌≡◌}
use Prim.Native.Nat.{◌+◌, ◌≤◌}
use native.Mathlib.Omega.{arith}
use lib.ListN.{length}
use Rattle.rows.specs.Tables.{row_at, repairs_in}
use Rattle.solve.proofs.ReportLaws.{announced_repairs, repairs_low, listed_none, listed_fits, listed_more, listed_end}
use Rattle.solve.proofs.report.write_lists.Goals as goal

pub loop-f-init : goal.loop-f-init
loop-f-init c = listed_none c.args.table.now c.args.facts c.args.room.now

pub first_at-requires : goal.first_at-requires
first_at-requires c =
    record {
      f_lt_max_facts = omega (arith, c.requires.facts_le_max_facts);
      all_rows_in_bounds = c.requires.readable.places;
    }

pub copy-requires : goal.copy-requires
copy-requires c =
    let repairs-here : c.announced-count.result ≡ repairs_in (row_at c.args.table.now c.loop-f.f) =
    announced_repairs _ c.first_at.result c.announced-count.result c.first_at.ensures c.announced-count.ensures in
    let next_fits : c.loop-f.at + repairs_in (row_at c.args.table.now c.loop-f.f) ≤ length c.loop-f.room =
    listed_fits c.args.table.now c.args.facts c.args.room.now c.requires.facts_le_max_facts c.requires.readable
    c.requires.facts_in_bounds c.loop-f.room c.loop-f.at c.loop-f.f (omega arith) c.loop-f.invariant in
    record {
      count_in_bounds = omega (arith, repairs-here, repairs_low (row_at c.args.table.now c.loop-f.f), c.requires.readable.places);
      count_in_bounds_2 = omega (arith, repairs-here, next_fits);
    }

pub overflow_add-at : goal.overflow_add-at
overflow_add-at c =
    let repairs-here : c.announced-count.result ≡ repairs_in (row_at c.args.table.now c.loop-f.f) =
    announced_repairs _ c.first_at.result c.announced-count.result c.first_at.ensures c.announced-count.ensures in
    let next_fits : c.loop-f.at + repairs_in (row_at c.args.table.now c.loop-f.f) ≤ length c.loop-f.room =
    listed_fits c.args.table.now c.args.facts c.args.room.now c.requires.facts_le_max_facts c.requires.readable
    c.requires.facts_in_bounds c.loop-f.room c.loop-f.at c.loop-f.f (omega arith) c.loop-f.invariant in
    omega (arith, repairs-here, next_fits, c.loop-f.invariant.places)

pub loop-f-preserved : goal.loop-f-preserved
loop-f-preserved c =
    let repairs-here : c.announced-count.result ≡ repairs_in (row_at c.args.table.now c.loop-f.f) =
    announced_repairs _ c.first_at.result c.announced-count.result c.first_at.ensures c.announced-count.ensures in
    listed_more c.args.table.now c.args.facts c.args.room.now c.requires.facts_le_max_facts c.requires.readable c.requires.facts_in_bounds c.loop-f.room
    c.copy.new.to c.loop-f.at c.loop-f.f c.announced-count.result
    (omega arith) repairs-here c.copy.ensures c.loop-f.invariant

pub returns : goal.returns
returns c =
    let a = c.args in
    listed_end a.table.now a.facts a.room.now c.loop-f.room c.loop-f.at c.loop-f.f (omega arith)
    c.loop-f.invariant
