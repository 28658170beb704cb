use mathlib.Core.Path.{sym, ap, subst, ◌∙◌}
use Prim.Native.Nat.{ℕ, ◌<◌}
use native.Mathlib.Omega.{arith}
use Rattle.facts.specs.Sets.{has}
use Rattle.facts.specs.declared.Facts.{Facts}
use Rattle.facts.proofs.Laws.{has_empty}
use Rattle.search.proofs.ViewLaws.{shows_formed}
use Rattle.rows.proofs.TableLaws.{row_rewritten, rows_filled}
use Rattle.rows.proofs.LeftLaws.{lowest_inside}
use Rattle.rows.proofs.WrongLaws.{Searched, searched_none, searched_more}
use Rattle.rows.proofs.fill.Goals as goal
use Rattle.rows.proofs.fill.Goals.{In-Some}

-- The fact that the loop comes to is one of the task.
inside : (c : In-Some) → c.in-Some.f < c.args.t.table.facts
inside c =
    let step = c.in-Some.ensures.steps in
    lowest_inside c.args.t c.requires.well_formed c.loop-f.f-iterator.rest step.0 c.loop-f.invariant.low c.in-Some.f step.1

pub loop-f-init : goal.loop-f-init
loop-f-init c =
    let a = c.args in
    let start = c.into_iter-f-iterator.ensures.into_iter_gives ∙ c.each-f-items.ensures in
    subst (λ (it : Facts). Searched a.t it.rest a.table.now a.table.now) (sym start)
    (searched_none a.t c.requires.well_formed c.wrong_facts.result a.table.now c.wrong_facts.ensures c.requires.empty_rows)

pub row-row-requires : goal.row-row-requires
row-row-requires c =
    let got = c.column_of-col.ensures in
    record {
      column_formed = shows_formed c.args.t c.column_of-col.result got.1 c.requires.well_formed;
      col_bound = omega (arith, got.0, inside (goal.at.row-row-requires c).In-Some, c.requires.well_formed.facts_high);
    }

pub put-requires : goal.put-requires
put-requires c =
    record {
      f_lt_max_facts = omega (arith, inside (goal.at.put-requires c).In-Some, c.requires.well_formed.facts_high);
      all_rows_in_bounds = omega (arith, c.requires.all_rows_in_bounds, c.loop-f.invariant.rows.places);
    }

pub loop-f-preserved : goal.loop-f-preserved
loop-f-preserved c =
    let a = c.args in
    let step = c.in-Some.ensures.steps in
    let f = c.in-Some.f in
    let after = c.put.new.table in
    searched_more a.t c.requires.well_formed c.loop-f.f-iterator.rest step.0 a.table.now c.loop-f.table c.loop-f.invariant f step.1
    _ (ap (λ (it : Facts). it.rest) step.2) after
    (row_rewritten a.t f c.column_of-col.result c.row-row.result c.loop-f.table after c.column_of-col.ensures
    (inside (goal.at.loop-f-preserved c).In-Some) c.row-row.ensures c.put.ensures)

pub returns : goal.returns
returns c =
    let a = c.args in
    rows_filled a.t _ a.table.now c.loop-f.table c.loop-f.invariant.rows
    (λ f. ap (λ (m : ℕ). has m f) c.in-None.ensures.steps.0 ∙ has_empty f)
