use mathlib.Core.Bool.{not}
use mathlib.Core.Path.{refl, sym, ap, subst, ◌∙◌}
use borrow.Author.Rules.{rules}
use Rattle.facts.specs.declared.Facts.{Facts}
use Rattle.search.specs.Rows.{RightRow}
use Rattle.table.specs.Refusals.{not_well_formed}
use Rattle.table.specs.Tasks.{Shaped}
use Rattle.table.proofs.Formation.{told_formed, told_unformed}
use Rattle.std.specs.Prelude.{Err}
use Rattle.table.specs.Outcomes.{refused, reply_of}
use Rattle.table.proofs.OutcomeLaws.{refused_told}
use Rattle.rows.proofs.TableLaws.{right_first}
use Rattle.solve.proofs.JoinedLaws.{Joining, joining_none, joining_small, joining_column, joining_row, joining_more, joining_solves}
use Rattle.solve.proofs.SolveLaws.{solves_malformed}
use Rattle.solve.proofs.solve.Goals as goal
use Rattle.solve.proofs.solve.Goals.{After-row-row}

pub returns-then-not-is_formed : goal.returns-then-not-is_formed
returns-then-not-is_formed c =
    let a = c.args in
    solves_malformed a.t a.room.now _ (told_unformed a.t c.is_formed.ensures (ap not c.if-not-is_formed.true))
    (refused_told not_well_formed (reply_of (Err c.at.result)) a.room.now (refused not_well_formed a.room.now) (ap (λ e. reply_of (Err e)) c.at.ensures) refl)

-- The row found is the right one of the fact that the loop comes to.
right_row : (c : After-row-row) → RightRow c.args.t c.in-Some.f c.row-row.result
right_row c =
    let step = c.in-Some.ensures.steps in
    joining_row c.args.t c.loop-f.invariant.well c.loop-f.f-iterator.rest c.loop-f.joined c.loop-f.invariant step.0 c.in-Some.f step.1
    c.column_of-col.result c.column_of-col.ensures c.row-row.result c.row-row.ensures

pub wrong_facts-requires : goal.wrong_facts-requires
wrong_facts-requires c =
    let shaped : Shaped c.args.t = search rules in
    told_formed c.args.t shaped c.is_formed.ensures (ap not c.if-not-is_formed.false)

pub loop-f-init : goal.loop-f-init
loop-f-init c =
    let shaped : Shaped c.args.t = search rules in
    let well = told_formed c.args.t shaped c.is_formed.ensures (ap not c.if-not-is_formed.false) in
    let start = c.into_iter-f-iterator.ensures.into_iter_gives ∙ c.each-f-items.ensures in
    subst (λ (it : Facts). Joining c.args.t it.rest _) (sym start)
    (joining_none c.args.t well c.wrong_facts.result c.wrong_facts.ensures _)

pub row-row-requires : goal.row-row-requires
row-row-requires c =
    let step = c.in-Some.ensures.steps in
    let column =
    joining_column c.args.t c.loop-f.invariant.well c.loop-f.f-iterator.rest c.loop-f.joined c.loop-f.invariant step.0 c.in-Some.f step.1
    c.column_of-col.result c.column_of-col.ensures in
    record { column_formed = column.0; col_bound = column.1 }

pub with_row-joined-requires : goal.with_row-joined-requires
with_row-joined-requires c =
    let t = c.args.t in record {
      total_le_all_rows = joining_small t c.loop-f.invariant.well c.loop-f.f-iterator.rest c.loop-f.joined c.loop-f.invariant;
      row_bound = right_first t c.in-Some.f c.row-row.result (right_row (goal.at.with_row-joined-requires c).After-row-row);
    }

pub loop-f-preserved : goal.loop-f-preserved
loop-f-preserved c =
    let step = c.in-Some.ensures.steps in
    joining_more c.args.t c.loop-f.invariant.well c.loop-f.f-iterator.rest c.loop-f.joined c.loop-f.invariant step.0 c.in-Some.f step.1
    c.row-row.result c.with_row-joined.result _ (right_row (goal.at.loop-f-preserved c).After-row-row) c.with_row-joined.ensures
    (ap (λ (it : Facts). it.rest) step.2)

pub tell-requires : goal.tell-requires
tell-requires c = c.loop-f.invariant.well.limit_high

pub returns : goal.returns
returns c =
    let well = c.loop-f.invariant.well in
    let a = c.args in
    joining_solves a.t well a.room.now c.loop-f.f-iterator.rest c.in-None.ensures.steps.0 c.loop-f.joined c.loop-f.invariant
    (reply_of c.tell.result) c.tell.new.room c.tell.ensures.0 c.tell.ensures.1
