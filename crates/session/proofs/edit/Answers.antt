-- `session::edit` meets its contract: a law for each way out. Assumes nothing.
use mathlib.Core.Bool.{true, not}
use mathlib.Core.Path.{◌≡◌, sym, ap, ◌∙◌, subst}
use borrow.Author.Rules.{rules}
use native.Mathlib.Omega.{arith}
use Rattle.change.proofs.EditLaws.{edited_exactly, edited_well}
use Rattle.change.specs.Editing.{edited, cell_inside, leaves_lock, accepts}
use Rattle.table.proofs.FlagLaws.{and_both}
use Rattle.table.proofs.Formation.{told_formed}
use Rattle.table.proofs.Strides.{session_places_rows}
use Rattle.table.specs.Refusals.{not_well_formed, not_a_session, not_there, lock_without_need}
use Rattle.table.specs.Tasks.{Shaped, WellFormed}
use Rattle.session.proofs.CallLaws.{edit_malformed, edit_not_a_session, edit_outside, edit_locked, edits_refused, edits_done, edited_low}
use Rattle.session.proofs.edit.Goals as goal

pub returns-then-not-is_formed : goal.returns-then-not-is_formed
returns-then-not-is_formed c =
    let a = c.args in
    rw (c.returning.ensures, c.at.ensures)
    (edits_refused a.t a.table.now a.e not_well_formed (omega arith)
    (edit_malformed a.t a.table.now a.e (sym c.is_formed.ensures ∙ c.if-not-is_formed.true)))

pub returns-then-table-ne-SESSION_PLACES : goal.returns-then-table-ne-SESSION_PLACES
returns-then-table-ne-SESSION_PLACES c =
    let a = c.args in
    rw (c.returning-then-table-ne-SESSION_PLACES.ensures, c.at-then-table-ne-SESSION_PLACES.ensures)
    (edits_refused a.t a.table.now a.e not_a_session (omega arith)
    (edit_not_a_session a.t a.table.now a.e (sym c.is_formed.ensures ∙ c.if-not-is_formed.false) c.if-table-ne-SESSION_PLACES.true))

pub returns-then-not-is_inside : goal.returns-then-not-is_inside
returns-then-not-is_inside c =
    let a = c.args in
    rw (c.returning-then-not-is_inside.ensures, c.at-then-not-is_inside.ensures)
    (edits_refused a.t a.table.now a.e not_there (omega arith)
    (edit_outside a.t a.table.now a.e (sym c.is_formed.ensures ∙ c.if-not-is_formed.false) c.if-table-ne-SESSION_PLACES.false
    (sym c.is_inside.ensures ∙ c.if-not-is_inside.true)))

pub returns-then-leaves_lock : goal.returns-then-leaves_lock
returns-then-leaves_lock c =
    let a = c.args in
    rw (c.returning-then-leaves_lock.ensures, c.at-then-leaves_lock.ensures)
    (edits_refused a.t a.table.now a.e lock_without_need (omega arith)
    (edit_locked a.t a.table.now a.e (sym c.is_formed.ensures ∙ c.if-not-is_formed.false) c.if-table-ne-SESSION_PLACES.false
    (sym c.is_inside.ensures ∙ c.if-not-is_inside.false) (sym c.leaves_lock.ensures ∙ c.if-leaves_lock.true)))

pub put_row-requires : goal.put_row-requires
put_row-requires c =
    let shaped : Shaped c.args.t = search rules in
    let well = told_formed c.args.t shaped c.is_formed.ensures (ap not c.if-not-is_formed.false) in
    let inside : cell_inside c.args.t c.args.e.cell ≡ true = sym c.is_inside.ensures ∙ c.if-not-is_inside.false in
    let made : accepts c.args.t c.args.e ≡ true =
    and_both (cell_inside c.args.t c.args.e.cell) (not (leaves_lock c.args.t c.args.e)) inside
    (ap not (sym c.leaves_lock.ensures ∙ c.if-leaves_lock.false)) in
    let a = c.args in record {
      well_formed = subst WellFormed (sym c.set_cell-task.ensures)
          (edited_well a.t a.e (edited a.t a.e) (edited_exactly a.t a.e well inside) well made);
      f_lt_facts = edited_low a.t a.e well inside c.set_cell-task.ensures c.cell_fact-fact.ensures;
      all_rows_in_bounds = omega (arith, c.if-table-ne-SESSION_PLACES.false, session_places_rows);
    }

pub returns : goal.returns
returns c =
    let shaped : Shaped c.args.t = search rules in
    let well = told_formed c.args.t shaped c.is_formed.ensures (ap not c.if-not-is_formed.false) in
    let inside : cell_inside c.args.t c.args.e.cell ≡ true = sym c.is_inside.ensures ∙ c.if-not-is_inside.false in
    let made : accepts c.args.t c.args.e ≡ true =
    and_both (cell_inside c.args.t c.args.e.cell) (not (leaves_lock c.args.t c.args.e)) inside
    (ap not (sym c.leaves_lock.ensures ∙ c.if-leaves_lock.false)) in
    let a = c.args in
    edits_done a.t a.table.now a.e well c.if-table-ne-SESSION_PLACES.false made c.set_cell-task.ensures
    c.cell_fact-fact.ensures c.put_row.ensures
