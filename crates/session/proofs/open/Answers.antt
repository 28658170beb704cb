-- `session::open` meets its contract: a law for each way out. Assumes nothing.
use mathlib.Core.Bool.{not}
use mathlib.Core.Path.{sym, ap, ◌∙◌}
use borrow.Author.Rules.{rules}
use native.Mathlib.Omega.{arith}
use Rattle.table.proofs.Formation.{told_formed}
use Rattle.table.proofs.Strides.{session_places_rows}
use Rattle.table.specs.Refusals.{not_well_formed, not_a_session}
use Rattle.table.specs.Tasks.{Shaped}
use Rattle.rows.proofs.TableLaws.{emptied_filled}
use Rattle.session.proofs.CallLaws.{open_malformed, open_not_a_session, opens_refused, opens_opened}
use Rattle.session.proofs.open.Goals as goal

pub returns-then-not-is_formed : goal.returns-then-not-is_formed
returns-then-not-is_formed c =
    let a = c.args in
    rw c.at.ensures
    (opens_refused a.t a.table.now not_well_formed (omega arith) (open_malformed a.t a.table.now (sym c.is_formed.ensures ∙ c.if-not-is_formed.true)))

pub returns-then-table-ne-SESSION_PLACES : goal.returns-then-table-ne-SESSION_PLACES
returns-then-table-ne-SESSION_PLACES c =
    let a = c.args in
    rw c.at-then-table-ne-SESSION_PLACES.ensures
    (opens_refused a.t a.table.now not_a_session (omega arith)
    (open_not_a_session a.t a.table.now (sym c.is_formed.ensures ∙ c.if-not-is_formed.false) c.if-table-ne-SESSION_PLACES.true))

pub fill-requires : goal.fill-requires
fill-requires c =
    let shaped : Shaped c.args.t = search rules in
    let well = told_formed c.args.t shaped c.is_formed.ensures (ap not c.if-not-is_formed.false) in
    let empty = c.empty_rows.ensures in
    record {
      well_formed = well;
      all_rows_in_bounds = omega (arith, empty.places, c.if-table-ne-SESSION_PLACES.false, session_places_rows);
      empty_rows = λ f h. empty.rows f h tt;
    }

pub returns : goal.returns
returns c =
    let a = c.args in
    opens_opened a.t a.table.now (sym c.is_formed.ensures ∙ c.if-not-is_formed.false) c.if-table-ne-SESSION_PLACES.false _
    (emptied_filled a.t a.table.now c.empty_rows.new.table _ c.empty_rows.ensures c.fill.ensures)
