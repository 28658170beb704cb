-- `session::list` meets its contract: a law for each way out. Assumes nothing.
use mathlib.Core.Path.{sym, ap, ◌∙◌}
use borrow.Author.Rules.{rules}
use Rattle.std.specs.Prelude.{Err}
use Rattle.table.proofs.OutcomeLaws.{refused_told}
use Rattle.table.proofs.Formation.{formed_well}
use Rattle.table.specs.Outcomes.{reply_of}
use Rattle.table.specs.Refusals.{not_well_formed, not_a_session}
use Rattle.table.specs.Tasks.{Shaped}
use Rattle.session.proofs.CallLaws.{listed_malformed, listed_not_a_session, listed_told}
use Rattle.session.proofs.FormLaws.{in_form_readable}
use Rattle.session.specs.Calls.{listed}
use Rattle.session.proofs.list.Goals as goal

pub returns-then-not-is_formed : goal.returns-then-not-is_formed
returns-then-not-is_formed c =
    let a = c.args in
    refused_told not_well_formed _ a.room.now (listed a.t a.table.now a.room.now) (ap (λ e. reply_of (Err e)) c.at.ensures)
    (listed_malformed a.t a.table.now a.room.now (sym c.is_formed.ensures ∙ c.if-not-is_formed.true))

pub returns-then-not-is_in_form : goal.returns-then-not-is_in_form
returns-then-not-is_in_form c =
    let a = c.args in
    let shaped : Shaped a.t = search rules in
    refused_told not_a_session _ a.room.now (listed a.t a.table.now a.room.now) (ap (λ e. reply_of (Err e)) c.at-then-not-is_in_form.ensures)
    (listed_not_a_session a.t a.table.now a.room.now (formed_well a.t shaped (sym c.is_formed.ensures ∙ c.if-not-is_formed.false))
    (sym c.is_in_form.ensures ∙ c.if-not-is_in_form.true))

pub report-requires : goal.report-requires
report-requires c =
    let a = c.args in
    let shaped : Shaped a.t = search rules in
    let well = formed_well a.t shaped (sym c.is_formed.ensures ∙ c.if-not-is_formed.false) in
    record {
      well_formed = well;
      readable = in_form_readable a.t well a.table.now (sym c.is_in_form.ensures ∙ c.if-not-is_in_form.false);
    }

pub returns : goal.returns
returns c =
    let a = c.args in
    let shaped : Shaped a.t = search rules in
    c.report.ensures ∙
    sym (listed_told a.t a.table.now a.room.now (formed_well a.t shaped (sym c.is_formed.ensures ∙ c.if-not-is_formed.false))
    (sym c.is_in_form.ensures ∙ c.if-not-is_in_form.false))
