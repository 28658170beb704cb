-- `write_domain`: the test of the task, and then the whole text. Assumes nothing.
use mathlib.Core.Path.{◌≡◌, ap, sym, ◌∙◌}
use borrow.Author.Rules.{rules}
use Rattle.std.specs.Prelude.{Err}
use Rattle.table.proofs.OutcomeLaws.{refused_told}
use Rattle.table.specs.Outcomes.{Outcome, given, reply_of}
use Rattle.pddl.specs.Texts.{domain_text}
use Rattle.table.specs.Refusals.{not_well_formed}
use Rattle.pddlwriter.proofs.WritingLaws.{domain_unformed, domain_given}
use Rattle.pddlwriter.proofs.write_domain.Goals as goal

pub returns-then-not-is_formed : goal.returns-then-not-is_formed
returns-then-not-is_formed c =
    refused_told not_well_formed _ _ _ (ap (λ e. reply_of (Err e)) c.at.ensures)
    (domain_unformed _ _ (sym c.is_formed.ensures ∙ c.if-not-is_formed.true))

pub returns : goal.returns
returns c =
    let told : ◌≡◌ {A = Outcome} (record { reply = reply_of c.give.result; room = c.give.new.room }) (given (domain_text c.args.task.table) c.args.room.now) = search (rules, c.give.ensures) in
    told ∙ sym (domain_given _ _ (sym c.is_formed.ensures ∙ c.if-not-is_formed.false))
