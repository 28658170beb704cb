-- `write`: the test of the task, and then the whole file. Assumes nothing.
use mathlib.Core.Path.{◌≡◌, ap, sym, ◌∙◌}
use borrow.Author.Rules.{rules}
use Rattle.std.specs.Prelude.{Err}
use Rattle.table.proofs.OutcomeLaws.{refused_told}
use Rattle.table.specs.Outcomes.{Outcome, given, reply_of}
use Rattle.table.specs.Refusals.{not_well_formed}
use Rattle.table.specs.Tasks.{WellFormed}
use Rattle.taskformat.specs.Format.{file_of}
use Rattle.taskwriter.proofs.WritingLaws.{is_well, written_unformed, written_given}
use Rattle.taskwriter.proofs.write.Goals as goal

pub returns-then-not-is_formed : goal.returns-then-not-is_formed
returns-then-not-is_formed c =
    refused_told not_well_formed _ _ _ (ap (λ e. reply_of (Err e)) c.at.ensures)
    (written_unformed _ _ (sym c.is_formed.ensures ∙ c.if-not-is_formed.true))

pub give-requires : goal.give-requires
give-requires c =
    let well : WellFormed c.args.task = is_well (search rules) c.is_formed.ensures c.if-not-is_formed.false in
    search (rules, well)

pub returns : goal.returns
returns c =
    let told : ◌≡◌ {A = Outcome} (record { reply = reply_of c.give.result; room = c.give.new.room }) (given (file_of c.args.task) c.args.room.now) = search (rules, c.give.ensures) in
    told ∙ sym (written_given _ _ (sym c.is_formed.ensures ∙ c.if-not-is_formed.false))
