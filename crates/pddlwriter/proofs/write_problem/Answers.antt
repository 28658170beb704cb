-- `write_problem`: the two tests in order, and then the text of the run. Assumes nothing.
use mathlib.Core.Path.{◌≡◌, ap, sym, ◌∙◌}
use native.Mathlib.Omega.{arith}
use borrow.Author.Rules.{rules}
use Rattle.std.specs.Prelude.{Err}
use Rattle.table.proofs.OutcomeLaws.{refused_told}
use Rattle.table.specs.Outcomes.{Outcome, given, reply_of}
use Rattle.table.specs.Refusals.{not_well_formed, not_there}
use Rattle.pddlwriter.specs.Writing.{problem_of}
use Rattle.pddlwriter.proofs.WritingLaws.{problem_unformed, problem_missing, problem_given}
use Rattle.pddlwriter.proofs.write_problem.Goals as goal

pub returns-then-not-is_formed : goal.returns-then-not-is_formed
returns-then-not-is_formed c =
    let tested = c.is_formed.ensures in
    refused_told not_well_formed _ _ _ (ap (λ e. reply_of (Err e)) c.at.ensures)
    (problem_unformed _ _ _ (sym tested ∙ c.if-not-is_formed.true))

pub returns-then-task-run : goal.returns-then-task-run
returns-then-task-run c =
    refused_told not_there _ _ _ (ap (λ e. reply_of (Err e)) c.at-then-task-run.ensures)
    (problem_missing _ _ _ (sym c.is_formed.ensures ∙ c.if-not-is_formed.false) (omega (arith, c.if-task-run.true)))

pub returns : goal.returns
returns c =
    let told : ◌≡◌ {A = Outcome} (record { reply = reply_of c.give.result; room = c.give.new.room }) (given (problem_of c.args.task c.args.run) c.args.room.now) = search (rules, c.give.ensures) in
    problem_given _ _ _ _ (sym c.is_formed.ensures ∙ c.if-not-is_formed.false) (omega (arith, c.if-task-run.false)) told
