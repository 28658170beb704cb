-- `addrun::add_run` meets its contract: a law for each way out. Assumes nothing.
use mathlib.Core.Path.{sym, ◌∙◌}
use borrow.Author.Rules.{rules}
use native.Mathlib.Omega.{arith}
use Rattle.table.specs.Tasks.{Shaped}
use Rattle.addrun.proofs.AddingLaws.{ninth_out, long_out, unformed_out, accepted_out}
use Rattle.addrun.proofs.add_run.Goals as goal

pub returns-then-task-ge-RUNS : goal.returns-then-task-ge-RUNS
returns-then-task-ge-RUNS c =
    let shaped : Shaped c.args.task = search rules in
    let a = c.args in
    rw (c.returning.ensures, c.at.ensures) (ninth_out a.task a.start a.goal a.steps.now shaped (omega arith))

pub returns-then-steps-gt-STEPS : goal.returns-then-steps-gt-STEPS
returns-then-steps-gt-STEPS c =
    let shaped : Shaped c.args.task = search rules in
    let a = c.args in
    rw (c.returning-then-steps-gt-STEPS.ensures, c.at-then-steps-gt-STEPS.ensures)
    (long_out a.task a.start a.goal a.steps.now shaped (omega arith) (omega arith))

pub returns-then-not-is_formed : goal.returns-then-not-is_formed
returns-then-not-is_formed c =
    let a = c.args in
    rw (c.returning-then-not-is_formed.ensures, c.at-then-not-is_formed.ensures)
    (unformed_out a.task a.start a.goal a.steps.now c.with_run-more.result c.with_run-more.ensures (sym c.is_formed.ensures ∙ c.if-not-is_formed.true))

pub returns : goal.returns
returns c =
    let a = c.args in
    accepted_out a.task a.start a.goal a.steps.now c.with_run-more.result c.with_run-more.ensures
    (sym c.is_formed.ensures ∙ c.if-not-is_formed.false)
