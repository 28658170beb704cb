-- `zp_check`: the room first, then what the run check gives.
use native.Mathlib.Omega.{arith}
use Rattle.taskwords.proofs.AnsweringLaws.{answers_given}
use mathlib.Core.Path.{ap, ◌∙◌}
use Rattle.runcheck.specs.OpenNeeds.{checked}
use Rattle.table.specs.declared.Task.{Task}
use Rattle.taskwords.specs.Answers.{checked_words}
use Rattle.boundary.proofs.zp_check.Goals as goal

pub returns : goal.returns
returns c =
    let run = c.args.run in
    answers_given (checked_words c.from-found.result) (omega (arith, c.if-answer-lt-CHECKED_WORDS.false))
    (ap checked_words (c.from-found.ensures ∙ c.check_run.ensures ∙ ap (λ (t : Task). checked t run) c.task_in-t.ensures)) c.give_checked.ensures
