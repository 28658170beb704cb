-- `zp_read`: the room first, then what reading the file gives.
use native.Mathlib.Omega.{arith}
use Rattle.taskwords.proofs.AnsweringLaws.{answers_given}
use mathlib.Core.Path.{refl, sym}
use Rattle.taskwords.specs.Answers.{task_answer}
use Rattle.boundary.proofs.zp_read.Goals as goal

pub returns : goal.returns
returns c =
    let found = c.from.result in
    answers_given (task_answer found.number found.place found.task) (omega (arith, c.if-answer-lt-TASK_ANSWER_WORDS.false))
    (found, rw (sym c.from.ensures) at c.read.ensures, refl) c.give_task.ensures
