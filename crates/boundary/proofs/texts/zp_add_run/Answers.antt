-- `zp_add_run`: the room for the answer first, then what putting the run to the task gives; the task's words are written where it was accepted.
use native.Mathlib.Omega.{arith}
use Rattle.taskwords.proofs.AnsweringLaws.{answers_given}
use mathlib.Core.Path.{refl, sym}
use Rattle.taskwords.specs.Answers.{changed_words}
use Rattle.boundary.proofs.ChangingLaws.{added_length}
use Rattle.boundary.proofs.texts.zp_add_run.Goals as goal

pub give_back-requires : goal.give_back-requires
give_back-requires c =
    added_length _ _ _ _ _ (rw (c.task_in-t.ensures, sym c.from-number.ensures) at c.add_run.ensures)

pub returns : goal.returns
returns c =
    let done = c.from-number.result in
    answers_given (changed_words done.number done.place) (omega (arith, c.if-answer-lt-CHANGED_WORDS.false))
    (done, (rw (c.task_in-t.ensures, sym c.from-number.ensures) at c.add_run.ensures, c.give_back.ensures), refl) c.give_changed.ensures
