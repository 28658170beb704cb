-- `zp_apply`: the room for the answer first, then what applying the list gives; the task's words are written where it was accepted.
use native.Mathlib.Omega.{arith}
use mathlib.Core.Path.{refl, sym}
use Rattle.taskwords.specs.Answers.{changed_words}
use Rattle.taskwords.proofs.AnsweringLaws.{answers_given}
use Rattle.boundary.proofs.ChangingLaws.{applied_length}
use Rattle.boundary.proofs.zp_apply.Goals as goal

pub give_back-requires : goal.give_back-requires
give_back-requires c =
    applied_length _ _ _ (rw (c.task_in-t.ensures, sym c.from-number.ensures) at c.apply.ensures)

pub returns : goal.returns
returns c =
    let done = c.from-number.result in
    answers_given (changed_words done.number done.place) (omega (arith, c.if-answer-lt-CHANGED_WORDS.false))
    (done, (rw (c.task_in-t.ensures, sym c.from-number.ensures) at c.apply.ensures, c.give_back.ensures), refl) c.give_changed.ensures
