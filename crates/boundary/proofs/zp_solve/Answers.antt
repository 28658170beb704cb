-- `zp_solve`: the room for the answer first, then what solving gives.
use native.Mathlib.Omega.{arith}
use mathlib.Core.Path.{refl, sym}
use Rattle.taskwords.specs.Answers.{reply_words}
use Rattle.taskwords.proofs.AnsweringLaws.{answers_given}
use Rattle.boundary.proofs.zp_solve.Goals as goal

pub returns : goal.returns
returns c =
    answers_given (reply_words c.from-reply.result) (omega (arith, c.if-answer-lt-REPLY_WORDS.false))
    (c.from-reply.result, rw (c.task_in-t.ensures, sym c.from-reply.ensures) at c.solve.ensures, refl) c.give_reply.ensures
