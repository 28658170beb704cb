-- `zp_write_domain`: the room first, then what writing the domain text gives.
use native.Mathlib.Omega.{arith}
use Rattle.taskwords.proofs.AnsweringLaws.{answers_given}
use mathlib.Core.Path.{refl, sym}
use Rattle.taskwords.specs.Answers.{reply_words}
use Rattle.boundary.proofs.texts.zp_write_domain.Goals as goal

pub returns : goal.returns
returns c =
    answers_given (reply_words c.from-reply.result) (omega (arith, c.if-answer-lt-REPLY_WORDS.false))
    (c.from-reply.result, rw (c.task_in-t.ensures, sym c.from-reply.ensures) at c.write_domain.ensures, refl) c.give_reply.ensures
