-- `zp_listing`: the room for the answer first, then what listing the input gives.
use native.Mathlib.Omega.{arith}
use mathlib.Core.Path.{refl, sym}
use Rattle.taskwords.specs.Answers.{reply_words}
use Rattle.taskwords.proofs.AnsweringLaws.{answers_given}
use Rattle.boundary.proofs.zp_listing.Goals as goal

pub returns : goal.returns
returns c =
    answers_given (reply_words c.from-reply.result) (omega (arith, c.if-answer-lt-REPLY_WORDS.false))
    (c.from-reply.result, rw (sym c.from-reply.ensures) at c.listing.ensures, refl) c.give_reply.ensures
