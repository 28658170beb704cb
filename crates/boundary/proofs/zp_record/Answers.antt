-- `zp_record`: the room first, then what the record reader gives.
use native.Mathlib.Omega.{arith}
use Rattle.taskwords.proofs.AnsweringLaws.{answers_given}
use mathlib.Core.Path.{ap, ◌∙◌}
use Rattle.taskwords.specs.Answers.{record_words}
use Rattle.boundary.proofs.zp_record.Goals as goal

pub returns : goal.returns
returns c =
    answers_given (record_words c.from-found.result) (omega (arith, c.if-answer-lt-RECORD_WORDS.false))
    (ap record_words (c.from-found.ensures ∙ c.record_at.ensures)) c.give_record.ensures
