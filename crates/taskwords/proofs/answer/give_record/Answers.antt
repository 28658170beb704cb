-- `give_record` places the six words of a record.
use mathlib.Core.Path.{refl}
use Rattle.taskwords.proofs.PuttingLaws.{given_words}
use Rattle.taskwords.proofs.answer.give_record.Goals as goal

pub returns : goal.returns
returns c = given_words refl c.put_words.ensures
