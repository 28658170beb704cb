-- `give_checked` places the five words of a run check.
use mathlib.Core.Path.{refl}
use Rattle.taskwords.proofs.PuttingLaws.{given_words}
use Rattle.taskwords.proofs.answer.give_checked.Goals as goal

pub returns : goal.returns
returns c = given_words refl c.put_words.ensures
