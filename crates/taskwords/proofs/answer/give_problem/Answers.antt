-- `give_problem` places the four words of a problem text that was read.
use mathlib.Core.Path.{refl}
use Rattle.taskwords.proofs.PuttingLaws.{given_words}
use Rattle.taskwords.proofs.answer.give_problem.Goals as goal

pub returns : goal.returns
returns c = given_words refl c.put_words.ensures
