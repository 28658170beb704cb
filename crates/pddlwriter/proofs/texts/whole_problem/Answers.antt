-- `whole_problem` places the parts of the text one after another.
use Rattle.room.proofs.PlacingLaws.{placed_more}
use Rattle.pddl.specs.Texts.{problem_text}
use Rattle.pddlwriter.proofs.texts.whole_problem.Goals as goal

pub returns : goal.returns
unfolding problem_text
returns c =
    placed_more
    (placed_more
    (placed_more (placed_more c.put_word-next.ensures c.set_lines-next.ensures) c.put_word-next-2.ensures)
    c.set_lines-next-2.ensures)
    c.put_word.ensures
