-- `whole_domain` places the parts of the text one after another.
use Rattle.room.proofs.PlacingLaws.{placed_more}
use Rattle.pddl.specs.Texts.{domain_text}
use Rattle.pddlwriter.proofs.texts.whole_domain.Goals as goal

pub returns : goal.returns
unfolding domain_text
returns c =
    placed_more
    (placed_more
    (placed_more (placed_more c.put_word-next.ensures c.predicates-next.ensures) c.put_word-next-2.ensures)
    c.put_actions-next.ensures)
    c.put_word.ensures
