-- `action_head`: the word's two fixed parts, around the number.
use Rattle.pddl.specs.Texts.{action_head}
use Rattle.pddlwords.proofs.action_head.Goals as goal

pub returns : goal.returns
unfolding action_head
returns c = c.named.ensures
