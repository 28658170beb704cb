-- `Cursor::takes_head`: the head of the action is the word.
use mathlib.Core.Path.{◌∙◌}
use Rattle.pddlreader.proofs.cursor.Cursor.takes_head.Goals as goal

pub returns : goal.returns
returns c =
    rw (c.text.ensures ∙ c.action_head.ensures.text) at c.takes.ensures
