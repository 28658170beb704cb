-- `Cursor::takes_line`: the line of the fact is the word.
use mathlib.Core.Path.{◌∙◌}
use Rattle.pddlreader.proofs.cursor.Cursor.takes_line.Goals as goal

pub returns : goal.returns
returns c =
    rw (c.text.ensures ∙ c.of.ensures.text) at c.takes.ensures
