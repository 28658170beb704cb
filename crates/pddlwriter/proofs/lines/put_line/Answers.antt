-- `put_line` puts the bytes that spell the line.
use mathlib.Core.Path.{◌∙◌}
use Rattle.pddlwriter.proofs.lines.put_line.Goals as goal

pub put_word-requires : goal.put_word-requires
put_word-requires c =
    rw (c.text.ensures ∙ c.of.ensures.text) c.requires

pub returns : goal.returns
returns c =
    rw (c.text.ensures ∙ c.of.ensures.text) at c.put_word.ensures
