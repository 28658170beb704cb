-- `line_if_in` puts the line where the test holds, and nothing where it does not.
use mathlib.Core.Path.{sym, ◌∙◌}
use Rattle.room.proofs.PlacingLaws.{placed_none}
use Rattle.pddlwriter.proofs.lines.line_if_in.Goals as goal

pub put_line-requires : goal.put_line-requires
put_line-requires c =
    rw (sym c.contains.ensures ∙ c.if-contains.true) at c.requires

pub returns-then-contains : goal.returns-then-contains
returns-then-contains c =
    rw (sym c.contains.ensures ∙ c.if-contains.true) c.put_line.ensures

pub returns : goal.returns
returns c = rw (sym c.contains.ensures ∙ c.if-contains.false) (placed_none _ _)
