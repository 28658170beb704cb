-- `Line::of`: the word's two fixed parts, around the number.
use Rattle.pddl.specs.Texts.{fact_line, delete_line}
use Rattle.pddlwords.proofs.Line.of.Goals as goal

pub returns-in-Fact : goal.returns-in-Fact
unfolding fact_line
returns-in-Fact c = rw c.in-Fact.is c.named.ensures

pub returns-in-Deleted : goal.returns-in-Deleted
unfolding delete_line
returns-in-Deleted c = rw c.in-Deleted.is c.named-in-Deleted.ensures
