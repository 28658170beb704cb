-- `facts::without_fact` gives a set with a fact less.

use Rattle.facts.proofs.without_fact.Goals as goal

pub returns : goal.returns
returns c = rw (c.remove.ensures, c.single.ensures)
