-- `facts::with_fact` gives a set with a fact more.

use Rattle.facts.proofs.with_fact.Goals as goal

pub returns : goal.returns
returns c = rw (c.join.ensures, c.single.ensures)
