-- `facts::remove` gives the facts of one and not of the other: a complement, then a meet.
use native.Mathlib.Omega.{arith}
use Rattle.facts.proofs.Words.{removed_below}
use Rattle.facts.proofs.remove.Goals as goal

pub returns : goal.returns
returns c = removed_below c.args.a c.args.b (omega arith) (omega arith)
