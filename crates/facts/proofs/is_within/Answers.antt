-- `facts::is_within` tests against the full mask below n.
use native.Mathlib.Omega.{arith}
use Rattle.facts.proofs.Words.{le_below}
use Rattle.facts.proofs.is_within.Goals as goal

pub returns : goal.returns
returns c = rw c.below_mask.ensures (le_below c.args.m c.args.n (omega arith))
