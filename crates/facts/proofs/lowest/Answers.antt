-- `facts::lowest` is the machine's count of bits, which fits.
use mathlib.Core.Path.{refl}
use native.Mathlib.Omega.{arith}
use Rattle.facts.specs.Sets.{lowest}
use Rattle.facts.proofs.Counting.{lowest_le}
use Rattle.facts.proofs.lowest.Goals as goal

pub overflow_cast-result : goal.overflow_cast-result
unfolding lowest
overflow_cast-result c = omega (arith, lowest_le c.args.m)

pub returns : goal.returns
unfolding lowest
returns c = refl
