-- `facts::count` is the machine's count of bits, which fits.
use mathlib.Core.Path.{refl}
use native.Mathlib.Omega.{arith}
use Rattle.facts.specs.Sets.{count}
use Rattle.facts.proofs.Counting.{count_le}
use Rattle.facts.proofs.count.Goals as goal

pub overflow_cast-result : goal.overflow_cast-result
unfolding count
overflow_cast-result c = omega (arith, count_le c.args.m (omega arith))

pub returns : goal.returns
unfolding count
returns c = refl
