-- `facts::join` gives the facts of either: the operation is the definition.
use mathlib.Core.Path.{refl}
use Rattle.facts.specs.Sets.{joined}
use Rattle.facts.proofs.join.Goals as goal

pub returns : goal.returns
unfolding joined
returns c = refl
