-- `facts::overlap` gives the facts of both: the operation is the definition.
use mathlib.Core.Path.{refl}
use Rattle.facts.specs.Sets.{shared}
use Rattle.facts.proofs.overlap.Goals as goal

pub returns : goal.returns
unfolding shared
returns c = refl
