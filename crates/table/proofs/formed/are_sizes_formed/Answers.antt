-- `table::formed::are_sizes_formed` meets its contract: the six tests are the definition's, in its order. Assumes nothing.
use mathlib.Core.Path.{refl}
use Rattle.table.specs.Tasks.{sizes_formed}
use Rattle.table.proofs.formed.are_sizes_formed.Goals as goal

pub returns : goal.returns
unfolding sizes_formed
returns c = refl
