-- `apply::make_all` meets its contract: before a turn the numbers before it are made. Assumes nothing.
use mathlib.Core.Path.{◌≡◌}
use Rattle.change.specs.Kinds.{one_by_one}
use Rattle.apply.proofs.make_all.Given as goal

abbrev pub invariant-loop-n : goal.invariant-loop-n
invariant-loop-n l = l.after ≡ one_by_one l.initial.after l.list l.n-index
