-- `table::formed::are_runs_formed` meets its contract: before run i `good` says that every run below i is formed. Assumes nothing.
use mathlib.Core.Path.{◌≡◌}
use Rattle.table.specs.Counting.{every_below}
use Rattle.table.specs.Tasks.{run_formed}
use Rattle.table.proofs.formed.are_runs_formed.Given as goal

abbrev pub invariant-loop-i : goal.invariant-loop-i
invariant-loop-i l = l.good ≡ every_below (run_formed l.t) l.i
