-- `table::formed::are_steps_formed` meets its contract: before run i `good` says it of every step of the runs below i. Assumes nothing.
use mathlib.Core.Path.{◌≡◌}
use Prim.Native.Nat.{◌*◌}
use Rattle.table.specs.Counting.{every_below}
use Rattle.table.specs.Passes.{of_runs}
use Rattle.table.specs.Sizes.{max_steps}
use Rattle.table.specs.Tasks.{step_formed}
use Rattle.table.proofs.formed.are_steps_formed.Given as goal

abbrev pub invariant-loop-i : goal.invariant-loop-i
invariant-loop-i l = l.good ≡ every_below (step_formed (of_runs l.runs l.actions-2)) (max_steps * l.i)
