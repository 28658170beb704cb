-- `table::formed::are_below` meets its contract: before each step `good` says that every step from `from` on and before it is below n. Assumes nothing.
use mathlib.Core.Path.{◌≡◌}
use Prim.Native.Nat.{◌+◌}
use Rattle.table.specs.Counting.{every_from}
use Rattle.table.specs.Passes.{step_below}
use Rattle.table.proofs.formed.are_below.Given as goal

abbrev pub invariant-loop-step : goal.invariant-loop-step
invariant-loop-step l = l.good ≡ every_from (step_below l.steps l.n) l.from (l.from + l.step-index)
