-- `search::Lent::some_shortest` tries the lengths in turn: when it comes to a length, every list has at least so many.
use mathlib.Core.List.{List}
use Prim.Native.Nat.{ℕ, ◌+◌, ◌-◌, ◌≤◌}
use lib.ListN.{length}
use Rattle.table.specs.Sizes.{max_row}
use Rattle.search.specs.Columns.{KeepsIn}
use Rattle.search.specs.Runs.{runs_of}
use Rattle.search.proofs.Lent.some_shortest.Given as goal

abbrev pub invariant-loop-left : goal.invariant-loop-left
invariant-loop-left l = (l.left ≤ max_row + 1) × ((xs : List ℕ) → KeepsIn l.self.col.now (runs_of l.self) xs → l.left ≤ length xs)

abbrev pub decreases-loop-left : goal.decreases-loop-left
decreases-loop-left l = max_row + 1 - l.left
