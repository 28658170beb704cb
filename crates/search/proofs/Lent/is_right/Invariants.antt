-- `search::Lent::is_right` looks along one run after another: the fact is right in those before.
use Prim.Native.Nat.{◌-◌, ◌≤◌}
use Rattle.search.proofs.SearchLaws.{RightBelow}
use Rattle.search.specs.Runs.{runs_of}
use Rattle.search.proofs.Lent.is_right.Given as goal

abbrev pub invariant-loop-number : goal.invariant-loop-number
invariant-loop-number l = (l.number ≤ l.self.col.now.runs) × RightBelow l.self.col.now (runs_of l.self) l.s l.number

abbrev pub decreases-loop-number : goal.decreases-loop-number
decreases-loop-number l = l.self.col.now.runs - l.number
