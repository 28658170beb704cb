-- `search::Lent::lacking` takes one run after another: what is lacking as far as those before go.
use Prim.Native.Nat.{◌-◌, ◌≤◌}
use Rattle.search.specs.Runs.{runs_of}
use Rattle.search.specs.Searching.{LackingBelow}
use Rattle.search.proofs.Lent.lacking.Given as goal

abbrev pub invariant-loop-number : goal.invariant-loop-number
invariant-loop-number l =
    (l.number ≤ l.self.col.now.runs) × LackingBelow l.self.col.now (runs_of l.self) l.s l.out l.want l.number l.best

abbrev pub decreases-loop-number : goal.decreases-loop-number
decreases-loop-number l = l.self.col.now.runs - l.number
