-- `search::Lent::reach` takes one set that is lacking after another. The invariant: every list has its share in the n sets so far.
use Prim.Native.Nat.{◌-◌, ◌≤◌}
use Rattle.search.specs.Runs.{runs_of}
use Rattle.search.proofs.BoundLaws.{Shared}
use Rattle.search.proofs.Lent.reach.Given as goal

abbrev pub invariant-loop-n : goal.invariant-loop-n
invariant-loop-n l = Shared l.self.col.now (runs_of l.self) l.initial.passed l.out l.want l.passed l.n × (l.n ≤ l.left)

abbrev pub decreases-loop-n : goal.decreases-loop-n
decreases-loop-n l = l.left - l.n
