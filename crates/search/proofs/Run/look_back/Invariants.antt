-- `search::Run::look_back` yields the last deleting step before j, or the start. The invariant: no step from i on deletes.
use Prim.Native.Nat.{◌≤◌}
use Rattle.search.specs.Runs.{run_of}
use Rattle.search.proofs.ConflictLaws.{NoDelete}
use Rattle.search.proofs.Run.look_back.Given as goal

abbrev pub invariant-loop-i : goal.invariant-loop-i
invariant-loop-i l = (l.i ≤ l.j) × NoDelete l.self.col.now (run_of l.self) l.s l.j l.i

abbrev pub decreases-loop-i : goal.decreases-loop-i
decreases-loop-i l = l.i
