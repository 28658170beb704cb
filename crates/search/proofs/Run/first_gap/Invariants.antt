-- `search::Run::first_gap` finds a place where the fact is missing, the first. The loop's invariant is the walk of ColumnLaws, and that
-- the fact was missing nowhere before.
use Prim.Native.Nat.{◌-◌}
use Rattle.search.specs.Runs.{run_of}
use Rattle.search.proofs.ColumnLaws.{Walked, NoneBefore}
use Rattle.search.proofs.Run.first_gap.Given as goal

abbrev pub invariant-loop-i : goal.invariant-loop-i
invariant-loop-i l = Walked l.self.col.now (run_of l.self) l.s l.present l.i × NoneBefore l.self.col.now (run_of l.self) l.s l.i

abbrev pub decreases-loop-i : goal.decreases-loop-i
decreases-loop-i l = l.self.count - l.i
