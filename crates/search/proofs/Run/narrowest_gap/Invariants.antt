-- `search::Run::narrowest_gap` finds a place where the fact is missing. The loop's invariant is the walk of ColumnLaws, and what is known
-- of the place chosen so far.
use Prim.Native.Nat.{◌-◌}
use Rattle.search.specs.Runs.{run_of}
use Rattle.search.proofs.ColumnLaws.{Walked, PlaceSo}
use Rattle.search.proofs.Run.narrowest_gap.Given as goal

abbrev pub invariant-loop-i : goal.invariant-loop-i
invariant-loop-i l = Walked l.self.col.now (run_of l.self) l.s l.present l.i × PlaceSo l.self.col.now (run_of l.self) l.s l.best l.i

abbrev pub decreases-loop-i : goal.decreases-loop-i
decreases-loop-i l = l.count - l.i
