-- `search::Run::actions_between` gathers the actions of the steps between two places. The invariant: those before i are in.
use Prim.Native.Nat.{◌≤◌, ◌-◌, max}
use Rattle.search.specs.Gaps.{ActionsOf}
use Rattle.search.specs.Runs.{run_of}
use Rattle.search.proofs.Run.actions_between.Given as goal

abbrev pub invariant-loop-i : goal.invariant-loop-i
invariant-loop-i l = (l.start ≤ l.i) × (l.i ≤ max l.start l.end) × ActionsOf (run_of l.self).step l.start l.i l.found

abbrev pub decreases-loop-i : goal.decreases-loop-i
decreases-loop-i l = l.end - l.i
