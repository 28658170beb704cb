-- `put_steps` places its array as far as the room goes.
use Prim.Native.Nat.{◌+◌, ◌-◌, ◌≤◌}
use lib.ListN.{take}
use Rattle.room.specs.Placing.{Placed}
use Rattle.taskwords.proofs.answer.put_steps.Given as goal

abbrev pub invariant-loop-i : goal.invariant-loop-i
invariant-loop-i l = (l.i ≤ l.count) × Placed l.initial.answer l.answer l.at (l.at + l.i) (take l.i l.steps)

abbrev pub decreases-loop-i : goal.decreases-loop-i
decreases-loop-i l = l.count - l.i
