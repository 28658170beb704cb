-- `copy_steps` fills its room step by step, as far as there are steps.
use Prim.Native.Nat.{◌+◌, ◌≤◌}
use lib.ListN.{get_or}
use Rattle.table.specs.Sizes.{all_steps}
use Rattle.taskwords.specs.Words.{step_in, steps_at}
use Rattle.taskwords.proofs.FillingLaws.{Begun}
use Rattle.taskwords.proofs.words.copy_steps.Given as goal

abbrev pub invariant-loop-i : goal.invariant-loop-i
invariant-loop-i l = (l.i ≤ l.used) × Begun (λ k. step_in (get_or l.words (steps_at + k) 0)) all_steps l.steps l.i
