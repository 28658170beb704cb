-- `further_runs`: one run after another, from the second on.
use Prim.Native.Nat.{suc, ◌-◌}
use Rattle.room.proofs.Gathering.{Gathering}
use Rattle.taskformat.specs.Format.{further_run}
use Rattle.taskwriter.proofs.file.further_runs.Given as goal

abbrev pub invariant-loop-run : goal.invariant-loop-run
invariant-loop-run l =
    Gathering (λ k. further_run l.task (suc k)) (l.task.runs.many - 1) l.initial.room l.room l.at l.next (l.run - 1)
