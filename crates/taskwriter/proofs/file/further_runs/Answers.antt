use mathlib.Core.Path.{◌≡◌}
use Prim.Native.Nat.{◌+◌, ◌-◌}
use native.Mathlib.Omega.{arith}
use Rattle.room.proofs.Gathering.{begun, next_fits, one_more}
use Rattle.taskwriter.proofs.SectionLength.{run_is}
use Rattle.taskwriter.proofs.file.further_runs.Goals as goal

pub loop-run-init : goal.loop-run-init
loop-run-init c = begun _ _ _ _ c.requires.task_bound

pub run_records-next-requires : goal.run_records-next-requires
run_records-next-requires c =
    let t = c.args.task in
    let run = c.loop-run.run in
    (rw (run_is t run (omega arith)) (next_fits c.loop-run.invariant (omega arith)), c.requires.well_formed.facts_high, omega (arith, c.requires.well_formed.many_high), c.requires.well_formed.count_high run)

pub loop-run-preserved : goal.loop-run-preserved
loop-run-preserved c =
    let run = c.loop-run.run in
    let next : run + 1 - 1 ≡ run - 1 + 1 = omega arith in
    rw next (one_more c.loop-run.invariant (omega arith) (rw (← run_is c.args.task run (omega arith)) c.run_records-next.ensures))
