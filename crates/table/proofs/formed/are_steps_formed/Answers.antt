use Prim.Native.Nat.{ℕ, ◌*◌, ◌<◌, ◌≤◌}
use native.Mathlib.Omega.{arith}
use Rattle.table.specs.Counting.{every_below}
use Rattle.table.specs.Passes.{CountsFit, of_runs}
use Rattle.table.specs.Sizes.{max_runs, max_steps}
use Rattle.table.specs.Tasks.{count_of, step_formed}
use Rattle.table.specs.declared.Runs.{Runs}
use Rattle.table.proofs.CountingLaws.{every_below_none, at_end}
use Rattle.table.proofs.PassLaws.{run_pass, rest_pass}
use Rattle.table.proofs.formed.are_steps_formed.Goals as goal

-- a run that is used has at most 64 steps
used_high : {r : Runs} (i : ℕ) → CountsFit r → r.many ≤ max_runs → i < r.many → count_of r i ≤ max_steps
used_high i fit many l = fit.high i (omega (arith, many, l))

pub loop-i-init : goal.loop-i-init
loop-i-init c = every_below_none _

pub overflow_add-used : goal.overflow_add-used
overflow_add-used c =
    omega (arith, used_high c.loop-i.i c.requires.counts_fit c.requires.many_le_max_runs (omega arith), c.requires.many_le_max_runs)

pub are_below-requires : goal.are_below-requires
are_below-requires c =
    omega (arith, used_high c.loop-i.i c.requires.counts_fit c.requires.many_le_max_runs (omega arith), c.requires.many_le_max_runs)

pub are_below-requires-in-loop-i : goal.are_below-requires-in-loop-i
are_below-requires-in-loop-i c =
    omega (arith, used_high c.loop-i.i c.requires.counts_fit c.requires.many_le_max_runs (omega arith), c.requires.many_le_max_runs)

pub loop-i-preserved : goal.loop-i-preserved
loop-i-preserved c =
    let a = c.args in
    run_pass (of_runs a.runs a.actions) c.loop-i.i (used_high c.loop-i.i c.requires.counts_fit c.requires.many_le_max_runs (omega arith)) c.are_below.ensures c.are_below-in-loop-i.ensures c.loop-i.invariant

pub are_below-requires-2 : goal.are_below-requires-2
are_below-requires-2 c = omega (arith, c.requires.many_le_max_runs)

pub returns : goal.returns
returns c =
    let t = let a = c.args in of_runs a.runs a.actions in
    rest_pass t c.requires.many_le_max_runs c.requires.counts_fit.none c.are_below-2.ensures
    (at_end (λ i. every_below (step_formed t) (max_steps * i)) c.loop-i.i t.runs.many c.loop-i.auto.i-end (omega arith) c.loop-i.invariant)
