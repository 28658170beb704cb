-- `addrun::with_run` meets its contract: each array with the run's part at its place. Assumes nothing.
use Prim.Native.Nat.{◌*◌}
use borrow.Author.Rules.{rules}
use native.Mathlib.Omega.{arith}
use lib.ListN.{length}
use mathlib.Core.Path.{◌≡◌}
use Rattle.table.specs.Sizes.{max_steps, all_steps}
use Rattle.addrun.specs.Adding.{with_run}
use Rattle.addrun.proofs.AddingLaws.{steps_stored}
use Rattle.addrun.proofs.with_run.Goals as goal

pub returns : goal.returns
unfolding with_run
returns c =
    let a = c.args in
    let long : length a.task.runs.steps ≡ all_steps = search rules in
    rw (steps_stored a.task.runs.steps a.steps.now c.copy_from_slice.new.self (max_steps * a.task.runs.many)
    (omega (arith, long, c.requires.many_lt_max_runs, c.requires.steps_len_bound)) c.copy_from_slice.ensures.after)
