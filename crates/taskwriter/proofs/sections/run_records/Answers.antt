-- `run_records` places the opening of the run, its start and goal facts, and its steps.
use Prim.Native.Nat.{◌+◌, ◌≤◌}
use native.Mathlib.Omega.{arith}
use lib.ListN.{length, length-append}
use Rattle.room.specs.Placing.{last_place}
use Rattle.room.proofs.PlacingLaws.{placed_more}
use Rattle.taskwriter.specs.Pieces.{both_sets, steps_from, run_with}
use Rattle.taskwriter.proofs.sections.run_records.Goals as goal

pub put-next-requires : goal.put-next-requires
unfolding run_with
put-next-requires c =
    let run_fits : let a = c.args in a.at + (1 + length (both_sets a.facts a.start a.goal) + length (steps_from a.steps.now a.run a.count)) ≤ last_place = simp length-append at c.requires.0 in
    omega (arith, run_fits)

pub set_records-next-requires : goal.set_records-next-requires
unfolding run_with
set_records-next-requires c =
    let run_fits : let a = c.args in a.at + (1 + length (both_sets a.facts a.start a.goal) + length (steps_from a.steps.now a.run a.count)) ≤ last_place = simp length-append at c.requires.0 in
    (omega (arith, run_fits, c.put-next.ensures.next_is), c.requires.1)

pub step_records-requires : goal.step_records-requires
unfolding run_with
step_records-requires c =
    let run_fits : let a = c.args in a.at + (1 + length (both_sets a.facts a.start a.goal) + length (steps_from a.steps.now a.run a.count)) ≤ last_place = simp length-append at c.requires.0 in
    (omega (arith, run_fits, c.put-next.ensures.next_is, c.set_records-next.ensures.next_is), c.requires.2, c.requires.3)

pub returns : goal.returns
unfolding run_with
returns c =
    placed_more (placed_more (rw c.number.ensures at c.put-next.ensures) c.set_records-next.ensures) c.step_records.ensures
