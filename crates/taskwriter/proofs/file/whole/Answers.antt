-- `whole` places the steps of the first run, the further runs and the end after the cells.
use mathlib.Core.Path.{ap}
use native.Mathlib.Omega.{arith}
use lib.ListN.{length}
use Rattle.room.proofs.PlacingLaws.{placed_more}
use Rattle.taskformat.specs.Format.{step_records}
use Rattle.taskwriter.proofs.SectionLength.{file_is, steps_are, runs_fit}
use Rattle.taskwriter.proofs.file.whole.Goals as goal

pub step_records-next-requires : goal.step_records-next-requires
step_records-next-requires c =
    let t = c.args.task in
    (omega (arith, runs_fit t c.requires, ap length (steps_are t 0)), omega arith, c.requires.count_high 0)

pub further_runs-next-requires : goal.further_runs-next-requires
further_runs-next-requires c =
    let t = c.args.task in
    record {
      well_formed = c.requires;
      task_bound = omega (arith, runs_fit t c.requires, ap length (steps_are t 0));
    }

pub put-requires : goal.put-requires
put-requires c =
    let t = c.args.task in
    omega (arith, runs_fit t c.requires, ap length (steps_are t 0), c.through_cells-next.ensures, c.step_records-next.ensures)

pub returns : goal.returns
unfolding step_records
returns c =
    rw (file_is c.args.task)
    (placed_more
    (placed_more (placed_more c.through_cells-next.ensures c.step_records-next.ensures) c.further_runs-next.ensures)
    (rw c.number.ensures at c.put.ensures))
