-- `through_goals` places the sizes, and the start facts and the goal facts of the first run.
use mathlib.Core.Path.{ap}
use native.Mathlib.Omega.{arith}
use lib.ListN.{length}
use Rattle.room.proofs.PlacingLaws.{placed_more}
use Rattle.taskformat.specs.Format.{set_records}
use Rattle.taskwriter.specs.Pieces.{both_sets, through_goals}
use Rattle.taskwriter.proofs.SectionLength.{sets_are, sets_fit}
use Rattle.taskwriter.proofs.file.through_goals.Goals as goal

pub set_records-requires : goal.set_records-requires
set_records-requires c =
    let t = c.args.task in
    (omega (arith, sets_fit t c.requires, ap length (sets_are t 0)), c.requires.facts_high)

pub returns : goal.returns
unfolding through_goals set_records both_sets
returns c =
    placed_more c.sizes-next.ensures c.set_records.ensures
