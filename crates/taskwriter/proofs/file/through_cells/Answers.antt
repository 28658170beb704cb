-- `through_cells` places needs, adds, deletes and locks after the goals.
use Rattle.room.proofs.PlacingLaws.{placed_more}
use Rattle.taskwriter.specs.Pieces.{through_cells}
use Rattle.taskwriter.proofs.file.through_cells.Goals as goal

pub returns : goal.returns
unfolding through_cells
returns c =
    placed_more
    (placed_more
    (placed_more (placed_more c.through_goals-next.ensures c.cell_records-next.ensures) c.cell_records-next-2.ensures)
    c.cell_records-next-3.ensures)
    c.cell_records.ensures
