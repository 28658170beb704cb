-- `put_table` places the sizes and the limit, then needs, adds, deletes and locks.
use Rattle.room.proofs.PlacingLaws.{placed_more}
use Rattle.taskwords.specs.Words.{table_out}
use Rattle.taskwords.proofs.answer.put_table.Goals as goal

pub returns : goal.returns
unfolding table_out
returns c =
    placed_more
    (placed_more
    (placed_more (placed_more c.put_words-next.ensures c.put_words-next-2.ensures) c.put_words-next-3.ensures)
    c.put_words-next-4.ensures)
    c.put_words.ensures
