-- `put_runs` places how many runs there are, then starts, goals, counts and steps.
use Rattle.room.proofs.PlacingLaws.{placed_more}
use Rattle.taskwords.specs.Words.{runs_out}
use Rattle.taskwords.proofs.answer.put_runs.Goals as goal

pub returns : goal.returns
unfolding runs_out
returns c =
    placed_more
    (placed_more
    (placed_more (placed_more c.put-next.ensures c.put_words-next.ensures) c.put_words-next-2.ensures)
    c.put_counts-next.ensures)
    c.put_steps.ensures
