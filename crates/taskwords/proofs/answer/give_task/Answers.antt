-- `give_task` places the number, the place and the words of the task.
use native.Mathlib.Omega.{arith}
use Rattle.room.proofs.PlacingLaws.{placed_more}
use Rattle.taskwords.proofs.PuttingLaws.{given_words}
use mathlib.Core.Path.{◌≡◌}
use lib.ListN.{length}
use Rattle.taskwords.specs.Words.{table_out, table_words}
use Rattle.taskwords.proofs.WordLaws.{table_length, answer_length}
use Rattle.table.specs.Tasks.{Shaped}
use borrow.Author.Rules.{rules}
use Rattle.taskwords.proofs.answer.give_task.Goals as goal

pub put_runs-requires : goal.put_runs-requires
put_runs-requires c =
    let shaped : Shaped c.args.found.task = search rules in
    let whole : length (table_out c.args.found.task.table) ≡ table_words = let s = shaped in table_length c.args.found.task.table s.needs s.adds s.deletes s.locks in
    omega (arith, c.put_table-next.ensures.next_is, c.put_words-next.ensures.next_is, whole)

pub returns : goal.returns
returns c =
    let shaped : Shaped c.args.found.task = search rules in
    given_words (answer_length c.args.found.number c.args.found.place c.args.found.task (shaped))
    (placed_more (placed_more c.put_words-next.ensures c.put_table-next.ensures) c.put_runs.ensures)
