-- `give_back` writes the changed task's words where the call was accepted, and nothing otherwise.
use native.Mathlib.Omega.{arith}
use mathlib.Core.Path.{◌≡◌, sym}
use lib.ListN.{length}
use Rattle.room.proofs.PlacingLaws.{placed_more}
use Rattle.taskwords.specs.Words.{table_out, table_words}
use Rattle.taskwords.proofs.LendingLaws.{lent_back_kept, lent_back_filled}
use Rattle.taskwords.proofs.WordLaws.{table_length}
use Rattle.table.specs.Tasks.{Shaped}
use borrow.Author.Rules.{rules}
use Rattle.taskwords.proofs.answer.give_back.Goals as goal

pub returns-then-number-ne-ACCEPTED : goal.returns-then-number-ne-ACCEPTED
returns-then-number-ne-ACCEPTED c = sym (lent_back_kept _ _ _ c.if-number-ne-ACCEPTED.true)

pub put_runs-requires : goal.put_runs-requires
put_runs-requires c =
    let shaped : Shaped c.args.changed = search rules in
    let whole : length (table_out c.args.changed.table) ≡ table_words = let s = shaped in table_length c.args.changed.table s.needs s.adds s.deletes s.locks in
    omega (arith, c.put_table-next.ensures.next_is, whole)

pub returns : goal.returns
returns c =
    let shaped : Shaped c.args.changed = search rules in
    lent_back_filled c.args.task.now c.args.number c.args.changed c.if-number-ne-ACCEPTED.false (c.requires c.if-number-ne-ACCEPTED.false) (shaped)
    (placed_more c.put_table-next.ensures c.put_runs.ensures)
