-- `rows::put` meets its contract: the row is copied to its place, and no other row is touched. Assumes nothing.
use borrow.Author.Rules.{rules}
use Rattle.rows.proofs.TableLaws.{row_written}
use Rattle.rows.proofs.put.Goals as goal

pub returns : goal.returns
returns c =
    row_written c.args.f c.args.table.now c.args.row c.copy.new.to c.requires.f_lt_max_facts c.requires.all_rows_in_bounds (search rules) c.copy.ensures
