-- `rows::put_row` meets its contract: the fact's column is searched, and its row is the right one. Assumes nothing.
use Rattle.rows.proofs.TableLaws.{row_rewritten}
use Rattle.rows.proofs.put_row.Goals as goal

pub returns : goal.returns
returns c =
    row_rewritten c.args.t c.args.f c.column_of-col.result c.row-row.result c.args.table.now c.put.new.table c.column_of-col.ensures c.requires.f_lt_facts
    c.row-row.ensures c.put.ensures
