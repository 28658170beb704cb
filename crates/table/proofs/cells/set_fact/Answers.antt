-- `table::cells::set_fact` meets its contract: the fact is put in or taken out, by the value. Assumes nothing.

use Rattle.table.proofs.cells.set_fact.Goals as goal

pub returns-then-present : goal.returns-then-present
returns-then-present c = rw (c.if-present.true, c.with_fact.ensures)

pub returns-else-present : goal.returns-else-present
returns-else-present c = rw (c.if-present.false, c.without_fact.ensures)
