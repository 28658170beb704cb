-- `table::permitted::is_repairable` meets its contract: each arm looks at the cell of its kind. Assumes nothing.
use borrow.Author.Tests.{ne_eqb}
use lib.ListN.{get_or}
use native.Mathlib.Omega.{arith}
use Rattle.facts.proofs.Laws.{has_removed}
use Rattle.table.specs.Repairs.{drop_delete, add_effect}
use Rattle.table.specs.Tasks.{cells_of}
use Rattle.table.proofs.permitted.is_repairable.Goals as goal

pub returns-in-0 : goal.returns-in-0
unfolding cells_of
returns-in-0 c = rw (c.in-0.is, c.contains.ensures)

pub returns-in-1 : goal.returns-in-1
unfolding cells_of
returns-in-1 c = rw (c.in-1.is, c.contains-in-1.ensures)

pub returns-in_default : goal.returns-in_default
unfolding cells_of
returns-in_default c =
    let a = c.args in
    rw (c.contains-in_default.ensures, c.remove.ensures, ne_eqb a.kind drop_delete (omega arith), ne_eqb a.kind add_effect (omega arith))
    (has_removed (get_or a.t.needs a.action 0) (get_or a.t.locks a.action 0) a.fact)
