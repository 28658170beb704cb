-- `search::row::row_in` meets its contract: a law for each of its three answers. Assumes nothing.
use mathlib.Core.Path.{subst}
use Rattle.search.specs.Runs.{runs_of}
use Rattle.search.specs.Searching.{Rightness}
use Rattle.search.proofs.RowLaws.{over_row, hopeless_row}
use Rattle.search.proofs.row.row_in.Goals as goal

pub returns-then-is_right : goal.returns-then-is_right
returns-then-is_right c =
    let v = c.args.lent.now in
    over_row v.col.now (runs_of v) c.bare_row.result c.fullest.result c.in_default.ensures c.fullest.ensures
    (subst (Rightness v.col.now (runs_of v) c.fullest.result) c.if-is_right.true c.is_right.ensures) c.bare_row.ensures

pub returns-else-is_right : goal.returns-else-is_right
returns-else-is_right c =
    let v = c.args.lent.now in
    hopeless_row v.col.now (runs_of v) c.bare_row-else-is_right.result c.fullest.result c.fullest.ensures
    (subst (Rightness v.col.now (runs_of v) c.fullest.result) c.if-is_right.false c.is_right.ensures) c.bare_row-else-is_right.ensures
