-- `search::row::push` meets its contract. Assumes nothing.
use borrow.Author.Rules.{rules}
use Rattle.search.specs.Rows.{row_with}
use Rattle.search.proofs.row.push.Goals as goal

pub returns : goal.returns
unfolding row_with
returns c = search rules
