-- `apply::first_wrong` meets its contract: the search finds the first wrong number, if there is one. Assumes nothing.
use mathlib.Core.Bool.{true, false}
use mathlib.Core.Path.{◌≡◌}
use borrow.Author.Rules.{rules}
use borrow.Author.Tests.{tests}
use Rattle.std.proofs.lemmas.Iterator.{first_from_Range}
use Rattle.table.specs.Tasks.{cells_of}
use Rattle.apply.specs.Applying.{wrong_at}
use Rattle.apply.proofs.PermittedLaws.{first_wrong_searched}
use Rattle.apply.proofs.first_wrong.Goals as goal

pub returns : goal.returns
returns c =
    let a = c.args in
    first_wrong_searched (cells_of a.t) a.list.now _
    (first_from_Range _ _ _ _ (λ i. wrong_at (cells_of a.t) a.list.now i ≡ true) (λ i. wrong_at (cells_of a.t) a.list.now i ≡ false)
    c.find.ensures.ran (λ x q k. search (rules, tests)) (λ x q k. search (rules, tests)))
