-- `search::row::row_of_choice` meets its contract: the row has the chosen codes passed. Assumes nothing.
use mathlib.Core.Path.{◌≡◌}
use Prim.Native.Nat.{◌≤◌}
use Rattle.table.specs.Sizes.{per_fact}
use Rattle.search.proofs.RowLaws.{row_below}
use Rattle.search.proofs.row.row_of_choice.Given as goal

abbrev pub invariant-loop-code : goal.invariant-loop-code
invariant-loop-code l =
    (l.code-iterator.set ≡ l.fn.s) × (l.code-iterator.from ≤ per_fact) × (l.row ≡ row_below l.f l.fn.s l.code-iterator.from)
