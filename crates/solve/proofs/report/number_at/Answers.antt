-- `solve::report::number_at` meets its contract: a row stands at its fact's places, and neither the row nor the table has a number past
-- its end. Assumes nothing.
use mathlib.Core.List.{List}
use mathlib.Core.Path.{◌≡◌, sym, ◌∙◌}
use Prim.Native.Nat.{ℕ, ◌+◌, ◌*◌, ◌<◌, ◌≤◌}
use native.Mathlib.Omega.{arith}
use lib.ListN.{length, get_or, get_or-eq_default}
use Rattle.table.specs.Sizes.{row_places}
use Rattle.rows.specs.Tables.{row_at}
use Rattle.rows.proofs.TableLaws.{row_number}
use Rattle.solve.proofs.report.number_at.Goals as goal

table-end : (s : List ℕ) (f i : ℕ) → i < row_places → length s ≤ row_places * f + i → get_or (row_at s f) i 0 ≡ 0
table-end s f i h past = row_number s f i h ∙ get_or-eq_default s 0 past

pub returns-in-None : goal.returns-in-None
returns-in-None c =
    let a = c.args in
    sym (table-end a.table.now a.f a.i c.if-i-ge-ROW_PLACES.false (omega (arith, c.in-None.ensures.lookup.3)))
