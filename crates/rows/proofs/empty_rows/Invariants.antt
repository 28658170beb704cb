-- `rows::empty_rows` meets its contract: before turn f the rows below f are empty. Assumes nothing.
use mathlib.Core.Path.{◌≡◌}
use Prim.Native.Nat.{◌<◌}
use Rattle.rows.specs.Tables.{empty_row, RowsPut}
use Rattle.rows.proofs.empty_rows.Given as goal

abbrev pub invariant-loop-f : goal.invariant-loop-f
invariant-loop-f l = RowsPut (λ g. g < l.f) (λ g row. row ≡ empty_row) l.initial.table l.table
