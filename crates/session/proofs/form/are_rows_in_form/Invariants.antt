-- `session::form::are_rows_in_form` meets its contract: after f turns `good` says that every row below f is in form. Assumes nothing.
use mathlib.Core.Path.{◌≡◌}
use Prim.Native.Nat.{ℕ}
use Rattle.rows.specs.Tables.{row_at}
use Rattle.table.specs.Counting.{every_below}
use Rattle.table.specs.Tasks.{cells_of}
use Rattle.session.specs.Sessions.{row_in_form}
use Rattle.session.proofs.form.are_rows_in_form.Given as goal

abbrev pub invariant-loop-f : goal.invariant-loop-f
invariant-loop-f l = l.good ≡ every_below (λ (g : ℕ). row_in_form (cells_of l.t) g (row_at l.table g)) l.f
