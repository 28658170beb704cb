-- `session::form::are_places_in_form` meets its contract: after i turns `good` says that every place below i is in form. Assumes nothing.
use mathlib.Core.Path.{◌≡◌}
use Rattle.rows.specs.Tables.{row_at}
use Rattle.table.specs.Counting.{every_below}
use Rattle.table.specs.Tasks.{cells_of}
use Rattle.session.specs.Sessions.{place_in_form}
use Rattle.session.proofs.form.are_places_in_form.Given as goal

abbrev pub invariant-loop-i : goal.invariant-loop-i
invariant-loop-i l = l.good ≡ every_below (place_in_form (cells_of l.t) l.f (row_at l.table l.f)) l.i
