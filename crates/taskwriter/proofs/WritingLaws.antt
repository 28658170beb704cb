-- What writing gives in each of its cases.
use mathlib.Core.Bool.{Bool, true, false}
use mathlib.Core.List.{List}
use mathlib.Core.Path.{◌≡◌, sym, ◌∙◌}
use Prim.Native.Nat.{ℕ, ◌≤◌, ◌<◌}
use lib.ListN.{length}
use Rattle.table.proofs.Formation.{formed_well}
use Rattle.table.proofs.OutcomeLaws.{given_short, given_fits}
use Rattle.table.specs.Outcomes.{refused, answered, given}
use Rattle.table.specs.Refusals.{room_too_short, not_well_formed}
use Rattle.table.specs.Tasks.{formed, Shaped, WellFormed}
use Rattle.table.specs.declared.Task.{Task}
use Rattle.taskformat.specs.Format.{file_of}
use Rattle.taskwriter.specs.Writing.{written}

-- Past the first test the task is well formed.
pub is_well : {t : Task} {tested : Bool} → Shaped t → tested ≡ formed t → tested ≡ true → WellFormed t
is_well {t} shaped told good = formed_well t shaped (sym told ∙ good)

module _ (t : Task) (room : List ℕ) where
  pub written_unformed : formed t ≡ false → written t room ≡ refused not_well_formed room
  unfolding written
  written_unformed e = rw e

  pub written_given : formed t ≡ true → written t room ≡ given (file_of t) room
  unfolding written
  written_given e = rw e

  pub written_short : formed t ≡ true → length room < length (file_of t) → written t room ≡ refused room_too_short room
  written_short e h = written_given e ∙ given_short (file_of t) room h

  pub written_file : formed t ≡ true → length (file_of t) ≤ length room → written t room ≡ answered (file_of t) room
  written_file e h = written_given e ∙ given_fits (file_of t) room h
