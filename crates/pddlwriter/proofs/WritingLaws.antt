-- What writing gives in each of its cases. Assumes nothing.
use mathlib.Core.Bool.{Bool, true, false}
use mathlib.Core.List.{List}
use mathlib.Core.Path.{◌≡◌, sym, ◌∙◌}
use Prim.Native.Nat.{ℕ, ◌<◌, ◌≤◌}
use borrow.Author.Tests.{lt-ltb, le-ltb}
use Rattle.table.proofs.Formation.{formed_well}
use Rattle.table.specs.Outcomes.{Outcome, refused, given}
use Rattle.table.specs.Refusals.{not_well_formed, not_there}
use Rattle.table.specs.Tasks.{formed, Shaped, WellFormed}
use Rattle.table.specs.declared.Task.{Task}
use Rattle.pddl.specs.Texts.{domain_text}
use Rattle.pddlwriter.specs.Writing.{domain_written, problem_of, problem_written}

-- Past the first test the task is well formed.
pub is_well : {t : Task} {tested : Bool} → Shaped t → tested ≡ formed t → tested ≡ true → WellFormed t
is_well {t} shaped told good = formed_well t shaped (sym told ∙ good)

module _ (t : Task) (room : List ℕ) where
  pub domain_unformed : formed t ≡ false → domain_written t room ≡ refused not_well_formed room
  unfolding domain_written
  domain_unformed e = rw e

  pub domain_given : formed t ≡ true → domain_written t room ≡ given (domain_text t.table) room
  unfolding domain_written
  domain_given e = rw e

  module _ (run : ℕ) where
    pub problem_unformed : formed t ≡ false → problem_written t run room ≡ refused not_well_formed room
    unfolding problem_written
    problem_unformed e = rw e

    pub problem_missing : formed t ≡ true → t.runs.many ≤ run → problem_written t run room ≡ refused not_there room
    unfolding problem_written
    problem_missing e h = rw (e, le-ltb run t.runs.many h)

    pub problem_given : (o : Outcome) → formed t ≡ true → run < t.runs.many → o ≡ given (problem_of t run) room → o ≡ problem_written t run room
    unfolding problem_written
    problem_given o e h told = rw (e, lt-ltb run t.runs.many h) told
