-- What a solve gives: demand 2; document 01, "Refusal numbers": 12, then 9, 10, 11; "Refusals write nothing."
use Rattle.std.specs.Prelude.{true, false, List, ◌≡◌, ℕ}
use Rattle.table.specs.Answer.{Verdict, found, over, hopeless, Within}
use Rattle.table.specs.Outcomes.{Outcome, refused, given}
use Rattle.table.specs.Refusals.{no_list_works, over_the_limit, not_well_formed}
use Rattle.table.specs.Tasks.{WorksFor, formed}
use Rattle.table.specs.declared.Task.{Task}

-- A verdict told into lent room: hopeless is 9, over the limit 10; a list is given.
unfoldable pub told : Verdict → List ℕ → Outcome
told (found l) room = given l room
told over room = refused over_the_limit room
told hopeless room = refused no_list_works room

-- The outcome of solving a task into a room: 12 if it is not well formed; else the verdict over all permitted lists.
pub record Solves (t : Task) (room : List ℕ) (o : Outcome) : Type 0 where
  pub malformed : formed t ≡ false → o ≡ refused not_well_formed room
  pub verdict : formed t ≡ true → (v : Verdict) × Within (WorksFor t) t.table.limit v × (o ≡ told v room)
