-- The texts of a task by number, as the program writes them: the domain text, then the problem text of each run (02, request 4).
use Rattle.std.specs.Prelude.{List, ◌++◌, ◌≡◌, ℕ, zero, suc, length, drop}
use Rattle.pddl.specs.Texts.{domain_text}
use Rattle.pddlwriter.specs.Writing.{domain_written, problem_of, problem_written}
use Rattle.table.specs.Outcomes.{Outcome}
use Rattle.table.specs.declared.Task.{Task}

-- Text 0 is the domain text, text i + 1 the problem text of run i.
unfoldable pub numbered : Task → ℕ → List ℕ
numbered t zero = domain_text t.table
numbered t (suc i) = problem_of t i

-- What writing it into lent room gives.
unfoldable pub numbered_written : Task → ℕ → List ℕ → Outcome
numbered_written t zero room = domain_written t room
numbered_written t (suc i) room = problem_written t i room

-- The first r bytes of the room are the text, and nothing beside is written.
pub record Holds (t : Task) (n : ℕ) (room : List ℕ) (r : ℕ) (after : List ℕ) : Type 0 where
  pub length_is : r ≡ length (numbered t n)
  pub room_is : after ≡ numbered t n ++ drop r room
