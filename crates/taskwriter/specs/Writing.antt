-- What writing a task into lent room gives, for every task and every room: document 01, "The task file" and
-- "Refusal numbers".
use Rattle.std.specs.Prelude.{cond, List, ℕ}
use Rattle.table.specs.Outcomes.{Outcome, refused, given}
use Rattle.table.specs.Refusals.{not_well_formed}
use Rattle.table.specs.Tasks.{formed}
use Rattle.table.specs.declared.Task.{Task}
use Rattle.taskformat.specs.Format.{file_of}

-- 12, then 11; else the file.
unfoldable pub written : Task → List ℕ → Outcome
written t room = cond {A = Outcome} (formed t) (given (file_of t) room) (refused not_well_formed room)
