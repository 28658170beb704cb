-- What writing a task's domain text, or the problem text of a run, into lent room gives, for every task and every room: 02, request 4;
-- document 01, "Refusal numbers".
use Rattle.std.specs.Prelude.{cond, List, ℕ, ltb}
use Rattle.table.specs.Outcomes.{Outcome, refused, given}
use Rattle.table.specs.Refusals.{not_well_formed, not_there}
use Rattle.table.specs.Tasks.{start_of, goal_of, formed}
use Rattle.table.specs.declared.Task.{Task}
use Rattle.pddl.specs.Texts.{domain_text, problem_text}

-- 12, then 11; else the text.
unfoldable pub domain_written : Task → List ℕ → Outcome
domain_written t room = cond {A = Outcome} (formed t) (given (domain_text t.table) room) (refused not_well_formed room)

abbrev pub problem_of : Task → ℕ → List ℕ
problem_of t run = problem_text t.table.facts (start_of t.runs run) (goal_of t.runs run)

-- 12, then 14 for a run that isn't there, then 11; else the text.
unfoldable pub problem_written : Task → ℕ → List ℕ → Outcome
problem_written t run room =
    cond {A = Outcome} (formed t)
    (cond {A = Outcome} (ltb run t.runs.many) (given (problem_of t run) room) (refused not_there room))
    (refused not_well_formed room)
