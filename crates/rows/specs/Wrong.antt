-- Which facts are wrong as the task stands: not "present wherever it is needed, and at the end if it is a goal" (document 01, "The session
-- table"). Only they need repairs.
use Rattle.std.specs.Prelude.{not, ◌≡◌, ℕ}
use Rattle.facts.specs.Sets.{has}
use Rattle.table.specs.Deciding.{is_right, is_all_right}
use Rattle.table.specs.Tasks.{cells_of, course_of, courses_of}
use Rattle.table.specs.declared.Task.{Task}

-- The mask has exactly the facts that are wrong in a run, and in some run.
abbrev pub WrongIn : Task → ℕ → ℕ → Type 0
WrongIn t run wrong = (f : ℕ) → has wrong f ≡ not (is_right (cells_of t.table) (course_of t.runs run) f)

abbrev pub WrongFacts : Task → ℕ → Type 0
WrongFacts t wrong = (f : ℕ) → has wrong f ≡ not (is_all_right (cells_of t.table) (courses_of t) f)
