-- One fact's column as a table and runs of the meaning: every fact of it is that one fact.
use Rattle.std.specs.Prelude.{List, ℕ, suc, ◌+◌, ◌*◌, ◌<◌, ◌≤◌, get_or}
use Rattle.facts.specs.Sets.{has}
use Rattle.table.specs.Sizes.{max_actions, max_steps, max_runs}
use Rattle.table.specs.Strips.{Cells, Course, Courses}
use Rattle.table.specs.Answer.{Keeps}
use Rattle.search.specs.declared.Column.{Column}

unfoldable pub cells_in : Column → Cells
cells_in col = record {
  facts = suc col.fact;
  actions = col.actions;
  needs = λ a f. has col.needs a;
  adds = λ a f. has col.adds a;
  deletes = λ a f. has col.deletes a;
  locks = λ a f. has col.locks a;
}

-- Run i, which has so many steps: they stand from place 64i on.
abbrev pub course_in : Column → ℕ → List ℕ → ℕ → Course
course_in col count steps i = record {
  start = λ f. has col.starts i;
  goal = λ f. has col.goals i;
  count = count;
  step = λ j. get_or steps (max_steps * i + j) 0;
}

abbrev pub courses_in : Column → List ℕ → List ℕ → Courses
courses_in col counts steps = record { many = col.runs; course = λ i. course_in col (get_or counts i 0) steps i }

-- The lists that keep the column's fact right in the runs.
abbrev pub KeepsIn : Column → Courses → List ℕ → Type 0
KeepsIn col rs = Keeps (cells_in col) rs col.fact

-- A run of the column's table: its steps are actions.
pub record RunFormed (col : Column) (r : Course) : Type 0 where
  pub actions_high : col.actions ≤ max_actions
  pub count_high : r.count ≤ max_steps
  pub steps_below : (i : ℕ) → i < r.count → r.step i < col.actions

-- What the search needs of a column and the runs' steps: sizes in range, and runs of its table.
pub record ColumnFormed (col : Column) (counts steps : List ℕ) : Type 0 where
  pub actions_high : col.actions ≤ max_actions
  pub runs_high : col.runs ≤ max_runs
  pub run : (i : ℕ) → i < col.runs → RunFormed col (course_in col (get_or counts i 0) steps i)
