-- What a column of a task shows, and the fullest choice of a column.
use Rattle.std.specs.Prelude.{◌&&◌, ◌≡◌, ℕ, ◌<◌, ltb, get_or}
use Rattle.facts.specs.Sets.{has}
use Rattle.table.specs.Repairs.{permitted}
use Rattle.table.specs.Sizes.{per_fact}
use Rattle.table.specs.Tasks.{start_of, goal_of}
use Rattle.table.specs.declared.Task.{Task}
use Rattle.choices.specs.declared.Choice.{Choice}
use Rattle.choices.specs.Choices.{in_choice, code_number}
use Rattle.search.specs.declared.Column.{Column}
use Rattle.search.specs.Columns.{cells_in}

-- The actions, or the runs, whose set has fact f.
abbrev pub Gathers : (ℕ → ℕ) → ℕ → ℕ → Type 0
Gathers sets f m = (a : ℕ) → has m a ≡ has (sets a) f

-- Those below n.
abbrev pub GathersBelow : (ℕ → ℕ) → ℕ → ℕ → ℕ → Type 0
GathersBelow sets f n m = (a : ℕ) → has m a ≡ (ltb a n && has (sets a) f)

-- The column shows its fact of the task: which actions need, add and delete it, which needs of it are locked, and the runs' starts and goals.
pub record Shows (t : Task) (col : Column) : Type 0 where
  pub actions : col.actions ≡ t.table.actions
  pub needs : Gathers (λ a. get_or t.table.needs a 0) col.fact col.needs
  pub adds : Gathers (λ a. get_or t.table.adds a 0) col.fact col.adds
  pub deletes : Gathers (λ a. get_or t.table.deletes a 0) col.fact col.deletes
  pub locks : Gathers (λ a. get_or t.table.locks a 0) col.fact col.locks
  pub runs : col.runs ≡ t.runs.many
  pub start : Gathers (start_of t.runs) col.fact col.starts
  pub goal : Gathers (goal_of t.runs) col.fact col.goals

-- Every permitted repair of the column's fact, and nothing else.
abbrev pub Fullest : Column → Choice → Type 0
Fullest col s = (code : ℕ) → code < per_fact → in_choice s code ≡ permitted (cells_in col) (code_number col.fact code)
