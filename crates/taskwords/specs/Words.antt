-- A task as 668 words of 64 bits: facts, actions, limit, needs, adds, deletes, locks (02, request 6), how many runs, starts, goals,
-- counts, steps (docs/BOUNDARY.md).
use Rattle.std.specs.Prelude.{cond, List, [], ◌∷◌, ◌++◌, map, ◌≡◌, ℕ, ◌+◌, ◌*◌, ◌<◌, ◌≤◌, eqb, ltb, length, get_or, take, drop}
use Rattle.table.specs.Refusals.{accepted}
use Rattle.table.specs.Sizes.{max_actions, max_runs, all_steps}
use Rattle.table.specs.declared.Runs.{Runs}
use Rattle.table.specs.declared.Table.{Table}
use Rattle.table.specs.declared.Task.{Task}
use Rattle.table.specs.Tasks.{no_task}

-- Where the masks of the actions stand, behind facts, actions and limit.
abbrev pub needs_at : ℕ
needs_at = 3

abbrev pub adds_at : ℕ
adds_at = needs_at + max_actions

abbrev pub deletes_at : ℕ
deletes_at = adds_at + max_actions

abbrev pub locks_at : ℕ
locks_at = deletes_at + max_actions

-- How many words the table, the runs and the task have.
abbrev pub table_words : ℕ
table_words = locks_at + max_actions

abbrev pub runs_words : ℕ
runs_words = 1 + 3 * max_runs + all_steps

abbrev pub task_words : ℕ
task_words = table_words + runs_words

-- "a step above 255 counts as 255, which is never below A"
abbrev pub last_step : ℕ
last_step = 255

unfoldable pub step_in : ℕ → ℕ
step_in w = cond (ltb w last_step) w last_step

-- The masks of all actions that stand from a place on.
abbrev pub masks_at : List ℕ → ℕ → List ℕ
masks_at ws at = take max_actions (drop at ws)

abbrev pub unpacked_table : List ℕ → Table
unpacked_table ws = record {
  facts = get_or ws 0 0;
  actions = get_or ws 1 0;
  limit = get_or ws 2 0;
  needs = masks_at ws needs_at;
  adds = masks_at ws adds_at;
  deletes = masks_at ws deletes_at;
  locks = masks_at ws locks_at;
}

-- The words of all runs, one for each, that stand from a place on.
abbrev pub of_runs_at : List ℕ → ℕ → List ℕ
of_runs_at ws at = take max_runs (drop at ws)

-- Where the starts, the goals, the counts and the steps of the runs stand.
abbrev pub starts_at : ℕ
starts_at = table_words + 1

abbrev pub goals_at : ℕ
goals_at = starts_at + max_runs

abbrev pub counts_at : ℕ
counts_at = goals_at + max_runs

abbrev pub steps_at : ℕ
steps_at = counts_at + max_runs

-- All words from one place on and before another are zero.
abbrev pub Zeros : List ℕ → ℕ → ℕ → Type 0
Zeros ws from to = (i : ℕ) → from ≤ i → i < to → get_or ws i 0 ≡ 0

abbrev pub unpacked_runs : List ℕ → Runs
unpacked_runs ws = record {
  many = get_or ws table_words 0;
  starts = of_runs_at ws starts_at;
  goals = of_runs_at ws goals_at;
  counts = of_runs_at ws counts_at;
  steps = map step_in (take all_steps (drop steps_at ws));
}

abbrev pub unpacked : List ℕ → Task
unpacked ws = record { table = unpacked_table ws; runs = unpacked_runs ws }

-- The task of any words; of another number of them than 668, the task of zeros, which is not well formed.
unfoldable pub task_in : List ℕ → Task
task_in ws = cond {A = Task} (eqb (length ws) task_words) (unpacked ws) no_task

-- The words of a task.
unfoldable pub table_out : Table → List ℕ
table_out t = (t.facts ∷ t.actions ∷ t.limit ∷ []) ++ t.needs ++ t.adds ++ t.deletes ++ t.locks

unfoldable pub runs_out : Runs → List ℕ
runs_out r = (r.many ∷ []) ++ r.starts ++ r.goals ++ r.counts ++ r.steps

unfoldable pub task_out : Task → List ℕ
task_out t = table_out t.table ++ runs_out t.runs

-- A task lent in and out: the new task's words where the call was accepted, and otherwise the words as they were, whatever they were.
unfoldable pub lent_back : List ℕ → ℕ → Task → List ℕ
lent_back ws number t = cond {A = List ℕ} (eqb number accepted) (task_out t) ws
