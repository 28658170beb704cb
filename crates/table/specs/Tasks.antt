-- Which sets and which runs a task of the code stands for, and when a task is well formed: document 01, "Sizes"; 02, requests 1 and 6.
use Rattle.std.specs.Prelude.{Bool, true, false, cond, ◌&&◌, ◌||◌, List, ◌≡◌, ℕ, ◌+◌, ◌*◌, ◌/◌, ◌%◌, ◌<◌, ◌≤◌, eqb, leb, ltb, length, get_or, replicate}
use Rattle.facts.specs.Sets.{has, removed, within}
use Rattle.table.specs.Counting.{every_below}
use Rattle.table.specs.Sizes.{max_facts, max_actions, max_runs, max_steps, all_steps, max_limit}
use Rattle.table.specs.Repairs.{by_kind}
use Rattle.table.specs.Strips.{Cells, Course, Courses}
use Rattle.table.specs.Answer.{Works, Keeps}
use Rattle.table.specs.declared.Table.{Table}
use Rattle.table.specs.declared.Runs.{Runs}
use Rattle.table.specs.declared.Task.{Task}

-- The table as sets: fact f is in a set if bit f of the action's mask is one.
unfoldable pub cells_of : Table → Cells
cells_of t = record {
  facts = t.facts;
  actions = t.actions;
  needs = λ a f. has (get_or t.needs a 0) f;
  adds = λ a f. has (get_or t.adds a 0) f;
  deletes = λ a f. has (get_or t.deletes a 0) f;
  locks = λ a f. has (get_or t.locks a 0) f;
}

-- The start and goal sets and the number of steps of run i, and its step j: the steps of run i stand from place 64i on.
abbrev pub start_of : Runs → ℕ → ℕ
start_of r i = get_or r.starts i 0

abbrev pub goal_of : Runs → ℕ → ℕ
goal_of r i = get_or r.goals i 0

abbrev pub count_of : Runs → ℕ → ℕ
count_of r i = get_or r.counts i 0

abbrev pub step_of : Runs → ℕ → ℕ → ℕ
step_of r i j = get_or r.steps (max_steps * i + j) 0

unfoldable pub course_of : Runs → ℕ → Course
course_of r i = record {
  start = λ f. has (start_of r i) f;
  goal = λ f. has (goal_of r i) f;
  count = count_of r i;
  step = step_of r i;
}

-- The runs of a task.
abbrev pub courses_of : Task → Courses
courses_of t = record { many = t.runs.many; course = course_of t.runs }

-- The lists that work for a task, and those that keep one fact of it right.
abbrev pub WorksFor : Task → List ℕ → Type 0
WorksFor t = Works (cells_of t.table) (courses_of t)

abbrev pub KeepsFor : Task → ℕ → List ℕ → Type 0
KeepsFor t f = Keeps (cells_of t.table) (courses_of t) f

-- The task with another limit.
abbrev pub with_limit : Task → ℕ → Task
with_limit t l = record {
  table = record {
    facts = t.table.facts;
    actions = t.table.actions;
    limit = l;
    needs = t.table.needs;
    adds = t.table.adds;
    deletes = t.table.deletes;
    locks = t.table.locks;
  };
  runs = t.runs;
}

-- The table with other locks (02, request 6).
abbrev pub with_locks : Table → List ℕ → Table
with_locks t sets = record {
  facts = t.facts;
  actions = t.actions;
  limit = t.limit;
  needs = t.needs;
  adds = t.adds;
  deletes = t.deletes;
  locks = sets;
}

-- The table, and the task, without its locks: what the PDDL texts carry.
abbrev pub unlocked : Table → Table
unlocked t = with_locks t (replicate max_actions 0)

abbrev pub unlocked_task : Task → Task
unlocked_task t = record { table = unlocked t.table; runs = t.runs }

-- The mask of deletes, adds or needs of action a, by the kind of repair that concerns it.
abbrev pub mask_of : Table → ℕ → ℕ → ℕ
mask_of t k a = by_kind k (get_or t.deletes a 0) (get_or t.adds a 0) (get_or t.needs a 0)

-- "its sizes are in range"
unfoldable pub sizes_formed : Task → Bool
sizes_formed t =
    ltb 0 t.table.facts && leb t.table.facts max_facts &&
    (ltb 0 t.table.actions && leb t.table.actions max_actions) &&
    (leb t.table.limit max_limit && (ltb 0 t.runs.many && leb t.runs.many max_runs))

-- "no set has a fact at or above F", "everything for unused actions .. is zero"
unfoldable pub mask_formed : Table → ℕ → ℕ → Bool
mask_formed t a m = within m t.facts && (ltb a t.actions || eqb m 0)

unfoldable pub action_formed : Table → ℕ → Bool
action_formed t a =
    mask_formed t a (get_or t.needs a 0) && mask_formed t a (get_or t.adds a 0) &&
    mask_formed t a (get_or t.deletes a 0)

-- "A task with a lock on a cell that isn't a need is not well formed" (02, request 6): of action a no lock is left without a need. So there is
-- no lock at or above F, and none of an unused action.
unfoldable pub locks_formed : List ℕ → List ℕ → ℕ → Bool
locks_formed needs locks a = eqb (removed (get_or locks a 0) (get_or needs a 0)) 0

-- Of a run's start and goal sets and its number of steps: "no set has a fact at or above F"; "The limit of 64 steps holds for each run";
-- "Everything for unused runs is zero" (02, request 1).
unfoldable pub run_fits : ℕ → ℕ → ℕ → ℕ → Bool → Bool
run_fits start goal count facts used =
    within start facts && within goal facts && leb count max_steps && (used || (eqb start 0 && eqb goal 0 && eqb count 0))

unfoldable pub run_formed : Task → ℕ → Bool
run_formed t i = run_fits (start_of t.runs i) (goal_of t.runs i) (count_of t.runs i) t.table.facts (ltb i t.runs.many)

-- "steps are below A", "everything for unused .. steps is zero": the step a at place p of all steps, which is of run p / 64.
unfoldable pub step_fits : Task → ℕ → ℕ → Bool
step_fits t p a = cond (ltb (p % max_steps) (count_of t.runs (p / max_steps))) (ltb a t.table.actions) (eqb a 0)

unfoldable pub step_formed : Task → ℕ → Bool
step_formed t p = step_fits t p (get_or t.runs.steps p 0)

unfoldable pub formed : Task → Bool
formed t =
    sizes_formed t && every_below (run_formed t) max_runs && every_below (action_formed t.table) max_actions &&
    every_below (locks_formed t.table.needs t.table.locks) max_actions && every_below (step_formed t) all_steps

-- No run; and a task of zeros, what a refused read returns.
abbrev pub no_runs : Runs
no_runs = record {
  many = 0;
  starts = replicate max_runs 0;
  goals = replicate max_runs 0;
  counts = replicate max_runs 0;
  steps = replicate all_steps 0;
}

abbrev pub no_task : Task
no_task = record {
  table = record {
    facts = 0;
    actions = 0;
    limit = 0;
    needs = replicate max_actions 0;
    adds = replicate max_actions 0;
    deletes = replicate max_actions 0;
    locks = replicate max_actions 0;
  };
  runs = no_runs;
}

-- An array of the code has its declared length; the lists of the logic do not say so by themselves.
pub record Shaped (t : Task) : Type 0 where
  pub needs : length t.table.needs ≡ max_actions
  pub adds : length t.table.adds ≡ max_actions
  pub deletes : length t.table.deletes ≡ max_actions
  pub locks : length t.table.locks ≡ max_actions
  pub starts : length t.runs.starts ≡ max_runs
  pub goals : length t.runs.goals ≡ max_runs
  pub counts : length t.runs.counts ≡ max_runs
  pub steps : length t.runs.steps ≡ all_steps

-- The same, for a reader and for the proofs: each part of "A task is well formed if .." by its name. i is a run, j one of its steps.
pub record WellFormed (t : Task) : Type 0 where
  pub shaped : Shaped t
  pub facts_low : 0 < t.table.facts
  pub facts_high : t.table.facts ≤ max_facts
  pub actions_low : 0 < t.table.actions
  pub actions_high : t.table.actions ≤ max_actions
  pub limit_high : t.table.limit ≤ max_limit
  pub many_low : 0 < t.runs.many
  pub many_high : t.runs.many ≤ max_runs
  pub count_high : (i : ℕ) → count_of t.runs i ≤ max_steps
  pub inside : (k a f : ℕ) → t.table.facts ≤ f → has (mask_of t.table k a) f ≡ false
  pub locks_needs : (a f : ℕ) → (cells_of t.table).locks a f ≡ true → (cells_of t.table).needs a f ≡ true
  pub start_inside : (i f : ℕ) → t.table.facts ≤ f → has (start_of t.runs i) f ≡ false
  pub goal_inside : (i f : ℕ) → t.table.facts ≤ f → has (goal_of t.runs i) f ≡ false
  pub steps_below : (i j : ℕ) → j < count_of t.runs i → step_of t.runs i j < t.table.actions
  pub actions_unused : (k a : ℕ) → t.table.actions ≤ a → mask_of t.table k a ≡ 0
  pub start_unused : (i : ℕ) → t.runs.many ≤ i → start_of t.runs i ≡ 0
  pub goal_unused : (i : ℕ) → t.runs.many ≤ i → goal_of t.runs i ≡ 0
  pub count_unused : (i : ℕ) → t.runs.many ≤ i → count_of t.runs i ≡ 0
  pub steps_unused : (i j : ℕ) → count_of t.runs i ≤ j → j < max_steps → step_of t.runs i j ≡ 0
