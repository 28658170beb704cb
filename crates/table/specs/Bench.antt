-- The tasks of document 01's bench sheet, each written once. What the calls give for them: promises/specs/Sheet.
use Rattle.std.specs.Prelude.{List, [], ◌∷◌, ◌++◌, ℕ, zero, suc, ◌+◌, ◌-◌, ◌^◌, length, set, take, replicate}
use Rattle.table.specs.Sizes.{max_facts, max_actions, max_runs, max_steps, all_steps, max_limit}
use Rattle.table.specs.Tasks.{with_locks}
use Rattle.table.specs.declared.Task.{Task}

-- An array of n places whose first are l, the others zero.
abbrev filled : ℕ → List ℕ → List ℕ
filled n l = take n (l ++ replicate n 0)

-- F, A and L; the needs, adds and deletes of the first actions; start, goal and steps of the one run. A set of facts is a mask: fact f is bit f.
abbrev pub task : ℕ → ℕ → ℕ → List ℕ → List ℕ → List ℕ → ℕ → ℕ → List ℕ → Task
task f a l needs adds deletes start goal steps = record {
  table = record {
    facts = f;
    actions = a;
    limit = l;
    needs = filled max_actions needs;
    adds = filled max_actions adds;
    deletes = filled max_actions deletes;
    locks = filled max_actions [];
  };
  runs = record {
    many = 1;
    starts = filled max_runs (start ∷ []);
    goals = filled max_runs (goal ∷ []);
    counts = filled max_runs (length steps ∷ []);
    steps = filled all_steps steps;
  };
}

-- The same table with these locks, for the first actions (02, request 6).
abbrev pub locking : Task → List ℕ → Task
locking t locks = record { table = with_locks t.table (filled max_actions locks); runs = t.runs }

-- The same table with a second run (02, request 1).
abbrev pub second_run : Task → ℕ → ℕ → List ℕ → Task
second_run t start goal steps = record {
  table = t.table;
  runs = record {
    many = 2;
    starts = set t.runs.starts 1 start;
    goals = set t.runs.goals 1 goal;
    counts = set t.runs.counts 1 (length steps);
    steps = take max_steps t.runs.steps ++ filled (all_steps - max_steps) steps;
  };
}

-- 2. "The file above", and 3. "The same, L = 1", "L = 2"; 11. "Case 2 with its last step 03".
abbrev pub case_two : ℕ → ℕ → Task
case_two l last = task 4 3 l (0b0001 ∷ 0b0010 ∷ 0b0110 ∷ []) (0b0010 ∷ 0 ∷ 0b1000 ∷ []) (0 ∷ 0b0010 ∷ []) 0b0001 0b1000 (0 ∷ 1 ∷ last ∷ [])

abbrev pub listing_task : Task
listing_task = case_two 3 2

abbrev pub limited : ℕ → Task
limited l = case_two l 2

abbrev pub stray_task : Task
stray_task = case_two 3 3

-- 4. "No steps, goals within start."
abbrev pub goals_at_start : Task
goals_at_start = task 2 1 max_limit [] [] [] 0b11 0b10 []

-- 5. "No steps, goal 0, empty start."
abbrev pub goal_out_of_reach : Task
goal_out_of_reach = task 1 1 max_limit [] [] [] 0 0b1 []

-- 6. "One action that adds and deletes fact 0, one step, goal 0, empty start."
abbrev pub adds_and_deletes : Task
adds_and_deletes = task 1 1 max_limit [] (0b1 ∷ []) (0b1 ∷ []) 0 0b1 (0 ∷ [])

-- 7. "One action that deletes 0, one step, start and goal 0."
abbrev pub deletes_the_goal : Task
deletes_the_goal = task 1 1 max_limit [] [] (0b1 ∷ []) 0b1 0b1 (0 ∷ [])

-- 8. "F 64, A 1, the action needs 63, one step, empty start, L 1."
abbrev pub needs_last_fact : Task
needs_last_fact = task max_facts 1 1 (2 ^ 63 ∷ []) [] [] 0 0 (0 ∷ [])

-- 12. "Actions 0 to 5 delete fact 0, 6 to 11 need it, steps 0, 6, 1, 7 up to 5, 11, start 0, L 6", and "with a seventh such pair (14
-- actions numbered alike, 0 to 6 and 7 to 13)": n pairs, whose first k are run.
unfoldable pub pair_steps : ℕ → ℕ → List ℕ
pair_steps n zero = []
pair_steps n (suc k) = pair_steps n k ++ (k ∷ (n + k) ∷ [])

abbrev pub pairs : ℕ → Task
pairs n = task 1 (n + n) max_limit (replicate n 0 ++ replicate n 0b1) [] (replicate n 0b1) 0b1 0 (pair_steps n n)
