-- What the passes over a task's arrays ask of each action and of each step, and what the pass over the steps is given (src/formed.rt).
use Rattle.std.specs.Prelude.{Bool, ◌&&◌, List, [], ◌≡◌, ℕ, ◌<◌, ◌≤◌, ltb, get_or}
use Rattle.facts.specs.Sets.{within}
use Rattle.table.specs.Sizes.{max_runs, max_steps}
use Rattle.table.specs.Tasks.{count_of}
use Rattle.table.specs.declared.Runs.{Runs}
use Rattle.table.specs.declared.Task.{Task}

-- No set of action a has a fact at or above n.
unfoldable pub sets_within : List ℕ → List ℕ → List ℕ → ℕ → ℕ → Bool
sets_within needs adds deletes n a = within (get_or needs a 0) n && within (get_or adds a 0) n && within (get_or deletes a 0) n

-- Step i is below n.
unfoldable pub step_below : List ℕ → ℕ → ℕ → Bool
step_below steps n i = ltb (get_or steps i 0) n

-- No run has more than 64 steps, and an unused one none.
pub record CountsFit (r : Runs) : Type 0 where
  pub high : (i : ℕ) → i < max_runs → count_of r i ≤ max_steps
  pub none : (i : ℕ) → r.many ≤ i → i < max_runs → count_of r i ≡ 0

-- Runs and a number of actions as a task: on no other part of it depends whether its steps are formed.
abbrev pub of_runs : Runs → ℕ → Task
of_runs r n = record { table = record { facts = 0; actions = n; limit = 0; needs = []; adds = []; deletes = []; locks = [] }; runs = r }
