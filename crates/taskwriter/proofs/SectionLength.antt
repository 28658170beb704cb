-- The sections of a file together are no longer than the longest file, so that every place in it can be counted.
use mathlib.Core.List.{[], ◌∷◌, ◌++◌}
use mathlib.Core.Path.{◌≡◌, refl}
use Prim.Native.Nat.{ℕ, suc, ◌+◌, ◌-◌, ◌≤◌}
use native.Mathlib.Omega.{arith}
use lib.ListN.{length, length-append}
use Rattle.table.specs.Tasks.{start_of, goal_of, count_of, WellFormed}
use Rattle.table.specs.declared.Task.{Task}
use Rattle.taskformat.specs.Format.{need_kind, add_kind, delete_kind, lock_kind, end_kind, cell_records, step_records, set_records, further_run, file_of}
use Rattle.taskformat.specs.Lengths.{longest_file}
use Rattle.taskformat.proofs.FileLength.{file_length}
use Rattle.taskwriter.specs.Pieces.{both_sets, steps_from, run_with, through_goals, through_cells, further_runs}

-- The file, with the sections through the last cell as one.
pub file_is : (t : Task) → file_of t ≡ through_cells t ++ step_records t.runs 0 ++ further_runs t ++ (end_kind ∷ [])
unfolding file_of through_cells through_goals
file_is t = refl

-- What the writer's functions place, of a run as the task has it.
pub sets_are : (t : Task) (i : ℕ) → both_sets t.table.facts (start_of t.runs i) (goal_of t.runs i) ≡ set_records t i
unfolding both_sets set_records
sets_are t i = refl

pub steps_are : (t : Task) (i : ℕ) → steps_from t.runs.steps i (count_of t.runs i) ≡ step_records t.runs i
unfolding step_records
steps_are t i = refl

pub run_is : (t : Task) (i : ℕ) → 1 ≤ i → let r = t.runs in
    run_with t.table.facts (start_of r i) (goal_of r i) r.steps i (count_of r i) ≡ further_run t (suc (i - 1))
unfolding run_with both_sets further_run set_records step_records
run_is t i further = let e : suc (i - 1) ≡ i = omega arith in rw e refl

module _ (t : Task) (w : WellFormed t) where
  pub runs_fit : length (through_cells t) + length (step_records t.runs 0) + length (further_runs t) + 1 ≤ longest_file
  runs_fit = omega (arith, simp length-append at (rw (file_is t) at (file_length t w)))

  pub cells_fit : length (through_goals t) +
      length (cell_records need_kind t.table.facts t.table.actions t.table.needs) +
      length (cell_records add_kind t.table.facts t.table.actions t.table.adds) +
      length (cell_records delete_kind t.table.facts t.table.actions t.table.deletes) +
      length (cell_records lock_kind t.table.facts t.table.actions t.table.locks) ≤ longest_file
  unfolding through_cells
  cells_fit = omega (arith, simp length-append at runs_fit)

  pub sets_fit : 4 + length (set_records t 0) ≤ longest_file
  unfolding through_goals
  sets_fit = omega (arith, simp length-append at cells_fit)
