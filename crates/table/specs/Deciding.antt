-- Tests that computing decides, for worked examples and for rows/specs/Wrong: is one fact right, and is a task well formed with arrays of
-- their declared lengths? What they say is in Strips and Tasks; that they say it, in proofs/DecidingLaws.
use Rattle.std.specs.Prelude.{Bool, true, not, ◌&&◌, ◌||◌, List, [], ◌∷◌, ℕ, suc, eqb, length}
use Rattle.table.specs.Counting.{every_below}
use Rattle.table.specs.Sizes.{max_actions, max_runs, all_steps}
use Rattle.table.specs.Strips.{Cells, Course, Courses, state_at}
use Rattle.table.specs.Tasks.{sizes_formed, run_formed, action_formed, locks_formed, step_fits}
use Rattle.table.specs.declared.Task.{Task}

-- "present wherever it is needed, and at the end if it is a goal"
unfoldable pub is_right : Cells → Course → ℕ → Bool
is_right c r f =
    every_below (λ i. not (c.needs (r.step i) f) || state_at c r i f) r.count && (not (r.goal f) || state_at c r r.count f)

-- in every run
unfoldable pub is_all_right : Cells → Courses → ℕ → Bool
is_all_right c rs f = every_below (λ i. is_right c (rs.course i) f) rs.many

unfoldable pub is_shaped : Task → Bool
is_shaped t =
    eqb (length t.table.needs) max_actions && eqb (length t.table.adds) max_actions &&
    eqb (length t.table.deletes) max_actions && eqb (length t.table.locks) max_actions &&
    (eqb (length t.runs.starts) max_runs && eqb (length t.runs.goals) max_runs && eqb (length t.runs.counts) max_runs &&
    eqb (length t.runs.steps) all_steps)

-- Every number of the list passes the test at its place, from place p on.
unfoldable pub every_place : (ℕ → ℕ → Bool) → List ℕ → ℕ → Bool
every_place test [] p = true
every_place test (a ∷ l) p = test p a && every_place test l (suc p)

-- The task is well formed, with arrays of their declared lengths; the steps are looked at one after another, which is less to compute.
unfoldable pub is_formed : Task → Bool
is_formed t =
    is_shaped t &&
    (sizes_formed t && every_below (run_formed t) max_runs && every_below (action_formed t.table) max_actions &&
    every_below (locks_formed t.table.needs t.table.locks) max_actions) &&
    every_place (step_fits t) t.runs.steps 0
