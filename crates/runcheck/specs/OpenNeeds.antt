-- Open needs: document 01, "The run check"; 02, request 1: "a run check names its run"; 02, request 3: "a step that can't run does
-- nothing". "It takes the steps in order. Step i, counted from 1, has as open needs the needs of its action that are absent. Goals absent at
-- the end are open needs of step n+1." Here step i counts from 0, so the goals are those of step n. What is present before step i is
-- `states i`, for any states whatever. There are two rules for them: what is open is said once, for both.
use Rattle.std.specs.Prelude.{Result, Ok, Err, Bool, cond, not, ◌&&◌, ◌||◌, ℕ, zero, suc, ◌+◌, eqb, ltb}
use Rattle.table.specs.Counting.{every_below, sum_below, count_below, first_where}
use Rattle.table.specs.Refusals.{accepted, not_well_formed, not_there, number_of}
use Rattle.table.specs.Strips.{Cells, Course, after_step}
use Rattle.table.specs.Tasks.{cells_of, course_of, formed}
use Rattle.table.specs.declared.Task.{Task}
use Rattle.table.specs.declared.refusals.Refusal.{Refusal}
use Rattle.runcheck.specs.declared.Checked.{Checked}
use Rattle.runcheck.specs.declared.OpenNeeds.{OpenNeeds}

-- The facts that are present before each step: the step, then the fact.
abbrev pub States : Type 0
States = ℕ → ℕ → Bool

-- Fact f is an open need of step i.
unfoldable pub is_open : Cells → Course → States → ℕ → ℕ → Bool
is_open c r states i f = cond (ltb i r.count) (c.needs (r.step i) f) (r.goal f) && not (states i f)

-- How many facts step i has open.
unfoldable pub open_at : Cells → Course → States → ℕ → ℕ
open_at c r states i = count_below (is_open c r states i) c.facts

-- "the total, which is the sum over the steps of the number of absent facts"
unfoldable pub total_open : Cells → Course → States → ℕ
total_open c r states = sum_below (open_at c r states) (r.count + 1)

-- "the first step that has one", and "its lowest fact"
unfoldable pub first_open : Cells → Course → States → ℕ
first_open c r states = first_where (λ i. ltb 0 (open_at c r states i)) (r.count + 1)

unfoldable pub lowest_open : Cells → Course → States → ℕ
lowest_open c r states = first_where (is_open c r states (first_open c r states)) c.facts

-- What the check gives: the total, the first step and its lowest fact; or a refusal, which returns zeros.
abbrev pub open_needs : ℕ → ℕ → ℕ → Checked
open_needs total step fact = record { number = accepted; place = 0; total = total; step = step; fact = fact }

abbrev pub refused_check : ℕ → Checked
refused_check n = record { number = n; place = 0; total = 0; step = 0; fact = 0 }

-- What the code answers, in 01's numbers.
abbrev pub checked_of : Result OpenNeeds Refusal → Checked
checked_of (Ok found) = open_needs found.total found.step found.fact
checked_of (Err e) = record { number = number_of e.why; place = e.place; total = 0; step = 0; fact = 0 }

-- "With none, all three are 0."
unfoldable pub open_report : Cells → Course → States → Checked
open_report c r states =
    cond {A = Checked} (eqb (total_open c r states) 0)
    (open_needs 0 0 0)
    (open_needs (total_open c r states) (first_open c r states + 1) (lowest_open c r states))

-- ---- the two rules: what is present before each step
--
-- The old rule, 01's: of a step that can't run the "effects are applied all the same". Its states are those of the model, `state_at`
-- (table/specs/Strips), which say what a valid run is, and what a repair is for; there nothing changes. The new rule is the controller's.

-- "An action may run in a state that holds all its needs."
unfoldable pub may_run : Cells → ℕ → (ℕ → Bool) → Bool
may_run c a state = every_below (λ f. not (c.needs a f) || state f) c.facts

-- The controller's state after the first i steps: it "rejects the step, keeps the state and tries the next" (02, request 3).
unfoldable pub controller_at : Cells → Course → States
controller_at c r zero f = r.start f
controller_at c r (suc i) f =
    cond (may_run c (r.step i) (controller_at c r i))
    (after_step (controller_at c r i) (c.adds (r.step i)) (c.deletes (r.step i)) f)
    (controller_at c r i f)

-- The states of the run check of a run: "The check follows the controller."
abbrev pub states_of : Task → ℕ → States
states_of t run = controller_at (cells_of t.table) (course_of t.runs run)

-- 12 for a task that is not well formed; then "14 covers a run that isn't there" (02, request 1).
unfoldable pub checked : Task → ℕ → Checked
checked t run =
    cond {A = Checked} (not (formed t)) (refused_check not_well_formed)
    (cond {A = Checked} (not (ltb run t.runs.many)) (refused_check not_there)
    (open_report (cells_of t.table) (course_of t.runs run) (states_of t run)))
