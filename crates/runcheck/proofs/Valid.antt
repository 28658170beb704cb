-- The total of open needs is 0 exactly if the run is valid (01, "The run check" and "The model and its run"), by the old rule and by the
-- controller's (02, request 3); and so for each run of any well-formed task. Assumes nothing.
use mathlib.Core.Bool.{false}
use mathlib.Core.Path.{◌≡◌, sym, ap, ◌∙◌}
use Prim.Native.Nat.{ℕ, ◌<◌, ◌≤◌}
use native.Mathlib.Nat.{le_refl, le_of_lt}
use native.Mathlib.Omega.{arith}
use Rattle.table.specs.Strips.{Cells, Course, Valid, state_at}
use Rattle.table.specs.Tasks.{WellFormed, cells_of, course_of}
use Rattle.table.specs.declared.Task.{Task}
use Rattle.table.proofs.FlagLaws.{by_order}
use Rattle.table.proofs.Formation.{well_formed}
use Rattle.table.proofs.JoinLaws.{formed_inside}
use Rattle.runcheck.specs.OpenNeeds.{States, is_open, total_open, controller_at, checked}
use Rattle.runcheck.proofs.OpenLaws.{present, not_open, total_open_lem, open_total, open_step, open_goal}
use Rattle.runcheck.proofs.RuleLaws.{Ruled, old_ruled, new_ruled, zero_same}
use Rattle.runcheck.proofs.StateLaws.{checked_total}

-- ---- in the old rule's states, the model's

module _ (c : Cells) (r : Course) where
  abbrev states : States
  states = state_at c r

  valid_none : Valid c r → (i f : ℕ) → i ≤ r.count → is_open c r states i f ≡ false
  valid_none v i f h =
      by_order i r.count (λ l. open_step c r states i f l ∙ not_open (c.needs (r.step i) f) (states i f) (v.may_run i l f)) (λ l.
      let end : i ≡ r.count = omega arith in
      ap (λ (j : ℕ). is_open c r states j f) end ∙ open_goal c r states f ∙ not_open (r.goal f) (states r.count f) (v.reaches f))

  pub valid_total : Valid c r → total_open c r states ≡ 0
  valid_total v = open_total c r states (valid_none v)

  pub total_valid : ((a f : ℕ) → c.facts ≤ f → c.needs a f ≡ false) → ((f : ℕ) → c.facts ≤ f → r.goal f ≡ false)
      → total_open c r states ≡ 0 → Valid c r
  total_valid needs goal e =
      let none = total_open_lem c r states needs goal e in
      record {
        may_run = λ i h f. present (c.needs (r.step i) f) (states i f) (sym (open_step c r states i f h) ∙ none i f (le_of_lt h));
        reaches = λ f. present (r.goal f) (states r.count f) (sym (open_goal c r states f) ∙ none r.count f (le_refl r.count));
      }

  -- ---- and so by any rule

  module _ (rule : States) (ruled : Ruled c r rule) where
    pub valid_zero : Valid c r → total_open c r rule ≡ 0
    valid_zero v = zero_same c r states rule (old_ruled c r) ruled (valid_total v)

    pub zero_valid : ((a f : ℕ) → c.facts ≤ f → c.needs a f ≡ false) → ((f : ℕ) → c.facts ≤ f → r.goal f ≡ false)
        → total_open c r rule ≡ 0 → Valid c r
    zero_valid needs goal e = total_valid needs goal (zero_same c r rule states ruled (old_ruled c r) e)

-- ---- for a run of a task

module _ (t : Task) (run : ℕ) where
  abbrev c : Cells
  c = cells_of t.table

  abbrev r : Course
  r = course_of t.runs run

  -- of a well-formed task the call's total is 0 exactly if the run is valid
  pub checked_zero_valid : WellFormed t → run < t.runs.many → (checked t run).total ≡ 0 → Valid c r
  checked_zero_valid w there e =
      let inside = formed_inside t w in
      zero_valid c r (controller_at c r) (new_ruled c r) inside.needs (inside.goal run there)
      (sym (checked_total t run (well_formed t w) there) ∙ e)

  pub valid_checked_zero : WellFormed t → run < t.runs.many → Valid c r → (checked t run).total ≡ 0
  valid_checked_zero w there v =
      checked_total t run (well_formed t w) there ∙ valid_zero c r (controller_at c r) (new_ruled c r) v
