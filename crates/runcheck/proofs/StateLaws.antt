-- The states that the run check takes, the controller's: a mask shows them from step to step; and what it answers is the report in these
-- states. Assumes nothing.
use mathlib.Core.Bool.{Bool, true, false, cond, not, ◌&&◌, ◌||◌}
use mathlib.Core.Path.{◌≡◌, refl, sym, ap, ◌∙◌}
use Prim.Native.Nat.{ℕ, ◌+◌, ◌<◌}
use lib.Dec.{eqb}
use lib.ListN.{get_or}
use borrow.Author.Tests.{lt-ltb}
use Rattle.facts.specs.Sets.{has, joined, removed}
use Rattle.facts.proofs.Laws.{has_joined, has_removed}
use Rattle.table.specs.Tasks.{WellFormed, cells_of, start_of, count_of, step_of, course_of, formed}
use Rattle.table.specs.declared.Task.{Task}
use Rattle.runcheck.specs.OpenNeeds.{states_of, open_report, total_open, checked}
use Rattle.runcheck.specs.Tallies.{stepped}
use Rattle.runcheck.specs.declared.Checked.{Checked}
use Rattle.runcheck.proofs.RuleLaws.{controller_at_first, controller_at_next}
use Rattle.runcheck.proofs.TallyLaws.{IsState, tally_of, answer, needs_none, report_tally, report_total}

pub state_first : (t : Task) (run : ℕ) → IsState (states_of t run) 0 (start_of t.runs run)
unfolding course_of
state_first t run f = sym (controller_at_first (cells_of t.table) (course_of t.runs run) f)

-- a mask says of a fact what it says of the two that it is chosen from
has_chosen : (b : Bool) (m n f : ℕ) → has (cond b m n) f ≡ cond b (has m f) (has n f)
has_chosen true m n f = refl
has_chosen false m n f = refl

-- after a step: add wins, and a step with open needs keeps the state
pub state_next : (t : Task) → WellFormed t → (run i state : ℕ) → i < count_of t.runs run → IsState (states_of t run) i state
    → let a = step_of t.runs run i in
    IsState (states_of t run) (i + 1)
    (stepped state (removed (get_or t.table.needs a 0) state) (get_or t.table.adds a 0) (get_or t.table.deletes a 0))
unfolding cells_of course_of
state_next t w run i state h is_state f =
    let a = step_of t.runs run i in
    let adds = get_or t.table.adds a 0 in
    let deletes = get_or t.table.deletes a 0 in
    let absent = removed (get_or t.table.needs a 0) state in
    let taken : has (joined (removed state deletes) adds) f ≡ (states_of t run i f && not (has deletes f) || has adds f) =
    has_joined (removed state deletes) adds f ∙ ap (λ b. b || has adds f) (has_removed state deletes f) ∙
    ap (λ b. b && not (has deletes f) || has adds f) (is_state f) in
    has_chosen (eqb absent 0) (joined (removed state deletes) adds) state f ∙
    (λ j. cond (needs_none t w run (states_of t run) i state is_state h j) (taken j) (is_state f j)) ∙
    sym (controller_at_next (cells_of t.table) (course_of t.runs run) i f h)

-- ---- what is answered for a run of a well-formed task

module _ (t : Task) (run : ℕ) (h : formed t ≡ true) (there : run < t.runs.many) where
  pub checked_report : checked t run ≡ open_report (cells_of t.table) (course_of t.runs run) (states_of t run)
  unfolding checked
  checked_report = rw (h, lt-ltb run t.runs.many there)

  pub checked_formed : checked t run ≡ answer (tally_of t run (states_of t run) (count_of t.runs run + 1))
  unfolding course_of
  checked_formed = checked_report ∙ report_tally (cells_of t.table) (course_of t.runs run) (states_of t run)

  pub checked_total : (checked t run).total ≡ total_open (cells_of t.table) (course_of t.runs run) (states_of t run)
  checked_total =
      ap (λ (x : Checked). x.total) checked_report ∙ report_total (cells_of t.table) (course_of t.runs run) (states_of t run)
