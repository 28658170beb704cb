-- When no list works: exactly when the fullest permitted list fails, and exactly when a run without steps lacks a goal at its start, or a run's
-- first step has a locked need that its start lacks (02, requests 1 and 6). So it is of a solve's 9. Assumes nothing.
use mathlib.Core.Bool.{Bool, true, false, not, ◌&&◌, cond, false≢true, true≢false}
use mathlib.Core.List.{List}
use mathlib.Core.Path.{◌≡◌, refl, sym, ap, ◌∙◌, subst}
use Prim.Native.Nat.{ℕ, ◌<◌, ◌≤◌}
use native.Mathlib.Omega.{arith}
use lib.Dec.{eqb}
use borrow.Author.Tests.{not-true, not-false, eqb-true, eqb-false, eq-eqb, ne_eqb}
use Rattle.facts.specs.Sets.{has}
use Rattle.table.specs.Counting.{some_below}
use Rattle.table.specs.Answer.{Verdict, found, over, hopeless, Within}
use Rattle.table.specs.Order.{is_in}
use Rattle.table.specs.Refusals.{no_list_works}
use Rattle.table.specs.Repairs.{repaired}
use Rattle.table.specs.Strips.{state_at}
use Rattle.table.specs.Tasks.{cells_of, start_of, goal_of, count_of, step_of, course_of, courses_of, WorksFor, WellFormed}
use Rattle.table.specs.declared.Task.{Task}
use Rattle.table.proofs.AnswerLaws.{within_unique}
use Rattle.table.proofs.CountingLaws.{some_passes, none_passes}
use Rattle.table.proofs.FlagLaws.{by_order, both}
use Rattle.table.proofs.Formation.{well_formed, locks_inside}
use Rattle.table.proofs.JoinLaws.{formed_inside}
use Rattle.table.proofs.LockLaws.{locked_stands}
use Rattle.table.proofs.RunLaws.{state_at_first}
use Rattle.solve.specs.Solving.{told, Solves}
use Rattle.table.specs.Outcomes.{Outcome, refused}
use Rattle.table.proofs.OutcomeLaws.{given_cases}
use Rattle.solve.specs.Stuck.{fullest, Stuck, without_steps, first_locked}
use Rattle.solve.proofs.FullLists.{Able, AllAble, fullest_works, able_works}

-- No list works for the task.
abbrev NoneFor : Task → Type 0
NoneFor t = (l : List ℕ) → WorksFor t l → ⊥

module _ (t : Task) (w : WellFormed t) where
  -- Does run i ask for the fact before any step has run (as a goal if it has no step, and else as a locked need of the first), and is it
  -- absent then?
  asked : ℕ → ℕ → Bool
  asked i f = cond (eqb (count_of t.runs i) 0) (has (goal_of t.runs i) f) ((cells_of t.table).locks (step_of t.runs i 0) f)

  missing : ℕ → ℕ → Bool
  missing i f = asked i f && not (has (start_of t.runs i) f)

  stuck_in : ℕ → Bool
  stuck_in i = some_below (missing i) t.table.facts

  -- A run that is not stuck.
  not_stuck : (i : ℕ) → stuck_in i ≡ false → Able (cells_of t.table) (course_of t.runs i)
  unfolding cells_of course_of stuck_in missing asked
  not_stuck i h = record {
    below = w.steps_below i;
    goals = λ e f g. there f (within f g (w.goal_inside i f)) (rw (eq-eqb (count_of t.runs i) 0 e) g);
    first = λ some f l.
        there f (within f l (locks_inside t w (step_of t.runs i 0) f)) (rw (ne_eqb (count_of t.runs i) 0 (λ e. omega arith)) l);
  }
    where
      within : (f : ℕ) {b : Bool} → b ≡ true → (t.table.facts ≤ f → b ≡ false) → f < t.table.facts
      within f h out = by_order f t.table.facts (λ l. l) (λ l. absurd (true≢false (sym h ∙ out l)))

      present : (a b : Bool) → a ≡ true → (a && not b) ≡ false → b ≡ true
      present true b p q = not-false b q
      present false b p q = absurd (false≢true p)

      there : (f : ℕ) → f < t.table.facts → asked i f ≡ true → has (start_of t.runs i) f ≡ true
      there f l a = present (asked i f) (has (start_of t.runs i) f) a (none_passes (missing i) t.table.facts h f l)

  -- ---- the theorem, both ways

  none_stuck : NoneFor t → Stuck t
  unfolding cells_of stuck_in missing asked
  none_stuck none = pick (some_below stuck_in t.runs.many) refl
    where
      stuck : (i f : ℕ) → i < t.runs.many → asked i f ≡ true → has (start_of t.runs i) f ≡ false → Stuck t
      stuck i f there a absent = by_steps (eqb (count_of t.runs i) 0) refl a
        where
          by_steps : (b : Bool) → eqb (count_of t.runs i) 0 ≡ b
              → cond b (has (goal_of t.runs i) f) ((cells_of t.table).locks (step_of t.runs i 0) f) ≡ true → Stuck t
          by_steps true e goal = without_steps i f there (eqb-true (count_of t.runs i) 0 e) goal absent
          by_steps false e locked = first_locked i f there (by_order 0 (count_of t.runs i) (λ l. l) (λ l. absurd (eqb-false (count_of t.runs i) 0 e (omega arith)))) locked absent

      pick : (b : Bool) → some_below stuck_in t.runs.many ≡ b → Stuck t
      pick true h =
          let p = some_passes stuck_in t.runs.many h in
          let i = p.0 in
          let f = some_passes (missing i) t.table.facts p.2 in
          let r = both (asked i f.0) (not (has (start_of t.runs i) f.0)) f.2 in
          stuck i f.0 p.1 r.0 (not-true (has (start_of t.runs i) f.0) r.1)
      pick false h =
          let able : AllAble (cells_of t.table) (courses_of t) = λ i low. not_stuck i (none_passes stuck_in t.runs.many h i low) in
          absurd (none (fullest (cells_of t.table))
          (able_works (cells_of t.table) w.facts_high w.actions_high (courses_of t) (formed_inside t w) able))

  -- Before any step the state is the start, whatever is repaired, and no list drops a locked need.
  stuck_none : Stuck t → NoneFor t
  unfolding course_of
  stuck_none (without_steps i f there none goal absent) l works =
      let c = repaired (cells_of t.table) (is_in l) in
      let r = course_of t.runs i in
      true≢false (sym ((works.valid i there).reaches f goal) ∙ ap (λ (j : ℕ). state_at c r j f) none ∙ state_at_first c r f ∙ absent)
  stuck_none (first_locked i f there some locked absent) l works =
      let c = repaired (cells_of t.table) (is_in l) in
      let r = course_of t.runs i in
      let a = step_of t.runs i 0 in
      let need = locked_stands (cells_of t.table) l works.permitted.each a f locked (w.locks_needs a f locked) in
      true≢false (sym ((works.valid i there).may_run 0 some f need) ∙ state_at_first c r f ∙ absent)

  -- The fullest list works if any does.
  fullest_none : (WorksFor t (fullest (cells_of t.table)) → ⊥) → NoneFor t
  unfolding cells_of
  fullest_none fails l works = fails (fullest_works (cells_of t.table) w.facts_high w.actions_high (courses_of t) l works)

-- ---- the same of the refusal

-- Only the verdict hopeless is told as 9.
told_nine : (v : Verdict) (room : List ℕ) → (told v room).reply.number ≡ no_list_works → v ≡ hopeless
unfolding told
told_nine (found l) room h =
    absurd (given_cases l room (λ o. o.reply.number ≡ no_list_works → ⊥) (λ short e. omega arith) (λ fits e. omega arith) h)
told_nine over room h = absurd (omega arith)
told_nine hopeless room h = refl

module _ (t : Task) (w : WellFormed t) (room : List ℕ) (o : Outcome) (s : Solves t room o) where
  nine_none : o.reply.number ≡ no_list_works → NoneFor t
  nine_none h =
      let x = s.verdict (well_formed t w) in
      let e : x.0 ≡ hopeless = told_nine x.0 room (ap (λ (u : Outcome). u.reply.number) (sym x.2) ∙ h) in
      subst (λ (v : Verdict). Within (WorksFor t) t.table.limit v) e x.1

  none_nine : NoneFor t → o ≡ refused no_list_works room
  unfolding told
  none_nine none =
      let x = s.verdict (well_formed t w) in
      x.2 ∙ ap (λ (v : Verdict). told v room) (within_unique (WorksFor t) t.table.limit x.0 hopeless x.1 none)

  -- 9 exactly when the fullest permitted list fails
  pub nine_fullest : o.reply.number ≡ no_list_works → WorksFor t (fullest (cells_of t.table)) → ⊥
  nine_fullest h = nine_none h (fullest (cells_of t.table))

  pub fullest_nine : (WorksFor t (fullest (cells_of t.table)) → ⊥) → o ≡ refused no_list_works room
  fullest_nine fails = none_nine (fullest_none t w fails)

  -- and what that means in the runs
  pub nine_stuck : o.reply.number ≡ no_list_works → Stuck t
  nine_stuck h = none_stuck t w (nine_none h)

  pub stuck_nine : Stuck t → o ≡ refused no_list_works room
  stuck_nine h = none_nine (stuck_none t w h)
