-- The runs of a task with one record more: the one that was opened last may have got a fact or a step more, or a further one is opened; and
-- what makes them well formed still holds of them. Assumes nothing.
use mathlib.Core.Bool.{Bool, true, false, cond, ◌&&◌, and-false}
use mathlib.Core.List.{List}
use mathlib.Core.Path.{◌≡◌, refl, ap, ◌∙◌}
use Prim.Native.Nat.{ℕ, ◌+◌, ◌-◌, ◌*◌, ◌<◌, ◌≤◌}
use native.Mathlib.Omega.{arith}
use lib.Dec.{eqb}
use lib.ListN.{length, get_or, set}
use borrow.Author.Tests.{eqb-true, eqb-false, eq-eqb, ne_eqb}
use Rattle.facts.specs.Sets.{has, joined, only}
use Rattle.table.proofs.FlagLaws.{both, and_both, same_flag}
use Rattle.table.specs.Sizes.{max_runs, max_steps}
use Rattle.table.specs.Tasks.{start_of, goal_of, count_of, step_of, WellFormed}
use Rattle.table.specs.declared.Runs.{Runs}
use Rattle.table.specs.declared.Task.{Task}
use Rattle.taskformat.specs.Format.{sizes_kind, run_kind, start_kind, goal_kind, step_kind, position_of}
use Rattle.taskformat.specs.Reading.{last_run, runs_after}
use Rattle.taskformat.proofs.PositionLaws.{order, apart}
use Rattle.taskformat.proofs.Ranks.{fact_sets, fact_set}
use Rattle.taskformat.proofs.Families.{FactKind, start_kind_lem, goal_kind_lem}
use Rattle.taskformat.proofs.Fitting.{Fitted, run_of}
use Rattle.taskformat.proofs.Grown.{grown_inside, get_grown, get_set}

-- What well-formedness says of the runs, with f facts and a actions.
pub record RunsFormed (f a : ℕ) (r : Runs) : Type 0 where
  pub many_low : 0 < r.many
  pub many_high : r.many ≤ max_runs
  pub count_high : (i : ℕ) → count_of r i ≤ max_steps
  pub start_inside : (i g : ℕ) → f ≤ g → has (start_of r i) g ≡ false
  pub goal_inside : (i g : ℕ) → f ≤ g → has (goal_of r i) g ≡ false
  pub steps_below : (i j : ℕ) → j < count_of r i → step_of r i j < a
  pub start_unused : (i : ℕ) → r.many ≤ i → start_of r i ≡ 0
  pub goal_unused : (i : ℕ) → r.many ≤ i → goal_of r i ≡ 0
  pub count_unused : (i : ℕ) → r.many ≤ i → count_of r i ≡ 0
  pub steps_unused : (i j : ℕ) → count_of r i ≤ j → j < max_steps → step_of r i j ≡ 0

module _ (t : Task) (k x y : ℕ) (formed : WellFormed t) (fitted : Fitted t k x y) where
  pub same_sizes : (eqb k sizes_kind ≡ false)
  same_sizes = ne_eqb k sizes_kind (apart sizes_kind k fitted.later)

  abbrev last : ℕ
  last = last_run t.runs

  last_below : last < max_runs
  last_below = omega (arith, formed.many_low, formed.many_high)

  pub many_after : (runs_after t.runs k x).many ≡ cond (eqb k run_kind) (t.runs.many + 1) t.runs.many
  unfolding runs_after
  many_after = rw same_sizes

  -- The record's own run is the last one after it.
  pub last_after : last_run (runs_after t.runs k x) ≡ run_of t k
  unfolding run_of
  last_after = rw many_after (at (eqb k run_kind))
    where
      at : (b : Bool) → cond b (t.runs.many + 1) t.runs.many - 1 ≡ cond b t.runs.many (t.runs.many - 1)
      at true = omega arith
      at false = refl

  pub sets_after : (kind i : ℕ) → FactKind kind → fact_set (runs_after t.runs k x) kind i ≡
      cond (eqb k kind && eqb i last) (joined (fact_set t.runs kind i) (only x)) (fact_set t.runs kind i)
  sets_after kind i of =
      ap (λ (l : List ℕ). get_or l i 0) (of.grown t.runs k x)
      ∙ get_grown (eqb k kind) (fact_sets t.runs kind) last x i
      (λ _. let below = last_below in let full = sets_full (eqb kind start_kind) in omega arith)
    where
      sets_full : (b : Bool) → length (cond b t.runs.starts t.runs.goals) ≡ max_runs
      sets_full true = formed.shaped.starts
      sets_full false = formed.shaped.goals

  pub counts_after : (i : ℕ) → count_of (runs_after t.runs k x) i ≡
      cond (eqb k step_kind && eqb i last) (count_of t.runs i + 1) (count_of t.runs i)
  unfolding runs_after
  counts_after i =
      get_set (eqb k step_kind) t.runs.counts last (count_of t.runs last + 1) i (λ _. let below = last_below in let full = formed.shaped.counts in omega arith)
      ∙ at (eqb k step_kind) (eqb i last) refl
    where
      at : (b c : Bool) → eqb i last ≡ c → cond (b && c) (count_of t.runs last + 1) (count_of t.runs i) ≡
          cond (b && c) (count_of t.runs i + 1) (count_of t.runs i)
      at true true e = rw (eqb-true i last e)
      at true false e = refl
      at false c e = refl

  -- The place of a step among all steps tells its run and its number.
  step_place : (i j : ℕ) → j < max_steps → count_of t.runs last < max_steps
      → eqb (max_steps * i + j) (max_steps * last + count_of t.runs last) ≡ (eqb i last && eqb j (count_of t.runs i))
  step_place i j small room =
      same_flag (eqb (max_steps * i + j) (max_steps * last + count_of t.runs last)) (eqb i last && eqb j (count_of t.runs i))
      (λ e.
      let place = eqb-true (max_steps * i + j) (max_steps * last + count_of t.runs last) e in
      let run : i ≡ last = omega arith in
      let count = ap (count_of t.runs) run in and_both _ _ (eq-eqb i last run) (eq-eqb j (count_of t.runs i) (omega arith)))
      (λ e.
      let tests = both (eqb i last) (eqb j (count_of t.runs i)) e in
      let run = eqb-true i last tests.0 in
      let step = eqb-true j (count_of t.runs i) tests.1 in
      let count = ap (count_of t.runs) run in
      eq-eqb (max_steps * i + j) (max_steps * last + count_of t.runs last) (omega arith))

  pub steps_after : (i j : ℕ) → j < max_steps → step_of (runs_after t.runs k x) i j ≡
      cond (eqb k step_kind && eqb i last && eqb j (count_of t.runs i)) x (step_of t.runs i j)
  unfolding runs_after
  steps_after i j small = at (eqb k step_kind) refl
    where
      at : (b : Bool) → eqb k step_kind ≡ b
          → get_or (cond b (set t.runs.steps (max_steps * last + count_of t.runs last) x) t.runs.steps) (max_steps * i + j) 0 ≡
          cond (b && eqb i last && eqb j (count_of t.runs i)) x (step_of t.runs i j)
      at true e =
          let room = fitted.room (ap position_of (eqb-true k step_kind e)) in
          let full = formed.shaped.steps in
          let below = last_below in
          get_set true t.runs.steps (max_steps * last + count_of t.runs last) x (max_steps * i + j) (λ _. omega arith)
          ∙ rw (step_place i j small room)
      at false e = refl

  -- ---- well formed

  many_low_after : (b : Bool) → 0 < cond b (t.runs.many + 1) t.runs.many
  many_low_after true = omega arith
  many_low_after false = formed.many_low

  many_high_after : (b : Bool) → eqb k run_kind ≡ b → cond b (t.runs.many + 1) t.runs.many ≤ max_runs
  many_high_after true e = let room = fitted.opens (ap position_of (eqb-true k run_kind e)) in omega arith
  many_high_after false e = formed.many_high

  -- A run that is not opened even after the record was not opened before, and is not the last.
  unopened : (b : Bool) (i : ℕ) → cond b (t.runs.many + 1) t.runs.many ≤ i → (t.runs.many ≤ i) × (eqb i last ≡ false)
  unopened true i l = (omega arith, ne_eqb i last (λ e. omega arith))
  unopened false i l = (l, ne_eqb i last (λ e. omega (arith, formed.many_low)))

  unused_run : (b : Bool) (i v w : ℕ) → (runs_after t.runs k x).many ≤ i → (t.runs.many ≤ i → w ≡ 0) → cond (b && eqb i last) v w ≡ 0
  unused_run b i v w l none =
      let past = unopened (eqb k run_kind) i (rw many_after at l) in rw (past.1, and-false b) (none past.0)

  set_inside : (kind i : ℕ) → FactKind kind → ((f : ℕ) → t.table.facts ≤ f → has (fact_set t.runs kind i) f ≡ false)
      → (f : ℕ) → t.table.facts ≤ f → has (fact_set (runs_after t.runs k x) kind i) f ≡ false
  set_inside kind i of inside f l =
      rw (sets_after kind i of)
      (grown_inside (eqb k kind && eqb i last) (fact_set t.runs kind i) x t.table.facts
      (λ e. let is = ap position_of (eqb-true k kind (both (eqb k kind) (eqb i last) e).0) in fitted.fact (omega arith) (omega arith))
      formed.facts_high inside f l)

  set_unused : (kind i : ℕ) → FactKind kind → (t.runs.many ≤ i → fact_set t.runs kind i ≡ 0)
      → (runs_after t.runs k x).many ≤ i → fact_set (runs_after t.runs k x) kind i ≡ 0
  set_unused kind i of none l =
      sets_after kind i of
      ∙ unused_run (eqb k kind) i (joined (fact_set t.runs kind i) (only x)) (fact_set t.runs kind i) l none

  count_after : (b c : Bool) (i : ℕ) → eqb k step_kind ≡ b → eqb i last ≡ c
      → cond (b && c) (count_of t.runs i + 1) (count_of t.runs i) ≤ max_steps
  count_after true true i e d =
      let room = fitted.room (ap position_of (eqb-true k step_kind e)) in
      let same = ap (count_of t.runs) (eqb-true i last d) in omega arith
  count_after true false i e d = formed.count_high i
  count_after false c i e d = formed.count_high i

  below_after : (b c d : Bool) (i j : ℕ) → eqb k step_kind ≡ b → eqb j (count_of t.runs i) ≡ d
      → j < cond (b && c) (count_of t.runs i + 1) (count_of t.runs i) → cond (b && c && d) x (step_of t.runs i j) < t.table.actions
  below_after true true true i j e p l = let is = ap position_of (eqb-true k step_kind e) in fitted.action (omega (arith, order))
  below_after true true false i j e p l = let other = eqb-false j (count_of t.runs i) p in formed.steps_below i j (omega arith)
  below_after true false d i j e p l = formed.steps_below i j l
  below_after false c d i j e p l = formed.steps_below i j l

  rest_after : (b c d : Bool) (i j : ℕ) → eqb j (count_of t.runs i) ≡ d
      → cond (b && c) (count_of t.runs i + 1) (count_of t.runs i) ≤ j → j < max_steps → cond (b && c && d) x (step_of t.runs i j) ≡ 0
  rest_after true true true i j p l h = let same = eqb-true j (count_of t.runs i) p in absurd (omega arith)
  rest_after true true false i j p l h = formed.steps_unused i j (omega arith) h
  rest_after true false d i j p l h = formed.steps_unused i j l h
  rest_after false c d i j p l h = formed.steps_unused i j l h

  pub runs_formed : RunsFormed t.table.facts t.table.actions (runs_after t.runs k x)
  runs_formed = record {
    many_low = rw many_after (many_low_after (eqb k run_kind));
    many_high = rw many_after (many_high_after (eqb k run_kind) refl);
    count_high = λ i. rw (counts_after i) (count_after (eqb k step_kind) (eqb i last) i refl refl);
    start_inside = λ i. set_inside start_kind i start_kind_lem (formed.start_inside i);
    goal_inside = λ i. set_inside goal_kind i goal_kind_lem (formed.goal_inside i);
    steps_below = λ i j l. let few = rw (counts_after i) at l in
        let most = count_after (eqb k step_kind) (eqb i last) i refl refl in
        rw (steps_after i j (omega arith)) (below_after (eqb k step_kind) (eqb i last) (eqb j (count_of t.runs i)) i j refl refl few);
    start_unused = λ i. set_unused start_kind i start_kind_lem (formed.start_unused i);
    goal_unused = λ i. set_unused goal_kind i goal_kind_lem (formed.goal_unused i);
    count_unused = λ i l. counts_after i ∙ unused_run (eqb k step_kind) i (count_of t.runs i + 1) (count_of t.runs i) l (formed.count_unused i);
    steps_unused = λ i j l h. steps_after i j h
        ∙ rest_after (eqb k step_kind) (eqb i last) (eqb j (count_of t.runs i)) i j refl (rw (counts_after i) at l) h;
  }
