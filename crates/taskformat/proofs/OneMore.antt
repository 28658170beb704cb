-- A task with one record more stays well formed. Assumes nothing.
use mathlib.Core.Bool.{Bool, true, false, cond, ◌&&◌, ◌||◌}
use mathlib.Core.List.{List}
use mathlib.Core.Logic.{⊎_elim}
use mathlib.Core.Path.{◌≡◌, refl, sym, ap, ◌∙◌}
use Prim.Native.Nat.{ℕ, ◌+◌, ◌*◌, ◌<◌, ◌≤◌}
use native.Mathlib.Omega.{arith}
use lib.Dec.{eqb}
use lib.ListN.{get_or}
use borrow.Author.Tests.{eqb-true}
use Rattle.facts.specs.Sets.{has, joined, only}
use Rattle.table.proofs.FlagLaws.{both, or_cases, or_left}
use Rattle.table.specs.Repairs.{by_kind, drop_delete, add_effect}
use Rattle.table.specs.Sizes.{max_steps}
use Rattle.table.specs.Tasks.{start_of, goal_of, count_of, cells_of, mask_of, Shaped, WellFormed}
use Rattle.table.specs.declared.Table.{Table}
use Rattle.table.specs.declared.Task.{Task}
use Rattle.taskformat.specs.Format.{sizes_kind, start_kind, goal_kind, need_kind, add_kind, delete_kind, lock_kind, step_kind, position_of}
use Rattle.taskformat.specs.Reading.{last_run, table_after, runs_after}
use Rattle.table.proofs.Formation.{by_kind_all}
use Rattle.taskformat.proofs.Ranks.{cell_sets, cell_set}
use Rattle.taskformat.proofs.Families.{CellKind, need_kind_lem, add_kind_lem, delete_kind_lem, lock_kind_lem}
use Rattle.taskformat.proofs.Fitting.{Fitted, OnNeed}
use Rattle.taskformat.proofs.RunsAfter.{same_sizes, runs_formed}
use Rattle.taskformat.proofs.Grown.{has_grown, grown_inside, get_grown, length_set_if}

-- The task with one record more, of this kind and these bytes.
unfoldable pub task_after : Task → ℕ → ℕ → ℕ → ℕ → Task
task_after t k x y z = record { table = table_after t.table k x y z; runs = runs_after t.runs k x }

-- ---- the sets of an action

-- The kind of cell that a kind of repair concerns, and its sets.
abbrev concerned : ℕ → ℕ
concerned j = by_kind j delete_kind add_kind need_kind

concerned_kind : (j : ℕ) → CellKind (concerned j)
concerned_kind j = by_kind_all CellKind j {d = delete_kind} {a = add_kind} {n = need_kind} delete_kind_lem add_kind_lem need_kind_lem

concerned_set : (t : Table) (j a : ℕ) → mask_of t j a ≡ cell_set t (concerned j) a
concerned_set t j a = at (eqb j drop_delete) (eqb j add_effect)
  where
    at : (b c : Bool) → cond b (get_or t.deletes a 0) (cond c (get_or t.adds a 0) (get_or t.needs a 0)) ≡
        cell_set t (cond b delete_kind (cond c add_kind need_kind)) a
    at true c = refl
    at false true = refl
    at false false = refl

module _ (t : Task) (k x y z : ℕ) (formed : WellFormed t) (fitted : Fitted t k x y) where
  cell_told : (kind a : ℕ) → CellKind kind → (eqb k kind && eqb a x) ≡ true → (x < t.table.actions) × (y < t.table.facts) × (a ≡ x)
  cell_told kind a of e =
      let tests = both (eqb k kind) (eqb a x) e in
      let same = ap position_of (eqb-true k kind tests.0) in
      let low : position_of need_kind ≤ position_of k = omega arith in
      let high : position_of k ≤ position_of lock_kind = omega arith in
      (fitted.action low, fitted.cell low high, eqb-true a x tests.1)

  cells_after : (kind a : ℕ) → CellKind kind → cell_set (table_after t.table k x y z) kind a ≡
      cond (eqb k kind && eqb a x) (joined (cell_set t.table kind a) (only y)) (cell_set t.table kind a)
  cells_after kind a of =
      ap (λ (l : List ℕ). get_or l a 0) (of.sets.grown t.table k x y z)
      ∙ get_grown (eqb k kind) (cell_sets t.table kind) x y a
      (λ e.
      let same = ap position_of (eqb-true k kind e) in
      let less = fitted.action (omega arith) in
      let full = of.sets.full t formed.shaped in omega (arith, formed.actions_high))

  pub has_after : (kind a f : ℕ) → CellKind kind
      → has (cell_set (table_after t.table k x y z) kind a) f ≡ (has (cell_set t.table kind a) f || (eqb k kind && eqb a x && eqb f y))
  has_after kind a f of =
      ap (λ (m : ℕ). has m f) (cells_after kind a of)
      ∙ has_grown (eqb k kind && eqb a x) (cell_set t.table kind a) y f (λ e. let told = cell_told kind a of e in omega (arith, formed.facts_high))

-- ---- well formed

pub shaped_after : (t : Task) (k x y z : ℕ) → Shaped t → Shaped (task_after t k x y z)
unfolding task_after table_after runs_after
shaped_after t k x y z shaped =
    let i = last_run t.runs in
    record {
      needs = length_set_if (eqb k need_kind) t.table.needs x (joined (get_or t.table.needs x 0) (only y)) ∙ shaped.needs;
      adds = length_set_if (eqb k add_kind) t.table.adds x (joined (get_or t.table.adds x 0) (only y)) ∙ shaped.adds;
      deletes = length_set_if (eqb k delete_kind) t.table.deletes x (joined (get_or t.table.deletes x 0) (only y)) ∙ shaped.deletes;
      locks = length_set_if (eqb k lock_kind) t.table.locks x (joined (get_or t.table.locks x 0) (only y)) ∙ shaped.locks;
      starts = length_set_if (eqb k start_kind) t.runs.starts i (joined (start_of t.runs i) (only x)) ∙ shaped.starts;
      goals = length_set_if (eqb k goal_kind) t.runs.goals i (joined (goal_of t.runs i) (only x)) ∙ shaped.goals;
      counts = length_set_if (eqb k step_kind) t.runs.counts i (count_of t.runs i + 1) ∙ shaped.counts;
      steps = length_set_if (eqb k step_kind) t.runs.steps (max_steps * i + count_of t.runs i) x ∙ shaped.steps;
    }

module _ (t : Task) (k x y z : ℕ) (formed : WellFormed t) (fitted : Fitted t k x y) where
  same : eqb k sizes_kind ≡ false
  same = same_sizes t k x y formed fitted

  masks_after : (j a : ℕ) → mask_of (table_after t.table k x y z) j a ≡
      cond (eqb k (concerned j) && eqb a x) (joined (cell_set t.table (concerned j) a) (only y)) (cell_set t.table (concerned j) a)
  masks_after j a =
      concerned_set (table_after t.table k x y z) j a ∙ cells_after t k x y z formed fitted (concerned j) a (concerned_kind j)

  unused_after : (b : Bool) (j a : ℕ) → (eqb k (concerned j) && eqb a x) ≡ b → t.table.actions ≤ a
      → cond b (joined (cell_set t.table (concerned j) a) (only y)) (cell_set t.table (concerned j) a) ≡ 0
  unused_after true j a e l = let c = cell_told t k x y z formed fitted (concerned j) a (concerned_kind j) e in absurd (omega arith)
  unused_after false j a e l = (concerned_kind j).sets.unused t formed a l

  -- A lock that was on a need still is, and a new one is on a need.
  locks_after : OnNeed t k x y → (a f : ℕ) → (cells_of (table_after t.table k x y z)).locks a f ≡ true
      → (cells_of (table_after t.table k x y z)).needs a f ≡ true
  unfolding cells_of
  locks_after need a f e =
      has_after t k x y z formed fitted need_kind a f need_kind_lem
      ∙ or_left (has (get_or t.table.needs a 0) f) (eqb k need_kind && eqb a x && eqb f y)
      (⊎_elim (formed.locks_needs a f) new
      (or_cases (has (get_or t.table.locks a 0) f) (eqb k lock_kind && eqb a x && eqb f y)
      (sym (has_after t k x y z formed fitted lock_kind a f lock_kind_lem) ∙ e)))
    where
      new : (eqb k lock_kind && eqb a x && eqb f y) ≡ true → has (get_or t.table.needs a 0) f ≡ true
      new e =
          let tests = both (eqb k lock_kind && eqb a x) (eqb f y) e in
          let firsts = both (eqb k lock_kind) (eqb a x) tests.0 in
          rw (eqb-true a x firsts.1, eqb-true f y tests.1) (need (eqb-true k lock_kind firsts.0))

  pub formed_after : OnNeed t k x y → WellFormed (task_after t k x y z)
  unfolding task_after table_after
  formed_after need =
      let runs = runs_formed t k x y formed fitted in
      record {
        shaped = shaped_after t k x y z formed.shaped;
        facts_low = rw same formed.facts_low;
        facts_high = rw same formed.facts_high;
        actions_low = rw same formed.actions_low;
        actions_high = rw same formed.actions_high;
        limit_high = rw same formed.limit_high;
        many_low = runs.many_low;
        many_high = runs.many_high;
        count_high = runs.count_high;
        inside = rw same
            (λ j a f l. rw (masks_after j a)
            (grown_inside (eqb k (concerned j) && eqb a x) (cell_set t.table (concerned j) a) y t.table.facts
            (λ e. (cell_told t k x y z formed fitted (concerned j) a (concerned_kind j) e).1) formed.facts_high
            ((concerned_kind j).sets.inside t formed a) f l));
        locks_needs = locks_after need;
        start_inside = rw same runs.start_inside;
        goal_inside = rw same runs.goal_inside;
        steps_below = rw same runs.steps_below;
        actions_unused = rw same
            (λ j a l. masks_after j a ∙ unused_after (eqb k (concerned j) && eqb a x) j a refl l);
        start_unused = runs.start_unused;
        goal_unused = runs.goal_unused;
        count_unused = runs.count_unused;
        steps_unused = runs.steps_unused;
      }
