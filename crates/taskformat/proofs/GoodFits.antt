-- A good record that is neither the first nor the end fits. Assumes nothing.
use mathlib.Core.Bool.{true, false, ◌&&◌, ◌||◌}
use mathlib.Core.Path.{◌≡◌}
use Prim.Native.Nat.{ℕ, ◌<◌, ◌≤◌}
use native.Mathlib.Omega.{arith}
use lib.Dec.{eqb, leb}
use lib.ListN.{get_or}
use borrow.Author.Tests.{eqb-false, eq-eqb, ne_eqb, leb-false, not-false}
use Rattle.table.specs.Sizes.{max_runs, max_steps}
use Rattle.table.specs.Tasks.{count_of}
use Rattle.facts.specs.Sets.{has}
use Rattle.table.proofs.FlagLaws.{or_left, or_right, or_neither}
use Rattle.table.specs.declared.Table.{Table}
use Rattle.taskformat.specs.Format.{no_kind, sizes_kind, run_kind, step_kind, end_kind, lock_kind, is_kind, is_cell_kind, is_fact_kind, position_of}
use Rattle.taskformat.specs.Reading.{Seen, last_run, misplaced, first_outside, outside, lock_stray}
use Rattle.taskformat.proofs.PositionLaws.{order, apart}
use Rattle.taskformat.proofs.Families.{Family, of_none, of_sizes, of_run, of_fact, of_cell, of_step, family}
use Rattle.taskformat.proofs.Fitting.{Fits, opens_run, fact_fits, cell_fits, step_fits, OnNeed}

-- The first record has been seen.
pub some_kind : (seen : Seen) → position_of sizes_kind ≤ position_of seen.kind → eqb seen.kind no_kind ≡ false
some_kind seen low = ne_eqb seen.kind no_kind (apart no_kind seen.kind (omega (arith, order)))

not_again : (seen : Seen) (k : ℕ) → position_of sizes_kind ≤ position_of seen.kind → misplaced seen k ≡ false → k ≡ sizes_kind → ⊥
unfolding misplaced
not_again seen k low e = eqb-false k sizes_kind (rw (some_kind seen low) at e)

-- What it is for a record's numbers to be inside.
record Inside (t : Table) (k x y : ℕ) : Type 0 where
  fact : is_fact_kind k ≡ true → x < t.facts
  action : (is_cell_kind k || eqb k step_kind) ≡ true → x < t.actions
  second : is_cell_kind k ≡ true → y < t.facts

inside_parts : (t : Table) (k x y : ℕ) → outside t k x y ≡ false → Inside t k x y
unfolding outside
inside_parts t k x y e =
    let parts = or_neither (first_outside t k x) (is_cell_kind k && leb t.facts y) e in
    let firsts = or_neither (is_fact_kind k && leb t.facts x) ((is_cell_kind k || eqb k step_kind) && leb t.actions x) parts.0 in
    record {
      fact = λ is. leb-false t.facts x (rw is at firsts.0);
      action = λ is. leb-false t.actions x (rw is at firsts.1);
      second = λ is. leb-false t.facts y (rw is at parts.1);
    }

lock_on_need : (seen : Seen) (k x y : ℕ) → lock_stray seen.task.table.needs k x y ≡ false → OnNeed seen.task k x y
unfolding lock_stray
lock_on_need seen k x y e lock = not-false (has (get_or seen.task.table.needs x 0) y) (rw (eq-eqb k lock_kind lock) at e)

pub fits : (seen : Seen) (k x y : ℕ) → position_of sizes_kind ≤ position_of seen.kind → is_kind k ≡ true → misplaced seen k ≡ false
    → outside seen.task.table k x y ≡ false → (is_cell_kind k ≡ true → last_run seen.task.runs ≡ 0)
    → (eqb k run_kind && leb max_runs seen.task.runs.many) ≡ false → lock_stray seen.task.table.needs k x y ≡ false
    → (eqb k step_kind && leb max_steps (count_of seen.task.runs (last_run seen.task.runs))) ≡ false
    → (k ≡ end_kind → ⊥) → Fits seen.task k x y
fits seen k x y low known placed inside first runs locked room more = by (family k)
  where
    numbers : Inside seen.task.table k x y
    numbers = inside_parts seen.task.table k x y inside

    by : Family k → Fits seen.task k x y
    by (of_none out nothing) = absurd (more (out known))
    by (of_sizes is) = absurd (not_again seen k low placed is)
    by (of_run is) = opens_run is (leb-false max_runs seen.task.runs.many (rw (eq-eqb k run_kind is) at runs))
    by (of_fact kind) = fact_fits kind (numbers.fact kind.fact)
    by (of_cell kind) =
        cell_fits kind (numbers.action (or_left (is_cell_kind k) (eqb k step_kind) kind.cell)) (numbers.second kind.cell) (first kind.cell)
        (lock_on_need seen k x y locked)
    by (of_step is) =
        let step = eq-eqb k step_kind is in
        step_fits is (numbers.action (or_right (is_cell_kind k) (eqb k step_kind) step))
        (leb-false max_steps (count_of seen.task.runs (last_run seen.task.runs)) (rw step at room))
