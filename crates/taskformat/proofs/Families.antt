-- Which family a kind of record belongs to, with what the definitions give at each kind. Assumes nothing.
use mathlib.Core.Bool.{true, false, cond, false≢true}
use mathlib.Core.List.{[]}
use mathlib.Core.Logic.{◌⊎◌, inl, inr}
use mathlib.Core.Path.{◌≡◌, refl, ap}
use Prim.Native.Nat.{ℕ, zero, suc, ◌<◌, ◌≤◌}
use native.Mathlib.Omega.{arith}
use lib.Dec.{eqb}
use lib.ListN.{length}
use borrow.Author.Tests.{le-leb, lt-leb, ne_eqb}
use Rattle.facts.specs.Sets.{has}
use Rattle.table.proofs.Formation.{locks_inside, locks_unused}
use Rattle.table.specs.Repairs.{drop_delete, add_effect, drop_need}
use Rattle.table.specs.Setting.{set_in}
use Rattle.table.specs.Sizes.{max_actions}
use Rattle.table.specs.Tasks.{Shaped, WellFormed}
use Rattle.table.specs.declared.Runs.{Runs}
use Rattle.table.specs.declared.Table.{Table}
use Rattle.table.specs.declared.Task.{Task}
use Rattle.taskformat.specs.Format.{sizes_kind, run_kind, start_kind, goal_kind, need_kind, add_kind, delete_kind, lock_kind, step_kind, end_kind, is_kind, is_cell_kind, is_fact_kind, body_length, position_of}
use Rattle.taskformat.specs.Reading.{last_run, table_after, runs_after}
use Rattle.taskformat.proofs.PositionLaws.{within_kinds, order, position_known}
use Rattle.taskformat.proofs.Ranks.{fact_sets, cell_sets, cell_set, fact_piece, cell_piece, slot_piece}

-- Start or goal.
pub record FactKind (k : ℕ) : Type 0 where
  pub low : position_of start_kind ≤ position_of k
  pub high : position_of k ≤ position_of goal_kind
  pub known : is_kind k ≡ true
  pub fact : is_fact_kind k ≡ true
  pub not_cell : is_cell_kind k ≡ false
  pub not_step : eqb k step_kind ≡ false
  pub not_run : eqb k run_kind ≡ false
  pub length : body_length k ≡ 1
  pub shape : (t : Task) (i j : ℕ) → slot_piece t i k j ≡ fact_piece t i k j
  pub grown : (r : Runs) (kind x : ℕ)
      → fact_sets (runs_after r kind x) k ≡ cond (eqb kind k) (set_in (fact_sets r k) (last_run r) x true) (fact_sets r k)

-- The sets of a kind of cell: how they grow, and what well-formedness says of them.
pub record CellSets (k : ℕ) : Type 0 where
  pub grown : (t : Table) (kind x y z : ℕ)
      → cell_sets (table_after t kind x y z) k ≡ cond (eqb kind k) (set_in (cell_sets t k) x y true) (cell_sets t k)
  pub full : (t : Task) → Shaped t → length (cell_sets t.table k) ≡ max_actions
  pub inside : (t : Task) → WellFormed t → (a f : ℕ) → t.table.facts ≤ f → has (cell_set t.table k a) f ≡ false
  pub unused : (t : Task) → WellFormed t → (a : ℕ) → t.table.actions ≤ a → cell_set t.table k a ≡ 0

-- Need, add, delete or lock.
pub record CellKind (k : ℕ) : Type 0 where
  pub low : position_of need_kind ≤ position_of k
  pub high : position_of k ≤ position_of lock_kind
  pub known : is_kind k ≡ true
  pub not_fact : is_fact_kind k ≡ false
  pub cell : is_cell_kind k ≡ true
  pub not_step : eqb k step_kind ≡ false
  pub not_run : eqb k run_kind ≡ false
  pub length : body_length k ≡ 2
  pub shape : (t : Task) (i j : ℕ) → slot_piece t i k j ≡ cell_piece t i k j
  pub sets : CellSets k

pub data Family (k : ℕ) : Type 0 where
  of_none : (is_kind k ≡ true → k ≡ end_kind) → ((t : Task) (i j : ℕ) → slot_piece t i k j ≡ []) → Family k
  of_sizes : k ≡ sizes_kind → Family k
  of_run : k ≡ run_kind → Family k
  of_fact : FactKind k → Family k
  of_cell : CellKind k → Family k
  of_step : k ≡ step_kind → Family k

-- From start to goal the tests follow from the range; which of the two it is shows in its position and in how its sets grow.
fact_kind : (k : ℕ) → start_kind ≤ k → k ≤ goal_kind → position_of start_kind ≤ position_of k → position_of k ≤ position_of goal_kind → is_fact_kind k ≡ true
    → ((r : Runs) (kind x : ℕ) → fact_sets (runs_after r kind x) k ≡ cond (eqb kind k) (set_in (fact_sets r k) (last_run r) x true) (fact_sets r k))
    → FactKind k
unfolding slot_piece is_kind is_cell_kind body_length
fact_kind k from up low high fact grown = record {
  low = low;
  high = high;
  known = rw (le-leb sizes_kind k (omega arith), le-leb k lock_kind (omega arith));
  fact = fact;
  not_cell = rw (lt-leb need_kind k (omega arith), ne_eqb k lock_kind (omega arith));
  not_step = ne_eqb k step_kind (omega arith);
  not_run = ne_eqb k run_kind (omega arith);
  length = rw (
    ne_eqb k sizes_kind (omega arith),
    lt-leb need_kind k (omega arith),
    ne_eqb k lock_kind (omega arith),
    ne_eqb k end_kind (omega arith),
    ne_eqb k run_kind (omega arith),
  );
  shape = λ t i j. rw (ne_eqb k sizes_kind (omega arith), ne_eqb k run_kind (omega arith), fact);
  grown = grown;
}

-- Of a cell the tests follow from its being one; which of the four it is shows in its position and its sets.
cell_kind : (k : ℕ) → goal_kind < k → (k ≡ step_kind → ⊥) → (k ≡ run_kind → ⊥) → position_of need_kind ≤ position_of k → position_of k ≤ position_of lock_kind
    → is_kind k ≡ true → is_cell_kind k ≡ true → CellSets k → CellKind k
unfolding slot_piece is_fact_kind body_length
cell_kind k from step run low high known cell sets = record {
  low = low;
  high = high;
  known = known;
  not_fact = rw (ne_eqb k start_kind (omega arith), ne_eqb k goal_kind (omega arith));
  cell = cell;
  not_step = ne_eqb k step_kind step;
  not_run = ne_eqb k run_kind run;
  length = rw (ne_eqb k sizes_kind (omega arith), cell);
  shape = λ t i j.
      rw (ne_eqb k sizes_kind (omega arith), ne_eqb k run_kind run, ne_eqb k start_kind (omega arith), ne_eqb k goal_kind (omega arith), cell);
  sets = sets;
}

pub start_kind_lem : FactKind start_kind
unfolding is_fact_kind runs_after
start_kind_lem = fact_kind start_kind (omega arith) (omega arith) (omega (arith, order)) (omega (arith, order)) refl (λ r kind x. refl)

pub goal_kind_lem : FactKind goal_kind
unfolding is_fact_kind runs_after
goal_kind_lem = fact_kind goal_kind (omega arith) (omega arith) (omega (arith, order)) (omega (arith, order)) refl (λ r kind x. refl)

pub need_kind_lem : CellKind need_kind
unfolding is_kind is_cell_kind table_after
need_kind_lem =
    cell_kind need_kind (omega arith) (λ e. omega arith) (λ e. omega arith) (omega (arith, order)) (omega (arith, order)) refl refl
    (record { grown = λ t kind x y z. refl; full = λ t s. s.needs; inside = λ t w. w.inside drop_need; unused = λ t w. w.actions_unused drop_need })

pub add_kind_lem : CellKind add_kind
unfolding is_kind is_cell_kind table_after
add_kind_lem =
    cell_kind add_kind (omega arith) (λ e. omega arith) (λ e. omega arith) (omega (arith, order)) (omega (arith, order)) refl refl
    (record { grown = λ t kind x y z. refl; full = λ t s. s.adds; inside = λ t w. w.inside add_effect; unused = λ t w. w.actions_unused add_effect })

pub delete_kind_lem : CellKind delete_kind
unfolding is_kind is_cell_kind table_after
delete_kind_lem =
    cell_kind delete_kind (omega arith) (λ e. omega arith) (λ e. omega arith) (omega (arith, order)) (omega (arith, order)) refl refl
    (record { grown = λ t kind x y z. refl; full = λ t s. s.deletes; inside = λ t w. w.inside drop_delete; unused = λ t w. w.actions_unused drop_delete })

pub lock_kind_lem : CellKind lock_kind
unfolding is_kind is_cell_kind table_after
lock_kind_lem =
    cell_kind lock_kind (omega arith) (λ e. omega arith) (λ e. omega arith) (omega (arith, order)) (omega (arith, order)) refl refl
    (record { grown = λ t kind x y z. refl; full = λ t s. s.locks; inside = locks_inside; unused = locks_unused })

beyond : (k : ℕ) → lock_kind < k → (t : Task) (i j : ℕ) → slot_piece t i k j ≡ []
unfolding slot_piece is_fact_kind is_cell_kind
beyond k l t i j =
    rw (
      ne_eqb k sizes_kind (omega arith),
      ne_eqb k run_kind (omega arith),
      ne_eqb k start_kind (omega arith),
      ne_eqb k goal_kind (omega arith),
      le-leb need_kind k (omega arith),
      lt-leb k delete_kind (omega arith),
      ne_eqb k lock_kind (omega arith),
      ne_eqb k step_kind (omega arith),
    )

no_kind : (k : ℕ) → lock_kind < k → is_kind k ≡ true → k ≡ end_kind
no_kind k l e = let range = within_kinds k e in absurd (omega arith)

pub family : (k : ℕ) → Family k
unfolding slot_piece is_kind is_fact_kind is_cell_kind
family zero = of_none (λ e. absurd (false≢true e)) (λ t i j. refl)
family (suc zero) = of_sizes refl
family (suc (suc zero)) = of_fact start_kind_lem
family (suc (suc (suc zero))) = of_fact goal_kind_lem
family (suc (suc (suc (suc zero)))) = of_cell need_kind_lem
family (suc (suc (suc (suc (suc zero))))) = of_cell add_kind_lem
family (suc (suc (suc (suc (suc (suc zero)))))) = of_cell delete_kind_lem
family (suc (suc (suc (suc (suc (suc (suc zero))))))) = of_step refl
family (suc (suc (suc (suc (suc (suc (suc (suc zero)))))))) = of_none (λ _. refl) (λ t i j. refl)
family (suc (suc (suc (suc (suc (suc (suc (suc (suc zero))))))))) = of_run refl
family (suc (suc (suc (suc (suc (suc (suc (suc (suc (suc zero)))))))))) = of_cell lock_kind_lem
family (suc (suc (suc (suc (suc (suc (suc (suc (suc (suc (suc k))))))))))) =
    of_none (no_kind (suc (suc (suc (suc (suc (suc (suc (suc (suc (suc (suc k))))))))))) (omega arith))
    (beyond (suc (suc (suc (suc (suc (suc (suc (suc (suc (suc (suc k))))))))))) (omega arith))

-- Between start and lock there are only those two families.
pub family_between : (k : ℕ) → position_of start_kind ≤ position_of k → position_of k ≤ position_of lock_kind → FactKind k ⊎ CellKind k
family_between k l h = by (family k)
  where
    by : Family k → FactKind k ⊎ CellKind k
    by (of_none out nothing) =
        let far = ap position_of (out (position_known k (omega (arith, order)) (omega (arith, order)))) in absurd (omega (arith, order))
    by (of_sizes is) = let first = ap position_of is in absurd (omega (arith, order))
    by (of_run is) = let first = ap position_of is in absurd (omega (arith, order))
    by (of_fact kind) = inl kind
    by (of_cell kind) = inr kind
    by (of_step is) = let last = ap position_of is in absurd (omega (arith, order))
