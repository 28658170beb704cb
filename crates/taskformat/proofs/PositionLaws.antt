-- The order of a file (specs/Format: `file_order`): each kind has its own position, and along the file the positions ascend. Assumes nothing.
use mathlib.Core.Bool.{true, ◌||◌, false≢true}
use mathlib.Core.List.{List, ◌++◌}
use mathlib.Core.Logic.{⊎_elim}
use mathlib.Core.Path.{◌≡◌, refl, sym, ap, ◌∙◌}
use Prim.Native.Nat.{ℕ, zero, suc, ◌<◌, ◌≤◌}
use native.Mathlib.Omega.{arith}
use lib.Dec.{eqb, leb}
use lib.ListN.{get_or-eq_default}
use borrow.Author.Tests.{ne_eqb, eqb-true, leb-true}
use Rattle.table.proofs.CountingLaws.{every_below_all}
use Rattle.table.proofs.FlagLaws.{both, or_cases, by_order}
use Rattle.table.proofs.GatherLaws.{gather_next, gather_nine}
use Rattle.table.specs.Counting.{every_below}
use Rattle.table.specs.Lists.{gather}
use Rattle.taskformat.specs.Format.{no_kind, sizes_kind, run_kind, start_kind, goal_kind, need_kind, add_kind, delete_kind, lock_kind, step_kind, end_kind, is_kind, file_order, first_place, position_of, kind_in}

pub within_kinds : (k : ℕ) → is_kind k ≡ true → (sizes_kind ≤ k) × (k ≤ lock_kind)
unfolding is_kind
within_kinds k e = let tests = both (leb sizes_kind k) (leb k lock_kind) e in (leb-true sizes_kind k tests.0, leb-true k lock_kind tests.1)

-- How many positions there are before the end, as a numeral.
abbrev pub positions : ℕ
positions = 10

-- The positions ascend.
pub record Order : Type 0 where
  pub sizes : position_of no_kind < position_of sizes_kind
  pub run : position_of sizes_kind < position_of run_kind
  pub start : position_of run_kind < position_of start_kind
  pub goal : position_of start_kind < position_of goal_kind
  pub need : position_of goal_kind < position_of need_kind
  pub add : position_of need_kind < position_of add_kind
  pub delete : position_of add_kind < position_of delete_kind
  pub lock : position_of delete_kind < position_of lock_kind
  pub step : position_of lock_kind < position_of step_kind
  pub end : position_of step_kind < position_of end_kind
  pub all : position_of end_kind ≡ positions

pub order : Order
unfolding position_of first_place file_order
order = omega arith

-- A number that is no kind comes after all kinds.
no_position : (k : ℕ) → lock_kind < k → position_of k ≡ suc (position_of end_kind)
unfolding position_of first_place file_order
no_position k l =
    rw (
      ne_eqb k no_kind (omega arith),
      ne_eqb k sizes_kind (omega arith),
      ne_eqb k run_kind (omega arith),
      ne_eqb k start_kind (omega arith),
      ne_eqb k goal_kind (omega arith),
      ne_eqb k need_kind (omega arith),
      ne_eqb k add_kind (omega arith),
      ne_eqb k delete_kind (omega arith),
      ne_eqb k lock_kind (omega arith),
      ne_eqb k step_kind (omega arith),
      ne_eqb k end_kind (omega arith),
    )

-- A number with a position from the sizes to the end is a kind.
pub position_known : (k : ℕ) → position_of no_kind < position_of k → position_of k ≤ position_of end_kind → is_kind k ≡ true
unfolding every_below position_of first_place file_order is_kind
position_known k l h =
    by_order k 11
    (λ low. ⊎_elim (λ none. absurd (omega (arith, leb-true (position_of k) (position_of no_kind) none))) (λ known. known)
    (or_cases (leb (position_of k) (position_of no_kind)) (is_kind k)
    (every_below_all (λ k. leb (position_of k) (position_of no_kind) || is_kind k) 11 refl k low)))
    (λ high. absurd (omega (arith, no_position k high)))

-- Two positions, two kinds.
pub apart : (j k : ℕ) → position_of j < position_of k → k ≡ j → ⊥
apart j k l e = let same = ap position_of e in omega arith

-- The kind of a position, and the position of a kind.
pub kind_position : (k : ℕ) → is_kind k ≡ true → kind_in (position_of k) ≡ k
unfolding every_below position_of first_place file_order kind_in
kind_position k e =
    eqb-true (kind_in (position_of k)) k (every_below_all (λ k. eqb (kind_in (position_of k)) k) 11 refl k (omega (arith, within_kinds k e)))

pub position_kind : (p : ℕ) → is_kind (kind_in p) ≡ true → position_of (kind_in p) ≡ p
unfolding every_below is_kind position_of first_place file_order kind_in
position_kind p e =
    by_order p 11
    (λ low. eqb-true (position_of (kind_in p)) p (every_below_all (λ p. eqb (position_of (kind_in p)) p) 11 refl p low))
    (λ high. absurd (false≢true (sym (ap is_kind (get_or-eq_default file_order no_kind high)) ∙ e)))

-- Two kinds with the same position are one kind.
pub one_kind : (j k : ℕ) → is_kind j ≡ true → is_kind k ≡ true → position_of j ≡ position_of k → j ≡ k
one_kind j k known also same = sym (kind_position j known) ∙ ap kind_in same ∙ kind_position k also

-- Before the sizes there is no kind, and up to the end the kinds are those of the file, in its order.
pub none_first : (p : ℕ) → p < position_of sizes_kind → kind_in p ≡ no_kind
unfolding position_of first_place file_order kind_in
none_first zero l = refl
none_first (suc p) l = absurd (omega arith)

pub in_order : (q : ℕ → List ℕ) → gather (λ p. q (kind_in p)) positions ≡
    q no_kind ++ q sizes_kind ++ q run_kind ++ q start_kind ++ q goal_kind ++ q need_kind ++ q add_kind ++ q delete_kind ++ q lock_kind ++ q step_kind
unfolding file_order kind_in
in_order q = gather_next (λ p. q (kind_in p)) 9 ∙ ap (λ (l : List ℕ). l ++ q step_kind) (gather_nine (λ p. q (kind_in p)))
