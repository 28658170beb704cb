-- Laws of refusal 15: where the first wrong number of a list is, and that a list with none is a permitted list, and back. Assumes nothing.
use mathlib.Core.Bool.{Bool, true, false, not, ◌&&◌, ◌||◌}
use mathlib.Core.List.{List}
use mathlib.Core.Path.{◌≡◌, sym, ap, ◌∙◌, subst}
use Prim.Native.Nat.{ℕ, zero, suc, ◌-◌, ◌<◌, ◌≤◌}
use native.Mathlib.Omega.{arith}
use lib.Dec.{ltb, leb}
use Rattle.std.specs.Prelude.{Option, Some, None, MatchOption}
use lib.ListN.{length, get_or}
use borrow.Author.Tests.{lt-ltb, leb-false, lt-leb, not-false}
use Rattle.table.proofs.CountingLaws.{first_where_found, first_where_none, first_where_at}
use Rattle.table.proofs.FlagLaws.{or_neither}
use Rattle.table.specs.Answer.{Permitted}
use Rattle.table.specs.Refusals.{none}
use Rattle.table.specs.Repairs.{permitted}
use Rattle.table.specs.Strips.{Cells}
use Rattle.apply.specs.Applying.{wrong_at, first_wrong}
use Rattle.change.proofs.MemberLaws.{get_or_is_in, is_in_all, steps_ascending, ascending_steps}

-- ---- the first wrong number, as it is searched for

pub first_wrong_searched : (c : Cells) (l : List ℕ) (r : Option ℕ)
    → MatchOption r ((k : ℕ) → 0 ≤ k → k < length l → wrong_at c l k ≡ false)
    (λ i. (0 ≤ i) × (i < length l) × (wrong_at c l i ≡ true) × ((k : ℕ) → 0 ≤ k → k < i → wrong_at c l k ≡ false))
    → MatchOption r (first_wrong c l ≡ length l) (λ i. (i < length l) × (i ≡ first_wrong c l))
unfolding first_wrong
first_wrong_searched c l None none = first_where_none (wrong_at c l) (length l) (λ j m. none j (omega arith) m)
first_wrong_searched c l (Some i) h = (h.1, sym (first_where_found (wrong_at c l) (length l) i h.1 h.2 (λ k. h.3 k (omega arith))))

pub first_wrong_le : (c : Cells) (l : List ℕ) → first_wrong c l ≤ length l
unfolding first_wrong
first_wrong_le c l = (first_where_at (wrong_at c l) (length l)).inside

-- ---- no wrong number, a permitted list

neither : (x : Bool) {y z : Bool} → y ≡ false → z ≡ true → (x && y || not z) ≡ false
neither true e d = rw (e, d)
neither false e d = rw d

module _ (c : Cells) (l : List ℕ) where
  none_wrong : first_wrong c l ≡ length l → (i : ℕ) → i < length l → wrong_at c l i ≡ false
  unfolding first_wrong
  none_wrong h i m = (first_where_at (wrong_at c l) (length l)).before i (omega arith)

  -- the two parts of a number that is not wrong
  right_permitted : (i : ℕ) → wrong_at c l i ≡ false → permitted c (get_or l i 0) ≡ true
  unfolding wrong_at
  right_permitted i h = not-false (permitted c (get_or l i 0)) (or_neither (ltb 0 i && leb (get_or l i 0) (get_or l (i - 1) 0)) (not (permitted c (get_or l i 0))) h).1

  right_above : (i : ℕ) → wrong_at c l (suc i) ≡ false → get_or l i 0 < get_or l (suc i) 0
  unfolding wrong_at
  right_above i h =
      let e : suc i - 1 ≡ i = omega arith in
      let low = (or_neither (ltb 0 (suc i) && leb (get_or l (suc i) 0) (get_or l (suc i - 1) 0)) (not (permitted c (get_or l (suc i) 0))) h).0 in
      let at : leb (get_or l (suc i) 0) (get_or l (suc i - 1) 0) ≡ false =
      sym (ap (λ (b : Bool). b && leb (get_or l (suc i) 0) (get_or l (suc i - 1) 0)) (lt-ltb 0 (suc i) (omega arith))) ∙ low in
      leb-false (get_or l (suc i) 0) (get_or l i 0) (subst (λ (j : ℕ). leb (get_or l (suc i) 0) (get_or l j 0) ≡ false) e at)

  pub permitted_list : first_wrong c l ≡ length l → Permitted c l
  permitted_list h = record {
    ascending = steps_ascending 0 l (λ _. omega arith) (λ i m. right_above i (none_wrong h (suc i) m));
    each = is_in_all (λ n. permitted c n ≡ true) l (λ i m. right_permitted i (none_wrong h i m));
  }

  pub permitted_right : Permitted c l → (i : ℕ) → i < length l → wrong_at c l i ≡ false
  unfolding wrong_at
  permitted_right p zero h = ap not (p.each (get_or l 0 0) (get_or_is_in l 0 h))
  permitted_right p (suc i) h =
      let e : i ≡ suc i - 1 = omega arith in
      let above : get_or l (suc i - 1) 0 < get_or l (suc i) 0 =
      subst (λ (j : ℕ). get_or l j 0 < get_or l (suc i) 0) e (ascending_steps 0 l p.ascending i h) in
      neither (ltb 0 (suc i)) (lt-leb (get_or l (suc i) 0) (get_or l (suc i - 1) 0) above) (p.each (get_or l (suc i) 0) (get_or_is_in l (suc i) h))

  pub list_permitted : Permitted c l → first_wrong c l ≡ length l
  unfolding first_wrong
  list_permitted p = first_where_none (wrong_at c l) (length l) (permitted_right p)
