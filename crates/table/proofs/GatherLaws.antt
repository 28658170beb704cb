-- Laws of lists gathered piece by piece: the same pieces, more pieces, empty pieces, pieces by two digits, one piece more in the code's
-- `i + 1` form, and the length; and of the numbers of a range that pass a test. Assumes nothing.
use mathlib.Core.Bool.{Bool, true, false}
use mathlib.Core.List.{List, [], ◌∷◌, ◌++◌, append_assoc, append-nil}
use mathlib.Core.Logic.{◌⊎◌, inl, inr}
use mathlib.Core.Path.{◌≡◌, refl, ap, ap₂, subst}
use Prim.Native.Nat.{ℕ, zero, suc, ◌+◌, ◌*◌, ◌/◌, ◌%◌, ◌<◌, ◌≤◌}
use native.Mathlib.Decide.{le_ind}
use native.Mathlib.Nat.{add-suc, add-zero, zero-mul, suc-mul, mul_comm}
use native.Mathlib.Numerals.{add-one}
use native.Mathlib.Omega.{arith}
use lib.Arith.{digits_div, digits_mod}
use lib.ListN.{length, length-append}
use Rattle.table.specs.Lists.{gather, piece}
use Rattle.table.specs.Order.{Ascending, AscendingFrom, is_in}
use Rattle.table.proofs.FlagLaws.{by_order}
use Rattle.table.proofs.OrderLaws.{is_in_none, is_in_head, is_in_cases, is_in_left, is_in_right, is_in_either, ascending_append}

pub gather_same : (p q : ℕ → List ℕ) (n : ℕ) → ((i : ℕ) → i < n → p i ≡ q i) → gather p n ≡ gather q n
unfolding gather
gather_same p q zero same = refl
gather_same p q (suc n) same =
    ap₂ ◌++◌ (gather_same p q n (λ i l. same i (omega arith))) (same n (omega arith))

pub gather_more : (p : ℕ → List ℕ) (m n : ℕ) → gather p (m + n) ≡ gather p m ++ gather (λ i. p (m + i)) n
unfolding gather
gather_more p m zero = rw (add-zero m, append-nil (gather p m))
gather_more p m (suc n) =
    rw (add-suc m n, gather_more p m n) (append_assoc (gather p m) (gather (λ i. p (m + i)) n) (p (m + n)))

-- Nothing from m on.
pub gather_none : (p : ℕ → List ℕ) (m n : ℕ) → ((i : ℕ) → m ≤ i → i < m + n → p i ≡ []) → gather p (m + n) ≡ gather p m
unfolding gather
gather_none p m zero none = rw (add-zero m)
gather_none p m (suc n) none =
    rw (add-suc m n, none (m + n) (omega arith) (omega arith), append-nil (gather p (m + n)))
    (gather_none p m n (λ i l h. none i l (omega arith)))

-- The numbers below n * m, by quotient and remainder.
pub gather_digits : (q : ℕ → ℕ → List ℕ) (n m : ℕ) → gather (λ r. q (r / m) (r % m)) (n * m) ≡ gather (λ k. gather (q k) m) n
unfolding gather
gather_digits q zero m = rw (zero-mul m)
gather_digits q (suc n) m =
    rw (suc-mul n m, gather_more (λ r. q (r / m) (r % m)) (n * m) m, gather_digits q n m)
    (ap (λ (l : List ℕ). gather (λ k. gather (q k) m) n ++ l)
    (gather_same (λ i. q ((n * m + i) / m) ((n * m + i) % m)) (q n) m (λ i l. ap₂ q (digits_div n l) (digits_mod n l))))

pub gather_length : (p : ℕ → List ℕ) (n c : ℕ) → ((i : ℕ) → i < n → length (p i) ≤ c) → length (gather p n) ≤ n * c
unfolding gather
gather_length p zero c short = omega arith
gather_length p (suc n) c short =
    let before = gather_length p n c (λ i l. short i (omega arith)) in
    let here = short n (omega arith) in
    rw (length-append (gather p n) (p n), suc-mul n c) (omega arith)

-- One piece more; no piece, one piece, nine pieces.
pub gather_next : (p : ℕ → List ℕ) (n : ℕ) → gather p (suc n) ≡ gather p n ++ p n
unfolding gather
gather_next p n = refl

pub gather_zero : (p : ℕ → List ℕ) → gather p 0 ≡ []
unfolding gather
gather_zero p = refl

pub gather_one : (p : ℕ → List ℕ) → gather p 1 ≡ p 0
unfolding gather
gather_one p = refl

pub gather_nine : (p : ℕ → List ℕ) → gather p 9 ≡ p 0 ++ p 1 ++ p 2 ++ p 3 ++ p 4 ++ p 5 ++ p 6 ++ p 7 ++ p 8
unfolding gather
gather_nine p = refl

-- The same as the code counts.
pub gather_step : (p : ℕ → List ℕ) (i : ℕ) → gather p (i + 1) ≡ gather p i ++ p i
unfolding gather
gather_step p i = rw add-one

pub gather_step_length : (p : ℕ → List ℕ) (i : ℕ) → length (gather p (i + 1)) ≡ length (gather p i) + length (p i)
gather_step_length p i = rw (gather_step p i) (length-append (gather p i) (p i))

-- The first pieces are no longer than all of them.
pub gather_part : (p : ℕ → List ℕ) (i n : ℕ) → i ≤ n → length (gather p i) ≤ length (gather p n)
unfolding gather
gather_part p i n h =
    le_ind (λ m. length (gather p i) ≤ length (gather p m)) (omega arith)
    (λ m g e. omega (arith, length-append (gather p m) (p m), e)) n h

-- n pieces of at most k each.
pub gather_most : (p : ℕ → List ℕ) (k n : ℕ) → ((i : ℕ) → length (p i) ≤ k) → length (gather p n) ≤ k * n
gather_most p k n short = rw (mul_comm k n) (gather_length p n k (λ i l. short i))

-- ---- the numbers of a range that pass a test

-- The numbers base + i of those i below n that pass the test, in order.
unfoldable pub passing : (ℕ → Bool) → ℕ → ℕ → List ℕ
passing P base n = gather (λ i. piece (P i) ((base + i) ∷ [])) n

-- Where a number of the list comes from.
pub record Passed (P : ℕ → Bool) (base n m : ℕ) : Type 0 where
  pub index : ℕ
  pub below : index < n
  pub passes : P index ≡ true
  pub number : m ≡ base + index

module _ (P : ℕ → Bool) (base : ℕ) where
  one_in : (x m : ℕ) (b : Bool) → is_in (piece b (x ∷ [])) m ≡ true → (b ≡ true) × (m ≡ x)
  one_in x m false h = absurd (is_in_none m h)
  one_in x m true h = (refl, pick (is_in_cases x [] m h))
    where
      pick : (m ≡ x) ⊎ (is_in [] m ≡ true) → m ≡ x
      pick (inl e) = e
      pick (inr t) = absurd (is_in_none m t)

  pub passing_from : (n m : ℕ) → is_in (passing P base n) m ≡ true → Passed P base n m
  unfolding passing gather
  passing_from zero m h = absurd (is_in_none m h)
  passing_from (suc n) m h = pick (passing_from n m) (is_in_either (passing P base n) (piece (P n) ((base + n) ∷ [])) m h)
    where
      pick : (is_in (passing P base n) m ≡ true → Passed P base n m)
          → (is_in (passing P base n) m ≡ true) ⊎ (is_in (piece (P n) ((base + n) ∷ [])) m ≡ true) → Passed P base (suc n) m
      pick before (inl t) =
          let d = before t in
          record { index = d.index; below = omega (arith, d.below); passes = d.passes; number = d.number }
      pick before (inr t) =
          let d = one_in (base + n) m (P n) t in
          record { index = n; below = omega arith; passes = d.0; number = d.1 }

  pub passing_has : (n i : ℕ) → i < n → P i ≡ true → is_in (passing P base n) (base + i) ≡ true
  unfolding passing gather
  passing_has zero i h t = absurd (omega arith)
  passing_has (suc n) i h t =
      by_order i n
      (λ (low : i < n). is_in_left (passing P base n) (piece (P n) ((base + n) ∷ [])) (base + i) (passing_has n i low t))
      (λ (high : n ≤ i).
      let e : i ≡ n = omega arith in
      is_in_right (passing P base n) (piece (P n) ((base + n) ∷ [])) (base + i) (last e (subst (λ j. P j ≡ true) e t)))
    where
      last : i ≡ n → P n ≡ true → is_in (piece (P n) ((base + n) ∷ [])) (base + i) ≡ true
      last e p = rw (p, e) (is_in_head (base + n) [])

  pub passing_ascending : (n : ℕ) → Ascending (passing P base n)
  unfolding passing gather
  passing_ascending zero = tt
  passing_ascending (suc n) =
      ascending_append 0 (base + n) (passing P base n) (piece (P n) ((base + n) ∷ [])) (passing_ascending n)
      (λ m h. let d = passing_from n m h in omega (arith, d.below, d.number)) (omega arith) (one (P n))
    where
      one : (b : Bool) → AscendingFrom (base + n) (piece b ((base + n) ∷ []))
      one true = (omega arith, tt)
      one false = tt
