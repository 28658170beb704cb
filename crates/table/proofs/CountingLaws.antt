-- Laws of specs/Counting: sums, counts, the first place where a test holds, tests that every or some number passes; and that a mask's count and its lowest fact are such a
-- count and such a place. Assumes nothing.
use mathlib.Core.Bool.{Bool, true, false, ◌&&◌, ◌||◌, cond, false≢true, true≢false}
use mathlib.Core.Logic.{⊎_elim}
use mathlib.Core.Path.{◌≡◌, refl, sym, ap, ◌∙◌, subst}
use Prim.Native.Nat.{ℕ, zero, suc, ◌+◌, ◌*◌, ◌^◌, ◌<◌, ◌≤◌, zero-le}
use native.Mathlib.Nat.{le_refl, le_of_lt, lt_of_lt_of_le, suc-mul}
use native.Mathlib.Numerals.{add-one}
use native.Mathlib.Omega.{arith}
use lib.Arith.{lt_of_le-ne}
use lib.Dec.{eqb, ltb}
use lib.Pow.{pow_mono}
use borrow.Author.Tests.{eqb-true, eqb-false, ltb-false, lt-ltb, le-ltb}
use Rattle.facts.specs.Sets.{width, has, count, lowest, sum_bits}
use Rattle.facts.proofs.Counting.{bit_has, count_sum, lowest_has, lowest_first}
use Rattle.facts.proofs.Laws.{has_above, within_below, lt_within}
use Rattle.table.specs.Counting.{every_below, every_from, some_below, sum_below, count_below, first_where}
use Rattle.table.proofs.FlagLaws.{or_cases, or_left, or_right, or_other, or_neither, both, and_both, and_swap, cond_by, by_order, same_flag}

-- ---- one number more

-- What holds of each number below n, and of n, holds of each below the next.
pub below_next : (P : ℕ → Type 0) (n : ℕ) → ((i : ℕ) → i < n → P i) → P n → (i : ℕ) → i < suc n → P i
below_next P n before last i h = by_order i n (before i) (λ (l : n ≤ i). let e : n ≡ i = omega arith in subst P e last)

-- What a loop has at its end is what the bound makes it.
pub at_end : {A : Type 0} (g : ℕ → A) (i n : ℕ) {x : A} → i ≤ n → n ≤ i → x ≡ g i → x ≡ g n
at_end g i n l m e = let same : i ≡ n = omega arith in e ∙ ap g same

-- ---- sums

-- one number more, in the code's form
pub sum_below_next : (g : ℕ → ℕ) (n : ℕ) → sum_below g (n + 1) ≡ sum_below g n + g n
unfolding sum_below
sum_below_next g n = rw (add-one n)

pub sum_below_same : (g h : ℕ → ℕ) (n : ℕ) → ((i : ℕ) → i < n → g i ≡ h i) → sum_below g n ≡ sum_below h n
unfolding sum_below
sum_below_same g h zero same = refl
sum_below_same g h (suc n) same = omega (arith, sum_below_same g h n (λ i l. same i (omega arith)), same n (omega arith))

pub sum_below_zero : (g : ℕ → ℕ) (n : ℕ) → sum_below g n ≡ 0 → (i : ℕ) → i < n → g i ≡ 0
unfolding sum_below
sum_below_zero g zero e i h = absurd (omega arith)
sum_below_zero g (suc n) e i h = below_next (λ j. g j ≡ 0) n (sum_below_zero g n (omega arith)) (omega arith) i h

pub zero_sum_below : (g : ℕ → ℕ) (n : ℕ) → ((i : ℕ) → i < n → g i ≡ 0) → sum_below g n ≡ 0
unfolding sum_below
zero_sum_below g zero none = refl
zero_sum_below g (suc n) none = omega (arith, zero_sum_below g n (λ i l. none i (omega arith)), none n (omega arith))

pub sum_below_le : (g : ℕ → ℕ) (n k : ℕ) → ((i : ℕ) → i < n → g i ≤ k) → sum_below g n ≤ n * k
unfolding sum_below
sum_below_le g zero k most = omega arith
sum_below_le g (suc n) k most = omega (arith, suc-mul n k, sum_below_le g n k (λ i l. most i (omega arith)), most n (omega arith))

-- what is 0 from n on adds nothing
pub sum_below_rest : (g : ℕ → ℕ) (n m : ℕ) → n ≤ m → ((i : ℕ) → n ≤ i → g i ≡ 0) → sum_below g m ≡ sum_below g n
unfolding sum_below
sum_below_rest g n zero h none = let e : 0 ≡ n = omega arith in ap (sum_below g) e
sum_below_rest g n (suc m) h none =
    by_order m n (λ l. let e : suc m ≡ n = omega arith in ap (sum_below g) e)
    (λ l. omega (arith, sum_below_rest g n m l none, none m l))

-- ---- counts

-- what one test adds to a count
abbrev one : Bool → ℕ
one b = cond b 1 0

one_zero : (b : Bool) → one b ≡ 0 → b ≡ false
one_zero true e = absurd (omega arith)
one_zero false e = refl

one_le : (b : Bool) → one b ≤ 1
one_le true = omega arith
one_le false = omega arith

pub count_below_same : (p q : ℕ → Bool) (n : ℕ) → ((i : ℕ) → i < n → p i ≡ q i) → count_below p n ≡ count_below q n
unfolding count_below
count_below_same p q n same = sum_below_same (λ i. one (p i)) (λ i. one (q i)) n (λ i h. ap one (same i h))

pub count_below_zero : (p : ℕ → Bool) (n : ℕ) → count_below p n ≡ 0 → (i : ℕ) → i < n → p i ≡ false
unfolding count_below
count_below_zero p n e i h = one_zero (p i) (sum_below_zero (λ i. one (p i)) n e i h)

pub zero_count_below : (p : ℕ → Bool) (n : ℕ) → ((i : ℕ) → i < n → p i ≡ false) → count_below p n ≡ 0
unfolding count_below
zero_count_below p n none = zero_sum_below (λ i. one (p i)) n (λ i h. ap one (none i h))

pub count_below_le : (p : ℕ → Bool) (n : ℕ) → count_below p n ≤ n
unfolding count_below
count_below_le p n = omega (arith, sum_below_le (λ i. one (p i)) n 1 (λ i h. one_le (p i)))

-- ---- the first place

-- k is the first number below n that passes the test, or n where there is none.
pub record FirstAt (p : ℕ → Bool) (n k : ℕ) : Type 0 where
  pub inside : k ≤ n
  pub before : (i : ℕ) → i < k → p i ≡ false
  pub holds : k < n → p k ≡ true

first_at_more : (p : ℕ → Bool) (n k : ℕ) → FirstAt p n k → FirstAt p (suc n) (cond (eqb k n) (cond (p n) n (suc n)) k)
first_at_more p n k at =
    cond_by (FirstAt p (suc n)) (eqb k n)
    (λ e.
    let none : (i : ℕ) → i < n → p i ≡ false = λ i l. at.before i (omega (arith, eqb-true k n e)) in
    cond_by (FirstAt p (suc n)) (p n) (λ f. record { inside = omega arith; before = none; holds = λ h. f })
    (λ f. record { inside = le_refl (suc n); before = below_next (λ i. p i ≡ false) n none f; holds = λ h. absurd (omega arith) }))
    (λ e.
    let less : k < n = lt_of_le-ne at.inside (eqb-false k n e) in
    record { inside = omega arith; before = at.before; holds = λ h. at.holds less })

pub first_where_at : (p : ℕ → Bool) (n : ℕ) → FirstAt p n (first_where p n)
unfolding first_where
first_where_at p zero = record {
  inside = le_refl 0;
  before = λ i h. absurd (omega arith);
  holds = λ h. absurd (omega arith);
}
first_where_at p (suc n) = first_at_more p n (first_where p n) (first_where_at p n)

first_at_not_before : (p : ℕ → Bool) (n j k : ℕ) → FirstAt p n j → FirstAt p n k → j < k → ⊥
first_at_not_before p n j k a b h = true≢false (sym (a.holds (lt_of_lt_of_le h b.inside)) ∙ b.before j h)

-- the characterization back
pub first_where_is : (p : ℕ → Bool) (n k : ℕ) → FirstAt p n k → first_where p n ≡ k
first_where_is p n k at =
    by_order (first_where p n) k (λ l. absurd (first_at_not_before p n (first_where p n) k (first_where_at p n) at l))
    (λ l. by_order k (first_where p n) (λ m. absurd (first_at_not_before p n k (first_where p n) at (first_where_at p n) m))
    (λ m. omega arith))

-- the first that passes; and n where none does
pub first_where_found : (p : ℕ → Bool) (n k : ℕ) → k < n → p k ≡ true → ((i : ℕ) → i < k → p i ≡ false) → first_where p n ≡ k
first_where_found p n k h e none = first_where_is p n k (record { inside = le_of_lt h; before = none; holds = λ _. e })

pub first_where_none : (p : ℕ → Bool) (n : ℕ) → ((i : ℕ) → i < n → p i ≡ false) → first_where p n ≡ n
first_where_none p n none =
    first_where_is p n n (record { inside = le_refl n; before = none; holds = λ h. absurd (omega arith) })

pub first_where_same : (p q : ℕ → Bool) (n : ℕ) → ((i : ℕ) → i < n → p i ≡ q i) → first_where p n ≡ first_where q n
first_where_same p q n same =
    first_where_is p n (first_where q n)
    (record {
      inside = (first_where_at q n).inside;
      before = λ i h. same i (lt_of_lt_of_le h (first_where_at q n).inside) ∙ (first_where_at q n).before i h;
      holds = λ h. same (first_where q n) h ∙ (first_where_at q n).holds h;
    })

-- one number more, in the code's form
pub first_where_next : (p : ℕ → Bool) (i : ℕ) → first_where p (i + 1) ≡ cond (eqb (first_where p i) i) (cond (p i) i (i + 1)) (first_where p i)
unfolding first_where
first_where_next p i = rw (add-one i)

pub first_where_zero : (p : ℕ → Bool) → 0 ≡ first_where p 0
unfolding first_where
first_where_zero p = refl

-- what was found stays found
pub first_where_stays : (p : ℕ → Bool) (n : ℕ) → first_where p n < n → first_where p (n + 1) ≡ first_where p n
first_where_stays p n h =
    first_where_found p (n + 1) (first_where p n) (omega arith) ((first_where_at p n).holds h) (first_where_at p n).before

-- a sum above 0 has a part above 0, and the first such is found
pub sum_below_some : (g : ℕ → ℕ) (n : ℕ) → 0 < sum_below g n → first_where (λ i. ltb 0 (g i)) n < n
sum_below_some g n h =
    by_order (first_where (λ i. ltb 0 (g i)) n) n (λ l. l) (λ l.
    let none : (i : ℕ) → i < n → g i ≡ 0 =
    λ i k. omega (arith, ltb-false 0 (g i) ((first_where_at (λ i. ltb 0 (g i)) n).before i (lt_of_lt_of_le k l))) in
    absurd (omega (arith, zero_sum_below g n none)))

-- ---- masks

bits_count_below : (m n : ℕ) → count_below (has m) n ≡ sum_bits n m
unfolding count_below sum_below sum_bits
bits_count_below m zero = refl
bits_count_below m (suc n) = omega (arith, bits_count_below m n, bit_has m n)

-- the facts of a mask, counted one by one
pub count_below_mask : (m n : ℕ) → n ≤ width → m < 2 ^ n → count_below (has m) n ≡ count m
unfolding count_below
count_below_mask m n h l =
    sym (sum_below_rest (λ i. one (has m i)) n width h (λ i k. ap one (has_above m n i l k))) ∙
    bits_count_below m width ∙ sym (count_sum m (lt_of_lt_of_le l (pow_mono h)))

-- the lowest fact of a mask that has one
pub first_where_mask : (m n : ℕ) → n ≤ width → 0 < m → m < 2 ^ n → first_where (has m) n ≡ lowest m
first_where_mask m n h some l =
    let at = lowest_has m some (lt_of_lt_of_le l (pow_mono h)) in
    first_where_found (has m) n (lowest m) (within_below m n (lowest m) (lt_within m n l) at) at (lowest_first m)

-- ---- tests that every number below n passes

pub every_below_next : (p : ℕ → Bool) (i : ℕ) → every_below p (i + 1) ≡ (every_below p i && p i)
unfolding every_below
every_below_next p i = rw add-one

-- a loop that joins its tests: at its start and after a turn
pub every_below_none : (p : ℕ → Bool) → true ≡ every_below p 0
unfolding every_below
every_below_none p = refl

pub every_below_more : (p : ℕ → Bool) (i : ℕ) {good next : Bool} → good ≡ every_below p i → next ≡ p i → (good && next) ≡ every_below p (i + 1)
every_below_more p i g n = rw (g, n, every_below_next p i)

pub every_below_all : (p : ℕ → Bool) (n : ℕ) → every_below p n ≡ true → (i : ℕ) → i < n → p i ≡ true
unfolding every_below
every_below_all p zero h i l = absurd (omega arith)
every_below_all p (suc n) h i l =
    let two = both (every_below p n) (p n) h in
    below_next (λ j. p j ≡ true) n (every_below_all p n two.0) two.1 i l

pub all_every_below : (p : ℕ → Bool) (n : ℕ) → ((i : ℕ) → i < n → p i ≡ true) → every_below p n ≡ true
unfolding every_below
all_every_below p zero h = refl
all_every_below p (suc n) h = and_both _ _ (all_every_below p n (λ i l. h i (omega arith))) (h n (omega arith))

-- ---- tests that every number from a place on passes, in the same steps

pub every_from_none : (p : ℕ → Bool) (from : ℕ) → true ≡ every_from p from from
unfolding every_from
every_from_none p from = sym (all_every_below (λ i. ltb i from || p i) from (λ i l. or_left (ltb i from) (p i) (lt-ltb i from l)))

pub every_from_more : (p : ℕ → Bool) (from i : ℕ) {good next : Bool} → from ≤ i → good ≡ every_from p from i → next ≡ p i → (good && next) ≡ every_from p from (i + 1)
unfolding every_from
every_from_more p from i l g n = every_below_more (λ i. ltb i from || p i) i g (rw (le-ltb i from l) n)

-- a test that all pass, and one from a place on, are one test of each
pub every_from_both : (p q r : ℕ → Bool) (from n : ℕ) → ((i : ℕ) → (p i && (ltb i from || q i)) ≡ r i)
    → (every_from p 0 n && every_from q from n) ≡ every_below r n
unfolding every_from every_below
every_from_both p q r from zero same = refl
every_from_both p q r from (suc n) same =
    let here : ((ltb n 0 || p n) && (ltb n from || q n)) ≡ r n = rw (le-ltb n 0 zero-le) (same n) in
    and_swap (every_below (λ i. ltb i 0 || p i) n) (ltb n 0 || p n) (every_below (λ i. ltb i from || q i) n) (ltb n from || q n) ∙
    (λ j. every_from_both p q r from n same j && here j)

every_from_all : (p : ℕ → Bool) (from n : ℕ) → every_from p from n ≡ true → (i : ℕ) → from ≤ i → i < n → p i ≡ true
unfolding every_from
every_from_all p from n h i low l = or_other (every_below_all (λ i. ltb i from || p i) n h i l) (le-ltb i from low)

all_every_from : (p : ℕ → Bool) (from n : ℕ) → ((i : ℕ) → from ≤ i → i < n → p i ≡ true) → every_from p from n ≡ true
unfolding every_from
all_every_from p from n h =
    all_every_below (λ i. ltb i from || p i) n
    (λ i l. by_order i from (λ k. or_left (ltb i from) (p i) (lt-ltb i from k)) (λ k. or_right (ltb i from) (p i) (h i k l)))

pub every_from_same : (p q : ℕ → Bool) (from n : ℕ) → ((i : ℕ) → from ≤ i → i < n → p i ≡ q i) → every_from p from n ≡ every_from q from n
every_from_same p q from n same =
    same_flag (every_from p from n) (every_from q from n)
    (λ h. all_every_from q from n (λ i low l. sym (same i low l) ∙ every_from_all p from n h i low l))
    (λ h. all_every_from p from n (λ i low l. same i low l ∙ every_from_all q from n h i low l))

-- two parts that follow one another, and the numbers from a place on with those before it
pub every_from_parts : (p : ℕ → Bool) (from k n : ℕ) → from ≤ k → k ≤ n → (every_from p from k && every_from p k n) ≡ every_from p from n
every_from_parts p from k n l m =
    same_flag (every_from p from k && every_from p k n) (every_from p from n)
    (λ h.
    let parts = both (every_from p from k) (every_from p k n) h in
    all_every_from p from n (λ i low less.
    by_order i k (λ before. every_from_all p from k parts.0 i low before) (λ after. every_from_all p k n parts.1 i after less)))
    (λ h. and_both _ _ (all_every_from p from k (λ i low less. every_from_all p from n h i low (omega arith)))
    (all_every_from p k n (λ i low less. every_from_all p from n h i (omega arith) less)))

pub every_below_parts : (p : ℕ → Bool) (k n : ℕ) → k ≤ n → (every_below p k && every_from p k n) ≡ every_below p n
every_below_parts p k n l =
    same_flag (every_below p k && every_from p k n) (every_below p n)
    (λ h.
    let parts = both (every_below p k) (every_from p k n) h in
    all_every_below p n (λ i less.
    by_order i k (λ before. every_below_all p k parts.0 i before) (λ after. every_from_all p k n parts.1 i after less)))
    (λ h. and_both _ _ (all_every_below p k (λ i less. every_below_all p n h i (omega arith)))
    (all_every_from p k n (λ i low less. every_below_all p n h i less)))

-- ---- tests that some number below n passes, or none

pub some_below_first : (p : ℕ → Bool) → some_below p 0 ≡ false
unfolding some_below
some_below_first p = refl

pub some_below_next : (p : ℕ → Bool) (i : ℕ) → some_below p (i + 1) ≡ (some_below p i || p i)
unfolding some_below
some_below_next p i = rw add-one

pub some_passes : (p : ℕ → Bool) (n : ℕ) → some_below p n ≡ true → (i : ℕ) × (i < n) × (p i ≡ true)
unfolding some_below
some_passes p zero h = absurd (false≢true h)
some_passes p (suc n) h =
    ⊎_elim (λ e. let q = some_passes p n e in (q.0, omega (arith, q.1), q.2)) (λ e. (n, omega arith, e)) (or_cases (some_below p n) (p n) h)

pub none_passes : (p : ℕ → Bool) (n : ℕ) → some_below p n ≡ false → (i : ℕ) → i < n → p i ≡ false
unfolding some_below
none_passes p zero h i l = absurd (omega arith)
none_passes p (suc n) h i l =
    let t = or_neither (some_below p n) (p n) h in
    below_next (λ j. p j ≡ false) n (none_passes p n t.0) t.1 i l
