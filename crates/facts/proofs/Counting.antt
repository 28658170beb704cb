-- How many facts are in a mask, and which is the lowest: counts as sums of bits, trailing zeros as a place. Proved by halving. Assumes nothing.
use mathlib.Core.Bool.{true, false, cond, true≢false}
use mathlib.Core.Path.{◌≡◌, refl, sym, ap, ◌∙◌}
use Prim.Native.Nat.{ℕ, zero, suc, ◌+◌, ◌/◌, ◌%◌, ◌^◌, ◌≤◌, ◌<◌}
use native.Mathlib.Nat.{lt_of_not-le, le_of_suc-le-suc, not-suc-le-zero, zero-lt-suc, mod-lt}
use native.Mathlib.Omega.{arith}
use lib.Arith.{bin_ind}
use lib.Bits.{and_le_r}
use lib.Count.{ones, ones_step, ones-le, count_trailing_zeros, trailing_of_zero, trailing_le, under}
use lib.Dec.{eqb}
use borrow.Author.Tests.{eqb-true}
use Rattle.facts.specs.Sets.{width, bit, has, only, removed, count, lowest, sum_bits}
use Rattle.facts.proofs.Digits.{digit, bit_lt, bit_first, bit_half, has_half, removed_half, removed_odd}
use Rattle.facts.proofs.Laws.{only_in, has_above}

-- ---- the count

-- a bit is 1 where the fact is in the set, and 0 where it is not
pub bit_has : (m f : ℕ) → bit m f ≡ cond (has m f) 1 0
unfolding has
bit_has m f = digit (λ (x : ℕ). x ≡ cond (eqb x 1) 1 0) refl refl (bit m f) (bit_lt m f)

sum_bits_half : (n m : ℕ) → sum_bits (suc n) m ≡ m % 2 + sum_bits n (m / 2)
unfolding sum_bits
sum_bits_half zero m = omega (arith, bit_first m)
sum_bits_half (suc n) m = omega (arith, sum_bits_half n m, bit_half m n)

ones_sum : (n m : ℕ) → m < 2 ^ n → ones m ≡ sum_bits n m
unfolding sum_bits ones
ones_sum zero m h = let none : m ≡ 0 = omega arith in ap ones none
ones_sum (suc n) m h = omega (arith, ones_step m, ones_sum n (m / 2) (omega arith), sum_bits_half n m)

pub count_sum : (m : ℕ) → m < 2 ^ width → count m ≡ sum_bits width m
unfolding count
count_sum = ones_sum width

pub count_le : (m : ℕ) → m < 2 ^ width → count m ≤ width
unfolding count
count_le = ones-le width

pub count_empty : count 0 ≡ 0
unfolding count ones
count_empty = refl

-- a count of 0 says that the mask is empty
pub count_none : (m : ℕ) → count m ≡ 0 → m ≡ 0
unfolding count
count_none =
    bin_ind (λ (n : ℕ). ones n ≡ 0 → n ≡ 0) (λ _. refl)
    (λ n rest e. let half = rest (omega (arith, ones_step n)) in omega (arith, ones_step n))

-- ---- the lowest

has_first : (m d : ℕ) → m % 2 ≡ d → has m 0 ≡ eqb d 1
unfolding has
has_first m d e = ap (λ (x : ℕ). eqb x 1) (bit_first m ∙ e)

-- what stands below a digit: the digit is 0, and the rest stands below the next
under_even : (d t g : ℕ) → g < under d t → d ≡ 0
under_even zero t g h = refl
under_even (suc d) t g h = absurd (not-suc-le-zero h)

under_rest : (d t g : ℕ) → suc g < under d t → g < t
under_rest zero t g h = le_of_suc-le-suc h
under_rest (suc d) t g h = absurd (not-suc-le-zero h)

has_under : (m d t : ℕ) → d < 2 → m % 2 ≡ d → (d ≡ 0 → has (m / 2) t ≡ true) → has m (under d t) ≡ true
has_under m zero t h e rest = has_half m t ∙ rest refl
has_under m (suc zero) t h e rest = has_first m 1 e
has_under m (suc (suc d)) t h e rest = absurd (not-suc-le-zero (le_of_suc-le-suc (le_of_suc-le-suc h)))

trailing_first : (k m g : ℕ) → g < count_trailing_zeros k m → has m g ≡ false
unfolding count_trailing_zeros
trailing_first zero m g h = absurd (not-suc-le-zero h)
trailing_first (suc k) m zero h = has_first m 0 (under_even (m % 2) (count_trailing_zeros k (m / 2)) 0 h)
trailing_first (suc k) m (suc g) h =
    has_half m g ∙ trailing_first k (m / 2) g (under_rest (m % 2) (count_trailing_zeros k (m / 2)) g h)

trailing_has : (k m : ℕ) → 0 < m → m < 2 ^ k → has m (count_trailing_zeros k m) ≡ true
unfolding count_trailing_zeros
trailing_has zero m p h = absurd (omega arith)
trailing_has (suc k) m p h =
    has_under m (m % 2) (count_trailing_zeros k (m / 2)) (mod-lt m (zero-lt-suc 1)) refl
    (λ even. trailing_has k (m / 2) (omega arith) (omega arith))

pub lowest_has : (m : ℕ) → 0 < m → m < 2 ^ width → has m (lowest m) ≡ true
unfolding lowest
lowest_has = trailing_has width

pub lowest_first : (m g : ℕ) → g < lowest m → has m g ≡ false
unfolding lowest
lowest_first = trailing_first width

pub lowest_le : (m : ℕ) → lowest m ≤ width
unfolding lowest
lowest_le = trailing_le width

pub lowest_empty : lowest 0 ≡ width
unfolding lowest
lowest_empty = trailing_of_zero width

-- ---- one fact taken out

has_odd : (m : ℕ) → has m 0 ≡ true → m % 2 ≡ 1
unfolding has
has_odd m h = sym (bit_first m) ∙ eqb-true (bit m 0) 1 h

removed_none : (m : ℕ) → removed m 0 ≡ m
unfolding removed
removed_none m = omega (arith, and_le_r m 0)

-- the count is one less
ones_without : (f m : ℕ) → has m f ≡ true → ones m ≡ suc (ones (removed m (2 ^ f)))
ones_without zero m h =
    let odd = has_odd m h in
    let half : removed m 1 / 2 ≡ m / 2 = removed_half m 1 ∙ removed_none (m / 2) in
    let even : removed m 1 % 2 ≡ 0 = omega (arith, removed_odd m 1) in
    omega (arith, ones_step m, ones_step (removed m 1), ap ones half)
ones_without (suc f) m h =
    let even : 2 ^ suc f % 2 ≡ 0 = omega arith in
    let part : 2 ^ suc f / 2 ≡ 2 ^ f = omega arith in
    let half : removed m (2 ^ suc f) / 2 ≡ removed (m / 2) (2 ^ f) = removed_half m (2 ^ suc f) ∙ ap (removed (m / 2)) part in
    let first : removed m (2 ^ suc f) % 2 ≡ m % 2 = omega (arith, removed_odd m (2 ^ suc f)) in
    omega (arith, ones_step m, ones_step (removed m (2 ^ suc f)), ap ones half, ones_without f (m / 2) (sym (has_half m f) ∙ h))

-- and so it is without the lowest
pub count_rest : (m : ℕ) → 0 < m → m < 2 ^ width → count m ≡ suc (count (removed m (only (lowest m))))
unfolding count
count_rest m p h =
    let power = only_in (lowest m) (lt_of_not-le (λ l. true≢false (sym (lowest_has m p h) ∙ has_above m width (lowest m) h l))) in
    ones_without (lowest m) m (lowest_has m p h) ∙ ap (λ (x : ℕ). suc (ones (removed m x))) (sym power)
