-- How operations on a word of `width` digits give the sets: the shift, the mask at the edge, the complement. Cited by the functions' proofs.
-- Assumes nothing.
use mathlib.Core.Bool.{Bool, true, false}
use mathlib.Core.Path.{◌≡◌, refl, sym, ◌∙◌}
use Prim.Native.Nat.{ℕ, zero, suc, ◌+◌, ◌-◌, ◌*◌, ◌/◌, ◌%◌, ◌^◌, ◌≤◌, ◌<◌, min}
use native.Mathlib.Nat.{le_of_lt, lt_of_lt_of_le, zero-lt-suc, one-mul, min-eq_left, min-eq_right}
use native.Mathlib.Omega.{arith}
use lib.Bits.{bit_and, and_step}
use lib.Dec.{leb, ltb, leb-suc-suc}
use lib.Pow.{pow_mono, pow-lt, suc_ones, shl_exact}
use borrow.Author.Tests.{ltb-true, ltb-false, lt-ltb}
use Rattle.facts.specs.Sets.{width, only, removed, below, within}
use Rattle.facts.proofs.Digits.{removed_half, removed_odd}
use Rattle.facts.proofs.Laws.{only_in}

-- one place left by f, in a word of `width` digits
pub shifted_only : (f : ℕ) → f < width → 1 * 2 ^ f % 2 ^ width ≡ only f
shifted_only f h = shl_exact 1 f width (pow-lt (zero-lt-suc zero)) (omega arith) ∙ one-mul (2 ^ f) ∙ sym (only_in f h)

pub below_in : (n : ℕ) → n < width → below n ≡ only n - 1
unfolding below
below_in n h = rw (only_in n h, min-eq_left (le_of_lt h))

pub below_out : (n : ℕ) → width ≤ n → below n ≡ 2 ^ width - 1
unfolding below
below_out n h = rw (min-eq_right h)

pub le_below : (m n : ℕ) → m < 2 ^ width → leb m (below n) ≡ within m n
unfolding below within
le_below m n h = sym (leb-suc-suc m (below n)) ∙ at (ltb n width) refl
  where
    at : (b : Bool) → ltb n width ≡ b → leb (suc m) (suc (2 ^ min n width - 1)) ≡ ltb m (2 ^ n)
    at true e = rw (suc_ones (min n width), min-eq_left (le_of_lt (ltb-true n width e)))
    at false e =
        let more = ltb-false n width e in
        rw (suc_ones (min n width), min-eq_right more, lt-ltb m (2 ^ n) (lt_of_lt_of_le h (pow_mono more))) (lt-ltb m (2 ^ width) h)

removed_digits : (a b : ℕ) → removed (a / 2) (b / 2) * 2 + min (a % 2) (1 - b % 2) ≡ removed a b
removed_digits a b =
    let low : min (a % 2) (1 - b % 2) ≡ a % 2 - min (a % 2) (b % 2) = omega arith in
    rw (low, ← removed_odd a b, ← removed_half a b) (omega arith)

-- Halves of a number below 2 ^ suc k, and the halves and last digit of its complement.
half_below : (k a : ℕ) → a < 2 ^ suc k → a / 2 < 2 ^ k
half_below k a h = omega arith

complement_half : (k b : ℕ) → b < 2 ^ suc k → (2 ^ suc k - 1 - b) / 2 ≡ 2 ^ k - 1 - b / 2
complement_half k b l = omega arith

complement_odd : (k b : ℕ) → b < 2 ^ suc k → (2 ^ suc k - 1 - b) % 2 ≡ 1 - b % 2
complement_odd k b l = omega arith

removed_complement : (k a b : ℕ) → a < 2 ^ k → b < 2 ^ k → bit_and a (2 ^ k - 1 - b) ≡ removed a b
unfolding removed
removed_complement zero a b h l = let none : a ≡ 0 = omega arith in rw none
removed_complement (suc k) a b h l =
    let rest = removed_complement k (a / 2) (b / 2) (half_below k a h) (half_below k b l) in
    and_step a (2 ^ suc k - 1 - b) ∙ rw (complement_half k b l, complement_odd k b l, rest) (removed_digits a b)

pub removed_below : (a b : ℕ) → a < 2 ^ width → b < 2 ^ width → bit_and a (2 ^ width - 1 - b) ≡ removed a b
removed_below = removed_complement width
