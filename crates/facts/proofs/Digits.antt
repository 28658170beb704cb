-- The bits of a mask, one digit at a time: the lowest is the rest by 2, and the others are those of the half. Assumes nothing.
use mathlib.Core.Bool.{false≢true, true≢false}
use mathlib.Core.Path.{◌≡◌, refl, sym, ap, ◌∙◌}
use Prim.Native.Nat.{ℕ, zero, suc, ◌-◌, ◌/◌, ◌%◌, ◌^◌, ◌<◌, min, max}
use native.Mathlib.Nat.{not-suc-le-zero, le_of_suc-le-suc, zero-lt-suc, pow-suc, mul_comm, div-div-eq-div-mul, div-one, mod-lt}
use native.Mathlib.Omega.{arith}
use lib.Bits.{and_step, or_step, and_le_l}
use lib.Dec.{eqb}
use Rattle.facts.specs.Sets.{bit, has, joined, shared, removed}

-- ---- one digit

-- what holds of 0 and of 1 holds of every digit
pub digit : (P : ℕ → Type 0) → P 0 → P 1 → (x : ℕ) → x < 2 → P x
digit P p q zero h = p
digit P p q (suc zero) h = q
digit P p q (suc (suc x)) h = absurd (not-suc-le-zero (le_of_suc-le-suc (le_of_suc-le-suc h)))

pub digits : (P : ℕ → ℕ → Type 0) → P 0 0 → P 0 1 → P 1 0 → P 1 1 → (x y : ℕ) → x < 2 → y < 2 → P x y
digits P p q r s x y h k = digit (λ (x : ℕ). P x y) (digit (P 0) p q y k) (digit (P 1) r s y k) x h

pub digit_same : (x y : ℕ) → x < 2 → y < 2 → eqb x 1 ≡ eqb y 1 → x ≡ y
digit_same =
    digits (λ (x y : ℕ). eqb x 1 ≡ eqb y 1 → x ≡ y) (λ _. refl) (λ e. absurd (false≢true e)) (λ e. absurd (true≢false e)) (λ _. refl)

-- ---- the bits of a mask, by halving

pub bit_lt : (m f : ℕ) → bit m f < 2
bit_lt m f = mod-lt (m / 2 ^ f) (zero-lt-suc 1)

pub bit_first : (m : ℕ) → bit m 0 ≡ m % 2
bit_first m = ap (λ (x : ℕ). x % 2) (div-one m)

pub bit_half : (m f : ℕ) → bit m (suc f) ≡ bit (m / 2) f
bit_half m f =
    ap (λ (x : ℕ). x % 2) (ap (λ (x : ℕ). m / x) (pow-suc 2 f ∙ mul_comm (2 ^ f) 2) ∙ sym (div-div-eq-div-mul m 2 (2 ^ f)))

pub has_half : (m f : ℕ) → has m (suc f) ≡ has (m / 2) f
unfolding has
has_half m f = ap (λ (x : ℕ). eqb x 1) (bit_half m f)

-- an operation that halves with its masks, and is d on their lowest bits, is d on every bit
by_halves :
    (op d : ℕ → ℕ → ℕ) → ((a b : ℕ) → op a b / 2 ≡ op (a / 2) (b / 2)) → ((a b : ℕ) → op a b % 2 ≡ d (a % 2) (b % 2))
    → (a b f : ℕ) → bit (op a b) f ≡ d (bit a f) (bit b f)
by_halves op d half low a b zero = rw (bit_first (op a b), bit_first a, bit_first b) (low a b)
by_halves op d half low a b (suc f) =
    rw (bit_half (op a b) f, bit_half a f, bit_half b f, half a b) (by_halves op d half low (a / 2) (b / 2) f)

pub bit_joined : (a b f : ℕ) → bit (joined a b) f ≡ max (bit a f) (bit b f)
unfolding joined
bit_joined = by_halves joined max (λ a b. omega (arith, or_step a b)) (λ a b. omega (arith, or_step a b))

pub bit_shared : (a b f : ℕ) → bit (shared a b) f ≡ min (bit a f) (bit b f)
unfolding shared
bit_shared = by_halves shared min (λ a b. omega (arith, and_step a b)) (λ a b. omega (arith, and_step a b))

pub removed_half : (a b : ℕ) → removed a b / 2 ≡ removed (a / 2) (b / 2)
unfolding removed
removed_half a b = omega (arith, and_step a b, and_le_l (a / 2) (b / 2))

pub removed_odd : (a b : ℕ) → removed a b % 2 ≡ a % 2 - min (a % 2) (b % 2)
unfolding removed
removed_odd a b = omega (arith, and_step a b, and_le_l (a / 2) (b / 2))

pub bit_removed : (a b f : ℕ) → bit (removed a b) f ≡ bit a f - min (bit a f) (bit b f)
bit_removed = by_halves removed (λ x y. x - min x y) removed_half removed_odd
