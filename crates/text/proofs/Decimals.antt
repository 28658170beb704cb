-- `decimal` is right: read back, the digits are the number, and the first is no 0 but for the number 0. Assumes nothing.
use mathlib.Core.List.{List, [], ◌∷◌, ◌++◌}
use mathlib.Core.Path.{◌≡◌, refl}
use Prim.Native.Nat.{ℕ, zero, suc, ◌+◌, ◌-◌, ◌*◌, ◌/◌, ◌%◌, ◌≤◌, ◌<◌}
use native.Mathlib.Omega.{arith}
use lib.ListN.{get_or}
use Rattle.table.proofs.FlagLaws.{by_order}
use Rattle.text.specs.Text.{digit_zero, digits, decimal, most_digits}
use Rattle.text.proofs.DigitLaws.{digits_last, digits_more}

-- The number that digits stand for, after those that stand for v.
unfoldable pub read_back : ℕ → List ℕ → ℕ
read_back v [] = v
read_back v (d ∷ ds) = read_back (10 * v + (d - digit_zero)) ds

read_last : (ds : List ℕ) (v d : ℕ) → read_back v (ds ++ (d ∷ [])) ≡ 10 * read_back v ds + (d - digit_zero)
unfolding read_back
read_last [] v d = refl
read_last (x ∷ ds) v d = read_last ds (10 * v + (x - digit_zero)) d

-- The numbers that so many digits can say are those below this.
unfoldable pub reach : ℕ → ℕ
reach zero = 1
reach (suc most) = 10 * reach most

module _ (most n : ℕ) where
  value_last : n < 10 → read_back 0 (digits (suc most) n) ≡ n
  unfolding read_back
  value_last h =
      let e : 10 * 0 + (digit_zero + n - digit_zero) ≡ n = omega arith in
      rw (digits_last (suc most) n (omega arith) h) e

  value_more : 10 ≤ n → read_back 0 (digits most (n / 10)) ≡ n / 10 → read_back 0 (digits (suc most) n) ≡ n
  value_more h e =
      let s : suc most - 1 ≡ most = omega arith in
      let v : 10 * (n / 10) + (digit_zero + n % 10 - digit_zero) ≡ n = omega arith in
      rw (digits_more (suc most) n (omega arith) h, s, read_last (digits most (n / 10)) 0 (digit_zero + n % 10), e) v

  first_last : 0 < n → n < 10 → digit_zero < get_or (digits (suc most) n) 0 0
  first_last k h = rw (digits_last (suc most) n (omega arith) h) (omega arith)

  first_more : 10 ≤ n → digit_zero < get_or (digits most (n / 10)) 0 0 → digit_zero < get_or (digits (suc most) n) 0 0
  first_more h k =
      let s : suc most - 1 ≡ most = omega arith in
      rw (digits_more (suc most) n (omega arith) h, s) (head (digits most (n / 10)) k)
    where
      head : (ds : List ℕ) → digit_zero < get_or ds 0 0 → digit_zero < get_or (ds ++ ((digit_zero + n % 10) ∷ [])) 0 0
      head [] g = absurd (omega arith)
      head (d ∷ ds) g = g

pub digits_value : (most n : ℕ) → n < reach most → read_back 0 (digits most n) ≡ n
unfolding reach read_back digits
digits_value zero n h = omega arith
digits_value (suc most) n h =
    by_order n 10 (λ k. value_last most n k) (λ k. value_more most n k (digits_value most (n / 10) (omega arith)))

pub digits_first : (most n : ℕ) → n < reach most → 0 < n → digit_zero < get_or (digits most n) 0 0
unfolding reach
digits_first zero n h k = absurd (omega arith)
digits_first (suc most) n h k =
    by_order n 10 (λ l. first_last most n k l) (λ l. first_more most n l (digits_first most (n / 10) (omega arith) (omega arith)))

-- Of any number of 64 bits.
module _ (n : ℕ) (small : n < 18446744073709551616) where
  reached : n < reach most_digits
  unfolding reach
  reached = omega arith

  pub decimal_value : read_back 0 (decimal n) ≡ n
  decimal_value = digits_value most_digits n reached

  pub decimal_first : 0 < n → digit_zero < get_or (decimal n) 0 0
  decimal_first = digits_first most_digits n reached
