-- Laws of `digits` as the code meets them: no digit, the last alone, and the last after the others. Assumes nothing.
use mathlib.Core.List.{List, [], ◌∷◌, ◌++◌}
use mathlib.Core.Path.{◌≡◌, refl, ap, ◌∙◌}
use Prim.Native.Nat.{ℕ, zero, suc, ◌+◌, ◌-◌, ◌/◌, ◌%◌, ◌≤◌, ◌<◌}
use native.Mathlib.Omega.{arith}
use lib.ListN.{length, length-append}
use borrow.Author.Tests.{lt-ltb, le-ltb}
use Rattle.text.specs.Text.{digit_zero, digits}
use Rattle.room.specs.Placing.{Placed}
use Rattle.room.proofs.PlacingLaws.{placed_none, placed_more}

digits_none : (n : ℕ) → digits 0 n ≡ []
unfolding digits
digits_none n = refl

pub digits_last : (most n : ℕ) → 0 < most → n < 10 → digits most n ≡ (digit_zero + n) ∷ []
unfolding digits
digits_last zero n k h = absurd (omega arith)
digits_last (suc most) n k h =
    let e : n % 10 ≡ n = omega arith in
    rw (lt-ltb n 10 h, e)

pub digits_more : (most n : ℕ) → 0 < most → 10 ≤ n
    → digits most n ≡ digits (most - 1) (n / 10) ++ ((digit_zero + n % 10) ∷ [])
unfolding digits
digits_more zero n k h = absurd (omega arith)
digits_more (suc most) n k h =
    let e : suc most - 1 ≡ most = omega arith in
    rw (le-ltb n 10 h, e)

pub more_length : (most n : ℕ) → 0 < most → 10 ≤ n → length (digits most n) ≡ length (digits (most - 1) (n / 10)) + 1
more_length most n k h =
    ap length (digits_more most n k h) ∙ length-append (digits (most - 1) (n / 10)) ((digit_zero + n % 10) ∷ [])

module _ (most n : ℕ) where
  pub none_placed : (room : List ℕ) (at : ℕ) → most ≡ 0 → Placed room room at at (digits most n)
  none_placed room at e = rw (e, digits_none n) (placed_none room at)

  module _ {a b : List ℕ} {at next d : ℕ} (some : 0 < most) where
    pub last_placed : n < 10 → d ≡ digit_zero + n → Placed a b at next (d ∷ []) → Placed a b at next (digits most n)
    last_placed h e p = rw (digits_last most n some h, ← e) p

    pub more_placed : {mid : ℕ} {m : List ℕ} → 10 ≤ n → Placed a m at mid (digits (most - 1) (n / 10)) → d ≡ digit_zero + n % 10
        → Placed m b mid next (d ∷ []) → Placed a b at next (digits most n)
    more_placed h p e q = rw (digits_more most n some h, ← e) (placed_more p q)
