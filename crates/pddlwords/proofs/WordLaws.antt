-- The digits of a name as the code puts them, and a word from the bytes that were placed. Assumes nothing.
use mathlib.Core.Bool.{Bool, true, false, cond}
use mathlib.Core.List.{List, [], ◌∷◌, ◌++◌}
use mathlib.Core.Path.{◌≡◌, refl, ap}
use Prim.Native.Nat.{ℕ, ◌+◌, ◌/◌, ◌%◌, ◌<◌, ◌≤◌}
use native.Mathlib.Omega.{arith}
use lib.Dec.{ltb}
use lib.ListN.{length, drop}
use lib.Seq.{take_at}
use borrow.Author.Tests.{lt-ltb, le-ltb}
use Rattle.room.specs.Placing.{Placed}
use Rattle.room.proofs.PlacingLaws.{placed_more, placed_whole}
use Rattle.table.proofs.FlagLaws.{by_order}
use Rattle.text.specs.Text.{digit_zero, digits}
use Rattle.pddl.specs.Texts.{name}
use Rattle.pddlwords.specs.Spelling.{word_room, Spells}

module _ (n : ℕ) where
  pub name_short : n < 10 → name n ≡ (digit_zero + n % 10) ∷ []
  unfolding digits
  name_short h = rw (lt-ltb n 10 h)

  pub name_long : 10 ≤ n → name n ≡ (digit_zero + n / 10 % 10) ∷ (digit_zero + n % 10) ∷ []
  unfolding digits
  name_long h = rw (le-ltb n 10 h) (pick (ltb (n / 10) 10))
    where
      pick : (b : Bool)
          → cond {A = List ℕ} b [] [] ++ ((digit_zero + n / 10 % 10) ∷ []) ++ ((digit_zero + n % 10) ∷ [])
          ≡ (digit_zero + n / 10 % 10) ∷ (digit_zero + n % 10) ∷ []
      pick true = refl
      pick false = refl

  pub name_most : length (name n) ≤ 2
  name_most =
      by_order n 10 (λ l. omega (arith, ap length (name_short l))) (λ l. omega (arith, ap length (name_long l)))

  -- The name from its digits.
  module _ {a b : List ℕ} {at next d : ℕ} (e : d ≡ digit_zero + n % 10) where
    pub short_placed : n < 10 → Placed a b at next (d ∷ []) → Placed a b at next (name n)
    short_placed h p = rw (name_short h, ← e) p

    pub long_placed : {m : List ℕ} {mid c : ℕ} → 10 ≤ n → c ≡ digit_zero + n / 10 % 10 → Placed a m at mid (c ∷ [])
        → Placed m b mid next (d ∷ []) → Placed a b at next (name n)
    long_placed h f p q = rw (name_long h, ← e, ← f) (placed_more p q)

-- The bytes that fill an array's first places are a word.
pub spelled : {before after t : List ℕ} {next : ℕ} {within : next ≤ word_room} → length before ≡ word_room → length t ≤ word_room
    → Placed before after 0 next t → Spells (record { bytes = after; len = next; within = within }) t
spelled {before} {after} {t} {next} room h p =
    let fits : length t ≤ length before = omega arith in
    let ends : length t ≡ next = omega (arith, p.next_is) in
    record {
      len_is = omega arith;
      fits = omega arith;
      text = rw (placed_whole p fits) (take_at t (drop (length t) before) next ends);
    }
