-- A line is its word, its fields and a line feed, placed one after another; and how long it can be. Assumes nothing.
use mathlib.Core.Bool.{Bool, true, false, cond}
use mathlib.Core.List.{List, [], ◌∷◌, ◌++◌}
use mathlib.Core.Path.{◌≡◌, ap, ◌∙◌}
use Prim.Native.Nat.{ℕ, zero, suc, ◌+◌, ◌/◌, ◌%◌, ◌≤◌, zero-le}
use native.Mathlib.Omega.{arith}
use lib.Dec.{ltb}
use lib.ListN.{length, length-append}
use Rattle.text.specs.Text.{most_digits, digit_zero, digits, feed, field, each, line, line_most, end_word, set_line, repair_line, end_line, answer_lines}
use Rattle.text.proofs.EachLaws.{each_most}
use Rattle.room.specs.Placing.{Placed}
use Rattle.room.proofs.PlacingLaws.{placed_more}

pub line_length : (word numbers : List ℕ) → length (line word numbers) ≡ length word + length (each field numbers) + 1
unfolding line
line_length word numbers =
    length-append (word ++ each field numbers) (feed ∷ []) ∙
    ap (λ (n : ℕ). n + 1) (length-append word (each field numbers))

pub line_placed : {a b c d : List ℕ} {at m k next : ℕ} {word : List ℕ} (numbers : List ℕ) → Placed a b at m word
    → Placed b c m k (each field numbers) → Placed c d k next (feed ∷ []) → Placed a d at next (line word numbers)
unfolding line
line_placed numbers p q r = placed_more (placed_more p q) r

-- ---- the lines of an answer

pub answer_length : (list : List ℕ)
    → length (answer_lines list) ≡ length (set_line (length list)) + length (each repair_line list) + length (end_word ++ (feed ∷ []))
unfolding line each
answer_length list =
    length-append (set_line (length list) ++ each repair_line list) end_line ∙
    ap (λ (n : ℕ). n + length end_line) (length-append (set_line (length list)) (each repair_line list))

pub answer_placed : {a b c d : List ℕ} {at m k next : ℕ} (list : List ℕ) → Placed a b at m (set_line (length list))
    → Placed b c m k (each repair_line list) → Placed c d k next (end_word ++ (feed ∷ [])) → Placed a d at next (answer_lines list)
unfolding line each
answer_placed list p q r = placed_more (placed_more p q) r

digits_most : (most n : ℕ) → length (digits most n) ≤ most
unfolding digits
digits_most zero n = zero-le
digits_most (suc most) n = pick (ltb n 10) (digits_most most (n / 10))
  where
    pick : (b : Bool) → length (digits most (n / 10)) ≤ most
        → length (cond {A = List ℕ} b [] (digits most (n / 10)) ++ ((digit_zero + n % 10) ∷ [])) ≤ suc most
    pick true h = omega arith
    pick false h = omega (arith, length-append (digits most (n / 10)) ((digit_zero + n % 10) ∷ []))

pub line_most_lem : (word numbers : List ℕ) → length (line word numbers) ≤ line_most (length word) (length numbers)
line_most_lem word numbers =
    omega (arith, line_length word numbers, each_most field (1 + most_digits) (λ n. omega (arith, digits_most most_digits n)) numbers)
