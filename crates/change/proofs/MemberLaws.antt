-- Laws of lists by index: what is in a list stands at an index, and a list ascends if each number is below the next. Assumes nothing.
use mathlib.Core.Bool.{true}
use mathlib.Core.List.{List, [], ◌∷◌}
use mathlib.Core.Logic.{⊎_elim}
use mathlib.Core.Path.{◌≡◌, sym, subst}
use Prim.Native.Nat.{ℕ, zero, suc, ◌<◌, ◌≤◌}
use native.Mathlib.Omega.{arith}
use lib.ListN.{length, get_or}
use Rattle.table.proofs.OrderLaws.{is_in_none, is_in_head, is_in_tail, is_in_cases}
use Rattle.table.specs.Order.{AscendingFrom, is_in}

pub get_or_is_in : (l : List ℕ) (i : ℕ) → i < length l → is_in l (get_or l i 0) ≡ true
get_or_is_in [] i h = absurd (omega arith)
get_or_is_in (x ∷ l) zero h = is_in_head x l
get_or_is_in (x ∷ l) (suc i) h = is_in_tail x l (get_or l i 0) (get_or_is_in l i (omega arith))

pub is_in_all : (P : ℕ → Type 0) (l : List ℕ) → ((i : ℕ) → i < length l → P (get_or l i 0)) → (n : ℕ) → is_in l n ≡ true → P n
is_in_all P [] each n h = absurd (is_in_none n h)
is_in_all P (x ∷ l) each n h =
    ⊎_elim (λ e. subst P (sym e) (each 0 (omega arith))) (is_in_all P l (λ i m. each (suc i) (omega arith)) n) (is_in_cases x l n h)

-- a list ascends if its first number is not too low and each is below the next, and back
pub steps_ascending : (low : ℕ) (l : List ℕ) → (0 < length l → low ≤ get_or l 0 0)
    → ((i : ℕ) → suc i < length l → get_or l i 0 < get_or l (suc i) 0) → AscendingFrom low l
steps_ascending low [] first steps = tt
steps_ascending low (x ∷ l) first steps =
    (first (omega arith), steps_ascending (suc x) l (λ h. steps 0 (omega arith)) (λ i h. steps (suc i) (omega arith)))

pub ascending_steps : (low : ℕ) (l : List ℕ) → AscendingFrom low l → (i : ℕ) → suc i < length l → get_or l i 0 < get_or l (suc i) 0
ascending_steps low [] u i h = absurd (omega arith)
ascending_steps low (x ∷ []) u i h = absurd (omega arith)
ascending_steps low (x ∷ y ∷ l) u zero h = u.1.0
ascending_steps low (x ∷ y ∷ l) u (suc i) h = ascending_steps (suc x) (y ∷ l) u.1 i (omega arith)
