-- Lists of repair numbers and their order: document 01, "The model and its run".
use Rattle.std.specs.Prelude.{Bool, false, ◌||◌, List, [], ◌∷◌, ◌⊎◌, ◌≡◌, ℕ, suc, ◌<◌, ◌≤◌, eqb, length}

infix 40 ◌≼◌
-- n is in the list.
unfoldable pub is_in : List ℕ → ℕ → Bool
is_in [] n = false
is_in (x ∷ l) n = eqb n x || is_in l n

-- "A list is strictly ascending numbers"; this one starts at low or above.
abbrev pub AscendingFrom : ℕ → List ℕ → Type 0
AscendingFrom low [] = Unit {0}
AscendingFrom low (n ∷ l) = (low ≤ n) × AscendingFrom (suc n) l

abbrev pub Ascending : List ℕ → Type 0
Ascending l = AscendingFrom 0 l

-- Two lists of equal length: equal, or "the one with the smaller number at the first difference comes first".
abbrev pub NotAfter : List ℕ → List ℕ → Type 0
NotAfter [] [] = Unit {0}
NotAfter [] (y ∷ b) = ⊥
NotAfter (x ∷ a) [] = ⊥
NotAfter (x ∷ a) (y ∷ b) = ((x < y) × (length a ≡ length b)) ⊎ ((x ≡ y) × NotAfter a b)

-- a is shorter than b, or as long and not after it.
abbrev pub ◌≼◌ : List ℕ → List ℕ → Type 0
a ≼ b = (length a < length b) ⊎ NotAfter a b
