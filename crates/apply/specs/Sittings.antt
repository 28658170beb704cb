-- Lists in two sittings (02, request 7): "Curators accept part of a list in the morning and the rest later."
use Rattle.std.specs.Prelude.{true, cond, List, [], ◌∷◌, ◌≡◌, ℕ, eqb, ltb, length, get_or}
use Rattle.table.specs.Counting.{first_where}
use Rattle.table.specs.Order.{Ascending, is_in}

-- A number put in its place in an ascending list; one that is there already stays, once.
unfoldable pub with_number : ℕ → List ℕ → List ℕ
with_number n [] = n ∷ []
with_number n (x ∷ l) = cond (ltb n x) (n ∷ x ∷ l) (cond (eqb n x) (x ∷ l) (x ∷ with_number n l))

-- "the merged list": ascending, the numbers of both.
unfoldable pub merged : List ℕ → List ℕ → List ℕ
merged [] b = b
merged (n ∷ a) b = with_number n (merged a b)

-- They "share no number".
abbrev pub Apart : List ℕ → List ℕ → Type 0
Apart a b = (n : ℕ) → is_in a n ≡ true → is_in b n ≡ true → ⊥

-- "the first one shared": the index in the second list of its first number that is in the first list too; the second list's length where
-- there is none.
unfoldable pub first_shared : List ℕ → List ℕ → ℕ
first_shared first second = first_where (λ i. is_in first (get_or second i 0)) (length second)

-- "part of a list in the morning and the rest later": two ascending lists that share no number and are the list together.
pub record SplitInto (l morning afternoon : List ℕ) : Type 0 where
  pub morning_ascending : Ascending morning
  pub afternoon_ascending : Ascending afternoon
  pub apart : Apart morning afternoon
  pub whole : merged morning afternoon ≡ l
