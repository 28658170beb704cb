-- What it means that a contract determines the result of a call: document 01, "How tight the contracts are".
use Rattle.std.specs.Prelude.{◌≡◌}

-- "Two results that both satisfy it are shown equal." A result is all that a call gives: number, place, value and the final content of
-- what was lent.
abbrev pub Determined : {A : Type 0} → (A → Type 0) → Type 0
Determined {A} Allowed = (r q : A) → Allowed r → Allowed q → r ≡ q

-- The contract allows this result, and no other.
pub record Only {A : Type 0} (Allowed : A → Type 0) (r : A) : Type 0 where
  pub allowed : Allowed r
  pub others : (q : A) → Allowed q → q ≡ r

-- What is told of results tells them apart.
abbrev pub Tells : {R N : Type 0} → (R → N) → Type 0
Tells {R} told = (r q : R) → told r ≡ told q → r ≡ q
