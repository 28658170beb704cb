-- Sets of repairs of one fact. A repair of a fact is known by its code 32k + a, below 96; its number is 96f more.
use Rattle.std.specs.Prelude.{Bool, true, false, ◌&&◌, List, [], ◌∷◌, ◌≡◌, ℕ, ◌+◌, ◌*◌, ◌/◌, ◌%◌, ◌<◌, eqb}
use Rattle.facts.specs.Sets.{has}
use Rattle.table.specs.Lists.{gather, piece}
use Rattle.table.specs.Repairs.{by_kind, fact_of}
use Rattle.table.specs.Sizes.{per_fact, per_kind}
use Rattle.choices.specs.declared.Choice.{Choice}

abbrev pub code_of : ℕ → ℕ → ℕ
code_of k a = per_kind * k + a

abbrev pub code_kind : ℕ → ℕ
code_kind code = code / per_kind

abbrev pub code_action : ℕ → ℕ
code_action code = code % per_kind

abbrev pub code_number : ℕ → ℕ → ℕ
code_number f code = per_fact * f + code

abbrev pub nothing : Choice
nothing = record { deletes = 0; adds = 0; needs = 0 }

-- The repair with this code is in the set.
unfoldable pub in_choice : Choice → ℕ → Bool
in_choice s code = has (by_kind (code_kind code) s.deletes s.adds s.needs) (code_action code)

-- The set of repair numbers that a choice of fact f stands for.
unfoldable pub numbers_in : ℕ → Choice → ℕ → Bool
numbers_in f s n = eqb (fact_of n) f && in_choice s (n % per_fact)

-- The same as an ascending list.
unfoldable pub list_of : ℕ → Choice → List ℕ
list_of f s = gather (λ code. piece (in_choice s code) (code_number f code ∷ [])) per_fact

-- The set R of numbers contains the choice.
abbrev pub Contains : (ℕ → Bool) → ℕ → Choice → Type 0
Contains R f s = (code : ℕ) → code < per_fact → in_choice s code ≡ true → R (code_number f code) ≡ true

-- It has none of the choice.
abbrev pub Misses : (ℕ → Bool) → ℕ → Choice → Type 0
Misses R f s = (code : ℕ) → code < per_fact → in_choice s code ≡ true → R (code_number f code) ≡ false

-- The choices share no repair.
abbrev pub Apart : Choice → Choice → Type 0
Apart a b = (code : ℕ) → code < per_fact → in_choice a code ≡ true → in_choice b code ≡ false

-- It has one of the choice.
abbrev pub Meets : (ℕ → Bool) → ℕ → Choice → Type 0
Meets R f s = (code : ℕ) × (code < per_fact) × (in_choice s code ≡ true) × (R (code_number f code) ≡ true)

-- The choices have a repair in common.
abbrev pub Shares : Choice → Choice → Type 0
Shares a b = (code : ℕ) × (code < per_fact) × (in_choice a code ≡ true) × (in_choice b code ≡ true)
