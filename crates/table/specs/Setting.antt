-- One fact of a set, or of one action's set, made present or absent.
use Rattle.std.specs.Prelude.{Bool, cond, List, ℕ, get_or, set}
use Rattle.facts.specs.Sets.{joined, removed, only}

-- The set with fact f present or absent.
abbrev pub set_fact : ℕ → ℕ → Bool → ℕ
set_fact m f present = cond present (joined m (only f)) (removed m (only f))

-- The same in the set of action or run a of a row of sets.
abbrev pub set_in : List ℕ → ℕ → ℕ → Bool → List ℕ
set_in sets a f present = set sets a (set_fact (get_or sets a 0) f present)
