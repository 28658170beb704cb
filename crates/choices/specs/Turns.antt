-- A set's codes in turn.
use Rattle.std.specs.Prelude.{Option, Some, None, ◌≡◌, ℕ, ◌+◌}
use Rattle.choices.specs.declared.Codes.{Codes}
use Rattle.choices.specs.Trying.{FirstIn}

-- The next of the codes is the first of the set from there on, and the one after it is looked for behind it.
abbrev pub Turn : Codes → Option ℕ → Codes → Type 0
Turn codes (Some code) rest = FirstIn codes.set codes.from (Some code) × (rest ≡ record { set = codes.set; from = code + 1 })
Turn codes None rest = FirstIn codes.set codes.from None × (rest ≡ codes)
