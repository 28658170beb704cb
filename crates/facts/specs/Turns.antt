-- A mask's facts in turn.
use Rattle.std.specs.Prelude.{Option, Some, None, ◌≡◌, ℕ, ◌<◌}
use Rattle.facts.specs.Sets.{only, removed, lowest}
use Rattle.facts.specs.declared.Facts.{Facts}

-- The next is the lowest fact, and what is left is the mask without it; nothing where the mask is empty.
abbrev pub Turn : Facts → Option ℕ → Facts → Type 0
Turn facts (Some f) left = (0 < facts.rest) × (f ≡ lowest facts.rest) × (left ≡ record { rest = removed facts.rest (only f) })
Turn facts None left = (facts.rest ≡ 0) × (left ≡ facts)
