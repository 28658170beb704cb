-- What is written into lent room by a closure that writes: it measures the text where there is next to no room, and then writes it.
use Rattle.std.specs.Prelude.{List, ℕ}
use Rattle.std.specs.Fn.{Shared}
use denote.Ref.{MutBor}
use Rattle.room.specs.Placing.{Placed}

-- Each call of f at a room places the text from the room's first place on.
abbrev pub Writes : {F : Type 0} → Shared F (MutBor (List ℕ) × Unit {0}) (ℕ × (MutBor (List ℕ) × Unit {0})) → F → List ℕ → Type 0
Writes g f text = (before after : MutBor (List ℕ)) (end : ℕ) → g.post f (before, tt) (end, (after, tt)) → Placed before.now after.now 0 end text
