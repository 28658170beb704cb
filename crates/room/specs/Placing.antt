-- Bytes placed in a room from a place on, as far as the room goes: what every function that writes says of the room.
use Rattle.std.specs.Prelude.{List, ◌≡◌, ℕ, ◌+◌, ◌-◌, ◌^◌, length}
use Rattle.std.proofs.lemmas.List.Edits.{sets}

-- The greatest place that a usize can say; a byte is put before it, so that the place past the byte can be said too.
abbrev pub last_place : ℕ
last_place = 2 ^ 64 - 1

-- The room with the bytes stored one after another from a place on; those past the room are lost.
unfoldable pub placed : List ℕ → ℕ → List ℕ → List ℕ
placed room at bytes = sets room at bytes

-- From `before` to `after` the bytes were placed at `at`, and `next` is the place past them, in the room or not.
pub record Placed (before after : List ℕ) (at next : ℕ) (bytes : List ℕ) : Type 0 where
  pub next_is : next ≡ at + length bytes
  pub room_is : after ≡ placed before at bytes
