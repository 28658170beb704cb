-- What the program prints for what it has read: document 01, "The listing".
use Rattle.std.specs.Prelude.{List, ◌++◌, ◌≡◌, ℕ, length, take, drop}
use Rattle.listing.specs.Listing.{Lists}

-- "The program reads standard input": of the bytes s that stand there the buffer has room for so many, and it got them.
abbrev pub Got : List ℕ → List ℕ → ℕ → Type 0
Got s buffer got = take got buffer ≡ take (length buffer) s

-- What is printed, the first r bytes of the room, is the listing of all that stands on standard input, also of what the
-- buffer has no room for: "later bytes can't alter its answer". The room is never too short, and nothing beside is written.
pub record Prints (buffer : List ℕ) (got : ℕ) (room : List ℕ) (r : ℕ) (after : List ℕ) : Type 0 where
  pub text : List ℕ
  pub lists : (s : List ℕ) → Got s buffer got → Lists s text
  pub length_is : r ≡ length text
  pub room_is : after ≡ text ++ drop r room
