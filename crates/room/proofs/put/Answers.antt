-- `put` stores the byte where the room has a place for it, and only counts it past the room.
use native.Mathlib.Omega.{arith}
use Rattle.room.proofs.PlacingLaws.{placed_byte, placed_past}
use Rattle.room.proofs.put.Goals as goal

pub returns-then-at-room : goal.returns-then-at-room
returns-then-at-room c = placed_byte _ _ _

pub returns : goal.returns
returns c = placed_past _ _ _ (omega arith)
