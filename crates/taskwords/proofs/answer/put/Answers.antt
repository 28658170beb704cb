-- `put` stores the word where the room has a place for it, and only counts it past the room.
use native.Mathlib.Omega.{arith}
use Rattle.room.proofs.PlacingLaws.{placed_byte, placed_past}
use Rattle.taskwords.proofs.answer.put.Goals as goal

pub returns-then-at-answer : goal.returns-then-at-answer
returns-then-at-answer c = placed_byte _ _ _

pub returns : goal.returns
returns c = placed_past _ _ _ (omega arith)
