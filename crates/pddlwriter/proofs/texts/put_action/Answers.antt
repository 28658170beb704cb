-- `put_action` places the effects, adds before deletes, after the needs.
use Prim.Native.Nat.{ℕ, ◌+◌, ◌≤◌}
use native.Mathlib.Omega.{arith}
use lib.ListN.{length, length-append}
use Rattle.room.specs.Placing.{last_place}
use Rattle.room.proofs.PlacingLaws.{placed_more}
use Rattle.pddl.specs.Texts.{fact_line, delete_line, lines_of, effect_opening, action_end, action_text}
use Rattle.pddlwriter.specs.Pieces.{through_needs}
use Rattle.pddlwriter.proofs.PartLaws.{action_is}
use Rattle.pddlwriter.proofs.texts.put_action.Goals as goal

-- What is required, by the lengths of the parts.
all_fit : (at facts action needs adds deletes : ℕ) → at + length (action_text facts action needs adds deletes) ≤ last_place
    → at +
    (length (through_needs facts action needs) + length effect_opening + length (lines_of fact_line facts adds) +
    length (lines_of delete_line facts deletes) +
    length action_end) ≤ last_place
all_fit at facts action needs adds deletes h =
    simp length-append at (rw (action_is facts action needs adds deletes) at h)

pub through_needs-next-requires : goal.through_needs-next-requires
through_needs-next-requires c =
    let a = c.args in
    omega (arith, all_fit a.at a.facts a.action a.needs a.adds a.deletes c.requires)

pub put_word-next-requires : goal.put_word-next-requires
put_word-next-requires c =
    let a = c.args in
    omega (arith, all_fit a.at a.facts a.action a.needs a.adds a.deletes c.requires, c.through_needs-next.ensures.next_is)

pub set_lines-next-requires : goal.set_lines-next-requires
set_lines-next-requires c =
    let a = c.args in
    omega (
      arith,
      all_fit a.at a.facts a.action a.needs a.adds a.deletes c.requires,
      c.through_needs-next.ensures.next_is,
      c.put_word-next.ensures.next_is,
    )

pub set_lines-next-requires-2 : goal.set_lines-next-requires-2
set_lines-next-requires-2 c =
    let a = c.args in
    omega (
      arith,
      all_fit a.at a.facts a.action a.needs a.adds a.deletes c.requires,
      c.through_needs-next.ensures.next_is,
      c.put_word-next.ensures.next_is,
      c.set_lines-next.ensures.next_is,
    )

pub put_word-requires : goal.put_word-requires
put_word-requires c =
    let a = c.args in
    omega (
      arith,
      all_fit a.at a.facts a.action a.needs a.adds a.deletes c.requires,
      c.through_needs-next.ensures.next_is,
      c.put_word-next.ensures.next_is,
      c.set_lines-next.ensures.next_is,
      c.set_lines-next-2.ensures.next_is,
    )

pub returns : goal.returns
returns c =
    let a = c.args in
    rw (action_is a.facts a.action a.needs a.adds a.deletes)
    (placed_more
    (placed_more
    (placed_more (placed_more c.through_needs-next.ensures c.put_word-next.ensures) c.set_lines-next.ensures)
    c.set_lines-next-2.ensures)
    c.put_word.ensures)
