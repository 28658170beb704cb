-- `through_needs` places the head of the action and the lines of its needs.
use mathlib.Core.Path.{◌∙◌}
use Prim.Native.Nat.{◌+◌, ◌≤◌}
use native.Mathlib.Omega.{arith}
use lib.ListN.{length, length-append}
use Rattle.room.specs.Placing.{last_place}
use Rattle.room.proofs.PlacingLaws.{placed_more}
use Rattle.pddl.specs.Texts.{fact_line, lines_of, action_head}
use Rattle.pddlwriter.specs.Pieces.{through_needs}
use Rattle.pddlwriter.proofs.texts.through_needs.Goals as goal

pub put_word-next-requires : goal.put_word-next-requires
unfolding through_needs
put_word-next-requires c =
    let a = c.args in
    let both_fit : a.at + (length (action_head a.action) + length (lines_of fact_line a.facts a.needs)) ≤ last_place =
    simp length-append at c.requires in
    rw (c.text.ensures ∙ c.action_head.ensures.text) (omega (arith, both_fit))

pub set_lines-requires : goal.set_lines-requires
unfolding through_needs
set_lines-requires c =
    let a = c.args in
    let both_fit : a.at + (length (action_head a.action) + length (lines_of fact_line a.facts a.needs)) ≤ last_place =
    simp length-append at c.requires in
    let head = rw (c.text.ensures ∙ c.action_head.ensures.text) at c.put_word-next.ensures in
    omega (arith, head.next_is, both_fit)

pub returns : goal.returns
unfolding through_needs
returns c =
    placed_more (rw (c.text.ensures ∙ c.action_head.ensures.text) at c.put_word-next.ensures) c.set_lines.ensures
