-- `set_records` places the start facts and then the goal facts.
use native.Mathlib.Omega.{arith}
use Prim.Native.Nat.{◌+◌, ◌≤◌}
use lib.ListN.{length, length-append}
use Rattle.taskformat.specs.Format.{start_kind, goal_kind, fact_records}
use Rattle.room.specs.Placing.{last_place}
use Rattle.room.proofs.PlacingLaws.{placed_more}
use Rattle.taskwriter.specs.Pieces.{both_sets}
use Rattle.taskwriter.proofs.sections.set_records.Goals as goal

pub fact_records-next-requires : goal.fact_records-next-requires
unfolding both_sets
fact_records-next-requires c =
    let sets_fit : let a = c.args in a.at + (length (fact_records start_kind a.facts a.start) + length (fact_records goal_kind a.facts a.goal)) ≤ last_place = simp length-append at c.requires.0 in
    (omega (arith, sets_fit), c.requires.1)

pub fact_records-requires : goal.fact_records-requires
unfolding both_sets
fact_records-requires c =
    let sets_fit : let a = c.args in a.at + (length (fact_records start_kind a.facts a.start) + length (fact_records goal_kind a.facts a.goal)) ≤ last_place = simp length-append at c.requires.0 in
    (omega (arith, sets_fit, c.fact_records-next.ensures), c.requires.1)

pub returns : goal.returns
unfolding both_sets
returns c =
    placed_more c.fact_records-next.ensures c.fact_records.ensures
