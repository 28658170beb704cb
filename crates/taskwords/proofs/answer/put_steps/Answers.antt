use mathlib.Core.Path.{◌≡◌, subst}
use Prim.Native.Nat.{ℕ, ◌+◌, ◌<◌}
use native.Mathlib.Omega.{arith}
use borrow.Author.Rules.{rules}
use lib.ListN.{length, take}
use Rattle.room.proofs.PlacingLaws.{placed_none, placed_length}
use Rattle.room.specs.Placing.{Placed}
use Rattle.table.specs.Sizes.{all_steps}
use Rattle.taskwords.proofs.PuttingLaws.{part_more, part_all}
use Rattle.taskwords.proofs.answer.put_steps.Goals as goal

pub loop-i-init : goal.loop-i-init
loop-i-init c =
    let a = c.args in
    (omega arith, subst (λ (k : ℕ). Placed a.answer.now a.answer.now a.at k (take 0 a.steps.now)) (omega arith) (placed_none a.answer.now a.at))

pub loop-i-preserved : goal.loop-i-preserved
loop-i-preserved c =
    let inside : (c.loop-i.i < all_steps) × (c.args.at + c.loop-i.i < length c.loop-i.answer) = let fits = c.fitting-count.ensures in let some : 0 < c.fitting-count.result = omega arith in (omega (arith, fits.some), omega (arith, fits.inside some, placed_length c.loop-i.invariant.1)) in
    let steps = c.args.steps.now in
    let whole : length steps ≡ all_steps = search rules in
    (omega arith, rw c.from.ensures (part_more steps (omega (arith, inside)) c.loop-i.invariant.1))

pub returns : goal.returns
returns c =
    let start = c.args in
    let steps = start.steps.now in
    let whole : length steps ≡ all_steps = search rules in
    let last : c.loop-i.i ≡ c.fitting-count.result = omega arith in
    part_all steps whole c.fitting-count.ensures
    (subst (λ (k : ℕ). Placed start.answer.now c.loop-i.answer start.at (start.at + k) (take k steps)) last c.loop-i.invariant.1)
