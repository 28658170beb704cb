use mathlib.Core.Path.{◌≡◌, refl, ap, ◌∙◌}
use native.Mathlib.Omega.{arith}
use Prim.Native.Nat.{◌+◌, ◌-◌, ◌≤◌}
use lib.ListN.{length, drop}
use lib.Seq.{get_or-take, get_or-drop}
use Rattle.table.specs.Sizes.{all_steps}
use Rattle.taskwords.specs.Words.{step_in, steps_at}
use Rattle.taskwords.proofs.FillingLaws.{begun_none, begun_more, begun_all}
use Rattle.taskwords.proofs.PartLaws.{steps_length, steps_at_lem}
use Rattle.taskwords.proofs.words.copy_steps.Goals as goal

none : step_in 0 ≡ 0
unfolding step_in
none = refl

pub loop-i-init : goal.loop-i-init
loop-i-init c = (omega arith, rw c.requires.steps_value (begun_none _ all_steps))

pub loop-i-preserved : goal.loop-i-preserved
loop-i-preserved c =
    let a = c.args in
    let i = c.loop-i.i in
    let word = get_or-take (steps_at + a.used - steps_at) (drop steps_at a.words.now) i 0 (omega arith) ∙ get_or-drop steps_at a.words.now i 0 in
    (omega arith, begun_more _ c.loop-i.invariant.1 _ (omega (arith, c.requires.used_le_all_steps.0)) (c.step_in.ensures ∙ ap step_in word))

pub returns : goal.returns
returns c =
    let ws = c.args.words.now in
    let room : steps_at + all_steps ≤ length ws = omega (arith, c.requires.words_len) in
    let last : c.loop-i.i ≡ c.args.used = omega arith in
    begun_all _ c.loop-i.invariant.1 _ (λ k past low. ap step_in (c.requires.used_le_all_steps.1 (steps_at + k) (omega arith) (omega arith)) ∙ none)
    (steps_length ws steps_at all_steps room) (steps_at_lem ws steps_at all_steps room)
