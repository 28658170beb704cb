use mathlib.Core.Path.{◌≡◌, ap, ◌∙◌}
use Prim.Native.Nat.{ℕ, ◌+◌, ◌-◌}
use native.Mathlib.Omega.{arith}
use lib.Dec.{ltb}
use lib.ListN.{drop}
use lib.Seq.{get_or-take, get_or-drop}
use Rattle.table.specs.Counting.{every_from}
use Rattle.table.specs.Passes.{step_below}
use Rattle.table.proofs.CountingLaws.{every_from_none, every_from_more, at_end}
use Rattle.table.proofs.formed.are_below.Goals as goal

pub loop-step-init : goal.loop-step-init
loop-step-init c =
    let start : c.args.from + 0 ≡ c.args.from = omega arith in
    rw start (every_from_none (step_below c.args.steps.now c.args.n) c.args.from)

pub loop-step-preserved : goal.loop-step-preserved
unfolding step_below
loop-step-preserved c =
    let a = c.args in
    let i = c.loop-step.step-index in
    let next : a.from + (i + 1) ≡ a.from + i + 1 = omega arith in
    rw next
    (every_from_more (step_below a.steps.now a.n) a.from (a.from + i) (omega arith) c.loop-step.invariant
    (ap (λ (s : ℕ). ltb s a.n) (get_or-take (a.to - a.from) (drop a.from a.steps.now) i 0 (omega arith) ∙ get_or-drop a.from a.steps.now i 0)))

pub returns : goal.returns
returns c =
    let a = c.args in
    at_end (every_from (step_below a.steps.now a.n) a.from) (a.from + c.loop-step.step-index) a.to (omega arith) (omega arith) c.loop-step.invariant
