use mathlib.Core.Path.{◌∙◌}
use Prim.Native.Nat.{◌+◌, ◌*◌, ◌-◌}
use native.Mathlib.Omega.{arith}
use lib.ListN.{drop}
use lib.Seq.{get_or-take, get_or-drop}
use Rattle.room.proofs.Gathering.{begun, next_fits, one_more}
use Rattle.table.specs.Sizes.{max_steps}
use Rattle.taskwriter.proofs.sections.step_records.Goals as goal

pub loop-step-init : goal.loop-step-init
loop-step-init c = begun _ _ _ _ c.requires.0

pub put_word-next-requires : goal.put_word-next-requires
put_word-next-requires c = next_fits c.loop-step.invariant (omega arith)

pub loop-step-preserved : goal.loop-step-preserved
loop-step-preserved c =
    let a = c.args in
    let first = max_steps * a.run in
    let i = c.loop-step.step-index in
    one_more c.loop-step.invariant (omega arith)
    (rw (c.number-byte.ensures, get_or-take (first + a.count - first) (drop first a.steps.now) i 0 (omega arith) ∙ get_or-drop first a.steps.now i 0) at c.put_word-next.ensures)
