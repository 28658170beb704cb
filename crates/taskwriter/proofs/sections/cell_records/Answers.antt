use native.Mathlib.Omega.{arith}
use Rattle.taskformat.specs.Format.{cell_records}
use Rattle.room.proofs.Gathering.{begun, next_fits, one_more, all_placed}
use Rattle.taskwriter.proofs.sections.cell_records.Goals as goal

pub loop-action-init : goal.loop-action-init
unfolding cell_records
loop-action-init c = begun _ _ _ _ c.requires.0

pub action_records-next-requires : goal.action_records-next-requires
action_records-next-requires c = (next_fits c.loop-action.invariant c.loop-action-test.true, omega arith, omega arith)

pub loop-action-preserved : goal.loop-action-preserved
loop-action-preserved c =
    one_more c.loop-action.invariant c.loop-action-test.true c.action_records-next.ensures

pub returns : goal.returns
unfolding cell_records
returns c = all_placed c.loop-action.invariant c.loop-action-test.false
