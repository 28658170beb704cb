use Rattle.room.proofs.Gathering.{begun, next_fits, one_more}
use Rattle.pddlwriter.proofs.texts.put_actions.Goals as goal

pub loop-action-init : goal.loop-action-init
loop-action-init c = begun _ _ _ _ c.requires.actions_bound

pub put_action-next-requires : goal.put_action-next-requires
put_action-next-requires c = next_fits c.loop-action.invariant c.loop-action-test.true

pub loop-action-preserved : goal.loop-action-preserved
loop-action-preserved c =
    one_more c.loop-action.invariant c.loop-action-test.true c.put_action-next.ensures
