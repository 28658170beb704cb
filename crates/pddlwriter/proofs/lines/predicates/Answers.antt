use Rattle.room.proofs.Gathering.{begun, next_fits, one_more}
use Rattle.pddlwriter.proofs.lines.predicates.Goals as goal

pub loop-fact-init : goal.loop-fact-init
loop-fact-init c = begun _ _ _ _ c.requires

pub put_line-next-requires : goal.put_line-next-requires
put_line-next-requires c = next_fits c.loop-fact.invariant c.loop-fact-test.true

pub loop-fact-preserved : goal.loop-fact-preserved
loop-fact-preserved c =
    one_more c.loop-fact.invariant c.loop-fact-test.true c.put_line-next.ensures
