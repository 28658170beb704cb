use Rattle.room.proofs.Gathering.{begun, next_fits, one_more}
use Rattle.pddlwriter.proofs.lines.set_lines.Goals as goal

pub loop-fact-init : goal.loop-fact-init
loop-fact-init c = begun _ _ _ _ c.requires

pub line_if_in-next-requires : goal.line_if_in-next-requires
line_if_in-next-requires c = next_fits c.loop-fact.invariant c.loop-fact-test.true

pub loop-fact-preserved : goal.loop-fact-preserved
loop-fact-preserved c =
    one_more c.loop-fact.invariant c.loop-fact-test.true c.line_if_in-next.ensures
