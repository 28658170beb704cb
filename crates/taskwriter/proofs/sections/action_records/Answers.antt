use Rattle.room.proofs.Gathering.{begun, next_fits, one_more}
use Rattle.taskwriter.proofs.sections.action_records.Goals as goal

pub loop-fact-init : goal.loop-fact-init
loop-fact-init c = begun _ _ _ _ c.requires.0

pub record_if_in-next-requires : goal.record_if_in-next-requires
record_if_in-next-requires c = rw c.number-byte.ensures (next_fits c.loop-fact.invariant c.loop-fact-test.true)

pub loop-fact-preserved : goal.loop-fact-preserved
loop-fact-preserved c =
    one_more c.loop-fact.invariant c.loop-fact-test.true (rw c.number-byte.ensures at c.record_if_in-next.ensures)
