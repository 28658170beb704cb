use Rattle.room.proofs.Gathering.{begun, next_fits, one_more, all_placed}
use Rattle.taskformat.specs.Format.{fact_records}
use Rattle.taskwriter.proofs.sections.fact_records.Goals as goal

pub loop-fact-init : goal.loop-fact-init
unfolding fact_records
loop-fact-init c = begun _ _ _ _ c.requires.0

pub record_if_in-next-requires : goal.record_if_in-next-requires
record_if_in-next-requires c = rw c.number-byte.ensures (next_fits c.loop-fact.invariant c.loop-fact-test.true)

pub loop-fact-preserved : goal.loop-fact-preserved
loop-fact-preserved c =
    one_more c.loop-fact.invariant c.loop-fact-test.true (rw c.number-byte.ensures at c.record_if_in-next.ensures)

pub returns : goal.returns
unfolding fact_records
returns c = all_placed c.loop-fact.invariant c.loop-fact-test.false
