-- `fact_records`: one record for each fact of the set.
use Rattle.room.proofs.Gathering.{Gathering}
use Rattle.records.specs.Kinds.{kind_number}
use Rattle.taskwriter.specs.Pieces.{fact_record}
use Rattle.taskwriter.proofs.sections.fact_records.Given as goal

abbrev pub invariant-loop-fact : goal.invariant-loop-fact
invariant-loop-fact l =
    Gathering (fact_record (kind_number l.fn.kind) l.set) l.facts l.initial.room l.room l.at l.next l.fact
