-- `action_records`: one record for each cell of one action.
use Rattle.room.proofs.Gathering.{Gathering}
use Rattle.records.specs.Kinds.{kind_number}
use Rattle.taskwriter.specs.Pieces.{cell_record}
use Rattle.taskwriter.proofs.sections.action_records.Given as goal

abbrev pub invariant-loop-fact : goal.invariant-loop-fact
invariant-loop-fact l =
    Gathering (cell_record (kind_number l.fn.kind) l.action l.set) l.facts l.initial.room l.room l.at l.next l.fact
