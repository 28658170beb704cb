-- `cell_records`: the cells of one action after another.
use lib.ListN.{get_or}
use Rattle.records.specs.Kinds.{kind_number}
use Rattle.taskwriter.specs.Pieces.{action_records}
use Rattle.room.proofs.Gathering.{Gathering}
use Rattle.taskwriter.proofs.sections.cell_records.Given as goal

abbrev pub invariant-loop-action : goal.invariant-loop-action
invariant-loop-action l =
    Gathering (λ a. action_records (kind_number l.kind) l.facts a (get_or l.sets a 0)) l.actions l.initial.room l.room l.at l.next l.action
