-- `repair_lines`: one line for each repair.
use lib.ListN.{length, get_or}
use Rattle.text.specs.Text.{repair_line}
use Rattle.room.proofs.Gathering.{Gathering}
use Rattle.text.proofs.lines.repair_lines.Given as goal

abbrev pub invariant-loop-number : goal.invariant-loop-number
invariant-loop-number l =
    Gathering (λ k. repair_line (get_or l.list k 0)) (length l.list) l.initial.room l.room l.at l.next l.number-index
