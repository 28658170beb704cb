-- `open_lines`: one line for each run.
use Rattle.text.specs.Text.{open_line, check_in}
use Rattle.room.proofs.Gathering.{Gathering}
use Rattle.text.proofs.lines.open_lines.Given as goal

abbrev pub invariant-loop-found : goal.invariant-loop-found
invariant-loop-found l = Gathering (λ k. open_line (check_in l.fn.checks k)) l.many l.initial.room l.room l.at l.next l.found-index
