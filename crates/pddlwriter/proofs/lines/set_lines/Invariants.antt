-- `set_lines`: one line for each fact of the set.
use Rattle.room.proofs.Gathering.{Gathering}
use Rattle.pddlwriter.specs.Pieces.{line_in}
use Rattle.pddlwriter.proofs.lines.set_lines.Given as goal

abbrev pub invariant-loop-fact : goal.invariant-loop-fact
invariant-loop-fact l = Gathering (line_in l.line l.set) l.facts l.initial.room l.room l.at l.next l.fact
