-- `predicates`: one line for each fact.
use Rattle.room.proofs.Gathering.{Gathering}
use Rattle.pddl.specs.Texts.{fact_line}
use Rattle.pddlwriter.proofs.lines.predicates.Given as goal

abbrev pub invariant-loop-fact : goal.invariant-loop-fact
invariant-loop-fact l = Gathering fact_line l.facts l.initial.room l.room l.at l.next l.fact
