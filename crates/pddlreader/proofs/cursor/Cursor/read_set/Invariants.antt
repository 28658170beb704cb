-- `Cursor::read_set`: the loop keeps that what is left of the set is walked from where it is.
use Rattle.pddlwords.specs.Spelling.{line_of}
use Rattle.pddlreader.proofs.WalkLaws.{SetSofar}
use Rattle.pddlreader.proofs.cursor.Cursor.read_set.Given as goal

abbrev pub invariant-loop-fact : goal.invariant-loop-fact
invariant-loop-fact l = SetSofar (line_of l.line) l.s l.facts l.initial.self l.fact (record { cursor = l.self; set = l.set })
