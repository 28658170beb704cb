-- `Cursor::read_count`: the loop keeps that the lines so far stood.
use Prim.Native.Nat.{◌≤◌}
use Rattle.table.specs.Sizes.{max_facts}
use Rattle.pddlreader.proofs.WalkLaws.{CountSofar}
use Rattle.pddlreader.proofs.cursor.Cursor.read_count.Given as goal

abbrev pub invariant-loop-facts : goal.invariant-loop-facts
invariant-loop-facts l = (l.facts ≤ max_facts) × CountSofar l.s l.initial.self l.facts l.self
