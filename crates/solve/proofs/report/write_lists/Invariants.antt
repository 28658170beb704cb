-- `solve::report::write_lists` meets its contract: before turn f the lists of the rows below f are in the room. Assumes nothing.
use Rattle.solve.proofs.ReportLaws.{Listed}
use Rattle.solve.proofs.report.write_lists.Given as goal

abbrev pub invariant-loop-f : goal.invariant-loop-f
invariant-loop-f l = Listed l.table l.facts l.initial.room l.room l.at l.f
