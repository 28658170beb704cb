-- `solve::report::sum_rows` meets its contract: before turn f the rows below f are summed. Assumes nothing.
use Rattle.solve.proofs.ReportLaws.{Summed}
use Rattle.solve.proofs.report.sum_rows.Given as goal

abbrev pub invariant-loop-f : goal.invariant-loop-f
invariant-loop-f l = Summed l.table l.facts l.sum l.f
