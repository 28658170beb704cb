-- `rows::fill` meets its contract: the rows of the facts that are not left are the right ones. Assumes nothing.
use Rattle.rows.proofs.WrongLaws.{Searched}
use Rattle.rows.proofs.fill.Given as goal

abbrev pub invariant-loop-f : goal.invariant-loop-f
invariant-loop-f l = Searched l.t l.f-iterator.rest l.initial.table l.table
