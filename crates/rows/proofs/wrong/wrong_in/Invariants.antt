-- `rows::wrong::wrong_in` meets its contract: before step i the pass has come so far. Assumes nothing.
use Rattle.rows.proofs.WrongLaws.{Passed}
use Rattle.rows.proofs.wrong.wrong_in.Given as goal

abbrev pub invariant-loop-i : goal.invariant-loop-i
invariant-loop-i l = Passed l.t l.run l.state l.wrong l.i
