-- `rows::wrong::wrong_facts` meets its contract: before a run the mask has the facts that are wrong in a run before it. Assumes nothing.
use Rattle.rows.proofs.WrongLaws.{WrongBelow}
use Rattle.rows.proofs.wrong.wrong_facts.Given as goal

abbrev pub invariant-loop-run : goal.invariant-loop-run
invariant-loop-run l = WrongBelow l.t l.run l.wrong
