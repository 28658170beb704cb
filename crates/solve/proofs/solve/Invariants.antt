-- `solve::solve` meets its contract: a task that is not well formed is refused; else the rows of the wrong facts are joined in order of fact, and
-- what they come to is the verdict over all permitted lists. Assumes nothing.
use Rattle.solve.proofs.JoinedLaws.{Joining}
use Rattle.solve.proofs.solve.Given as goal

abbrev pub invariant-loop-f : goal.invariant-loop-f
invariant-loop-f l = Joining l.t l.f-iterator.rest l.joined
