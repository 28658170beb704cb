-- `search::Lent::first_of` takes an earlier list while there is one, and else goes on behind the best's next repair: the next
-- code falls, or `from` grows.
use Rattle.search.specs.Runs.{runs_of}
use Rattle.choices.specs.Trying.{FirstIn}
use Rattle.search.proofs.LeastLaws.{Leads, ahead_of, code_or_end}
use Rattle.search.proofs.Lent.first_of.Given as goal

abbrev pub invariant-loop-next : goal.invariant-loop-next
invariant-loop-next l = Leads l.self.col.now (runs_of l.self) l.best l.from × FirstIn l.best l.from l.next

abbrev pub decreases-loop-next : goal.decreases-loop-next
decreases-loop-next l = ahead_of l.from (code_or_end l.next)
