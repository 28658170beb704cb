-- `check_runs` checks one run after another.
use Rattle.listing.proofs.CheckingLaws.{Checking}
use Rattle.listing.proofs.check_runs.Given as goal

abbrev pub invariant-loop-run : goal.invariant-loop-run
invariant-loop-run l = Checking l.task l.checks l.run
