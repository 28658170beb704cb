-- `runcheck::tally_run` meets its contract: before step i the state's mask is the run's state there, and the tally is that of the steps before.
-- Assumes nothing.
use mathlib.Core.Path.{◌≡◌}
use Rattle.runcheck.specs.OpenNeeds.{states_of}
use Rattle.runcheck.proofs.TallyLaws.{tally_of, IsState}
use Rattle.runcheck.proofs.tally_run.Given as goal

abbrev pub invariant-loop-i : goal.invariant-loop-i
invariant-loop-i l =
    IsState (states_of l.t l.run) l.i l.state × (l.tally ≡ tally_of l.t l.run (states_of l.t l.run) l.i)
