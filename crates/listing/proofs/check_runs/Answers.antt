use mathlib.Core.Path.{◌∙◌}
use native.Mathlib.Omega.{arith}
use Rattle.listing.proofs.CheckingLaws.{checking_first, checking_more, checking_all}
use Rattle.listing.proofs.check_runs.Goals as goal

pub loop-run-init : goal.loop-run-init
loop-run-init c = checking_first c.args.task c.from-checks.result (c.from-checks.ensures ∙ c.check_run.ensures)

pub loop-run-preserved : goal.loop-run-preserved
loop-run-preserved c =
    checking_more c.loop-run.invariant c.from.result (omega arith) (c.from.ensures ∙ c.check_run-in-loop-run.ensures)

pub returns : goal.returns
returns c = checking_all c.loop-run.invariant c.loop-run-test.false
