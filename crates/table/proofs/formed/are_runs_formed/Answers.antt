use native.Mathlib.Omega.{arith}
use Rattle.table.specs.Counting.{every_below}
use Rattle.table.specs.Sizes.{max_runs}
use Rattle.table.specs.Tasks.{run_formed}
use Rattle.table.proofs.CountingLaws.{every_below_none, every_below_more, at_end}
use Rattle.table.proofs.formed.are_runs_formed.Goals as goal

pub loop-i-init : goal.loop-i-init
loop-i-init c = every_below_none _

pub loop-i-preserved : goal.loop-i-preserved
unfolding run_formed
loop-i-preserved c = every_below_more (run_formed c.args.t) c.loop-i.i c.loop-i.invariant c.is_run_formed-good.ensures

pub returns : goal.returns
returns c = at_end (every_below (run_formed c.args.t)) c.loop-i.i max_runs c.loop-i.auto.i-end (omega arith) c.loop-i.invariant
