use native.Mathlib.Omega.{arith}
use Rattle.search.specs.Runs.{run_of}
use Rattle.search.proofs.ConflictLaws.{actions_none, actions_more, actions_end}
use Rattle.search.proofs.Run.actions_between.Goals as goal

pub loop-i-init : goal.loop-i-init
loop-i-init c = (omega arith, omega arith, actions_none (run_of c.args.self.now).step c.args.start)

pub loop-i-preserved : goal.loop-i-preserved
loop-i-preserved c = (
  omega arith,
  omega arith,
  rw (c.with_fact-found.ensures, c.action-a.ensures.step)
      (actions_more (run_of c.args.self.now).step c.args.start c.loop-i.i c.loop-i.found (omega arith) (omega (arith, c.action-a.ensures.low)) c.loop-i.invariant.2),
)

pub returns : goal.returns
returns c =
    let a = c.args in
    actions_end (run_of a.self.now).step a.start c.loop-i.i a.end c.loop-i.found (omega arith) (omega arith) c.loop-i.invariant.2
