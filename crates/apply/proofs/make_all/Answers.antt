use Rattle.change.proofs.KindLaws.{one_by_one_none, one_by_one_more}
use Rattle.apply.proofs.make_all.Goals as goal

pub loop-n-init : goal.loop-n-init
loop-n-init c = one_by_one_none c.args.t c.args.list.now

pub loop-n-preserved : goal.loop-n-preserved
loop-n-preserved c = one_by_one_more c.args.t c.args.list.now c.loop-n.n-index c.loop-n.invariant c.make_one-after.ensures
