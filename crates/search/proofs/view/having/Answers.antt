use native.Mathlib.Omega.{arith}
use lib.ListN.{get_or}
use Rattle.search.proofs.ViewLaws.{gathers_none, gathers_more, gathers_end}
use Rattle.search.proofs.view.having.Goals as goal

pub loop-i-init : goal.loop-i-init
loop-i-init g c = gathers_none (λ b. get_or c.args.sets.now b 0) c.args.f

pub loop-i-preserved : goal.loop-i-preserved
loop-i-preserved g c =
    gathers_more (λ b. get_or c.args.sets.now b 0) c.args.f c.loop-i.m c.loop-i.i c.with_if-m.result c.contains.result
    (omega arith) c.loop-i.invariant c.contains.ensures c.with_if-m.ensures

pub returns : goal.returns
returns g c = gathers_end c.args.sets.now c.args.f c.loop-i.i c.loop-i.m (omega arith) c.loop-i.invariant
