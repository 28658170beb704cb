use native.Mathlib.Omega.{arith}
use Rattle.rows.proofs.WrongLaws.{passed_none, passed_more, passed_end}
use Rattle.rows.proofs.wrong.wrong_in.Goals as goal

pub loop-i-init : goal.loop-i-init
loop-i-init c = passed_none c.args.t c.args.run

pub loop-i-preserved : goal.loop-i-preserved
loop-i-preserved c =
    passed_more c.args.t c.args.run c.loop-i.state c.loop-i.wrong c.loop-i.i c.remove.result
    c.join-wrong.result c.remove-in-loop-i.result c.join-state.result (omega arith) c.remove.ensures c.join-wrong.ensures
    c.remove-in-loop-i.ensures c.join-state.ensures c.loop-i.invariant

pub returns : goal.returns
returns c =
    passed_end c.args.t c.args.run c.loop-i.state c.loop-i.wrong c.loop-i.i c.remove-2.result
    c.join.result (omega arith) c.remove-2.ensures c.join.ensures c.loop-i.invariant
