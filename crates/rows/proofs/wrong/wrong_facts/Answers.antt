use mathlib.Core.Path.{subst}
use Prim.Native.Nat.{ℕ}
use native.Mathlib.Omega.{arith}
use Rattle.rows.proofs.WrongLaws.{WrongBelow, wrong_first, wrong_more, wrong_all}
use Rattle.rows.proofs.wrong.wrong_facts.Goals as goal

pub loop-run-init : goal.loop-run-init
loop-run-init c = wrong_first c.args.t c.wrong_in-wrong.result c.wrong_in-wrong.ensures

pub loop-run-preserved : goal.loop-run-preserved
loop-run-preserved c =
    wrong_more c.args.t c.loop-run.wrong c.wrong_in.result c.join-wrong.result c.loop-run.run c.join-wrong.ensures
    c.wrong_in.ensures c.loop-run.invariant

pub returns : goal.returns
returns c =
    let t = c.args.t in
    wrong_all t c.loop-run.wrong (subst (λ (n : ℕ). WrongBelow t n c.loop-run.wrong) (omega (arith, c.loop-run.auto.run-end c.requires.many_low)) c.loop-run.invariant)
