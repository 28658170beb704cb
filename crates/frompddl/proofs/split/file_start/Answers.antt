-- `file_start`: one text after another. Assumes nothing.
use mathlib.Core.Path.{refl, sym, subst}
use native.Mathlib.Omega.{arith}
use Rattle.frompddl.specs.Splitting.{TextsEnd, here, further}
use Rattle.frompddl.proofs.SplitLaws.{text_there, end_further}
use Rattle.frompddl.proofs.split.file_start.Goals as goal

pub loop-at-smaller : goal.loop-at-smaller
loop-at-smaller c =
    let s = c.args.s.now in
    let at = c.loop-at.at in
    let there = text_there s at (sym c.loop-at-test.ensures) in
    omega (arith, c.text_end-at-in-loop-at.ensures, end_further s at there)

pub loop-at-preserved : goal.loop-at-preserved
loop-at-preserved c = λ end g.
    c.loop-at.invariant end
    (further (sym c.loop-at-test.ensures) (subst (TextsEnd c.args.s.now end) c.text_end-at-in-loop-at.ensures g))

pub returns : goal.returns
returns c = c.loop-at.invariant _ (here (sym c.loop-at-test.ensures) refl)
