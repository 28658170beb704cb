-- `gather`: one text after another. Assumes nothing.
use mathlib.Core.Path.{refl, sym, ap, ◌∙◌}
use native.Mathlib.Omega.{arith}
use Rattle.std.proofs.lemmas.Result.{err_from_is_err_and}
use Rattle.std.specs.Prelude.{Err}
use Rattle.frompddl.specs.Gathering.{last, ninth, wrong}
use Rattle.frompddl.proofs.GatherLaws.{gathers_more}
use Rattle.frompddl.proofs.SplitLaws.{text_there, end_further}
use Rattle.frompddl.proofs.gather.gather.Goals as goal

pub returns : goal.returns
returns c = c.loop-beside.invariant _ (last (sym c.loop-beside-test.ensures) refl)

-- a text begins here
pub returns-then-texts-ge-RUNS : goal.returns-then-texts-ge-RUNS
returns-then-texts-ge-RUNS c = c.loop-beside.invariant _ (ninth (sym c.loop-beside-test.ensures) (omega arith) (ap Err c.at.ensures))

pub returns-in_err-task : goal.returns-in_err-task
returns-in_err-task c =
    let p = err_from_is_err_and c.from_residual.result c.from_residual.ensures.1 in
    c.loop-beside.invariant _
    (wrong _ (sym c.loop-beside-test.ensures) (omega arith) c.in_err-task.ensures (p.1 ∙ ap Err p.2))

pub loop-beside-smaller : goal.loop-beside-smaller
loop-beside-smaller c =
    let s = c.args.s.now in
    let at = c.loop-beside.at in
    let there = text_there s at (sym c.loop-beside-test.ensures) in
    omega (arith, c.text_end-at.ensures, end_further s at there)

pub loop-beside-preserved : goal.loop-beside-preserved
loop-beside-preserved c = λ r g.
    c.loop-beside.invariant r
    (gathers_more c.in_ok-task.task c.text_end-at.result (sym c.loop-beside-test.ensures) (omega arith) c.in_ok-task.ensures
    c.text_end-at.ensures r g)
