-- `apply::apply` meets its contract: a law for each way out. Assumes nothing.
use mathlib.Core.Path.{sym, ◌∙◌}
use native.Mathlib.Omega.{arith}
use Rattle.table.specs.Tasks.{Shaped}
use Rattle.apply.proofs.ApplyLaws.{applies_unformed, applies_wrong, applies_made}
use borrow.Author.Rules.{rules}
use Rattle.apply.proofs.apply.Goals as goal

pub returns-then-not-is_formed : goal.returns-then-not-is_formed
returns-then-not-is_formed c =
    let a = c.args in
    let good = c.is_formed in
    rw (c.returning.ensures, c.at.ensures) (applies_unformed a.t a.list.now (sym good.ensures ∙ c.if-not-is_formed.true))

pub returns-in-Some : goal.returns-in-Some
returns-in-Some c =
    let a = c.args in
    let good = c.is_formed in
    let wrong = c.in-Some in
    rw (c.returning-in-Some.ensures, c.at-in-Some.ensures)
    (applies_wrong a.t a.list.now wrong.wrong wrong.ensures.1 (sym good.ensures ∙ c.if-not-is_formed.false) wrong.ensures.0)

pub returns : goal.returns
returns c =
    let shaped : Shaped c.args.t = search rules in
    let a = c.args in
    let good = c.is_formed in
    applies_made a.t a.list.now c.make_all-table.result c.make_all-table.ensures (shaped)
    (sym good.ensures ∙ c.if-not-is_formed.false) (omega (arith, c.in_default.ensures))
