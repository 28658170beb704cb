-- `choices::Choice::with_repair` joins the action to the kind's set.
use borrow.Author.Tests.{eq-eqb, ne_eqb}
use mathlib.Core.Path.{◌≡◌, refl}
use Prim.Native.Nat.{◌/◌}
use native.Mathlib.Omega.{arith}
use Rattle.choices.specs.Trying.{with_repair}
use Rattle.choices.proofs.Choice.with_repair.Goals as goal

pub returns-in-0 : goal.returns-in-0
unfolding with_repair
returns-in-0 c = rw (c.with_fact.ensures, with_repair, eq-eqb _ _ c.in-0.is) refl

pub returns-in-1 : goal.returns-in-1
unfolding with_repair
returns-in-1 c =
    let past : c.args.code / 32 ≡ 0 → ⊥ = λ e. omega (arith, c.in-1.is) in
    rw (c.with_fact-in-1.ensures, with_repair, ne_eqb _ _ past, eq-eqb _ _ c.in-1.is) refl

pub returns-in_default : goal.returns-in_default
unfolding with_repair
returns-in_default c =
    let no_delete : c.args.code / 32 ≡ 0 → ⊥ = λ e. omega arith in
    let no_add : c.args.code / 32 ≡ 1 → ⊥ = λ e. omega arith in
    rw (c.with_fact-in_default.ensures, with_repair, ne_eqb _ _ no_delete, ne_eqb _ _ no_add) refl
