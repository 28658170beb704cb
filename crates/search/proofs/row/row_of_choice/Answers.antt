use mathlib.Core.Path.{◌≡◌, refl, sym, ap, subst, ◌∙◌}
use native.Mathlib.Omega.{arith}
use Rattle.table.specs.Sizes.{per_fact}
use Rattle.choices.specs.declared.Codes.{Codes}
use Rattle.choices.specs.Trying.{NextIn}
use Rattle.search.specs.Rows.{row_with}
use Rattle.search.proofs.RowLaws.{row_below, bare_below, passed, below_fits, below_more, below_end}
use Rattle.search.proofs.row.row_of_choice.Goals as goal
use Rattle.search.proofs.row.row_of_choice.Goals.{In-Some}

-- The code that the loop comes to is the next of the choice, and none was passed over.
next_of : (c : In-Some) → NextIn c.args.s c.loop-code.code-iterator.from c.in-Some.code
next_of c = subst (λ s. NextIn s c.loop-code.code-iterator.from c.in-Some.code) c.loop-code.invariant.0 c.in-Some.ensures.steps.0.1

at_code : (c : In-Some) → c.loop-code.row ≡ row_below c.args.f c.args.s c.in-Some.code
at_code c = c.loop-code.invariant.2 ∙ sym (passed c.args.f c.args.s c.loop-code.code-iterator.from c.in-Some.code c.loop-code.invariant.1 (next_of c))

pub loop-code-init : goal.loop-code-init
loop-code-init c =
    let start = c.into_iter-code-iterator.ensures.into_iter_gives ∙ c.codes-code-items.ensures in (
      ap (λ (it : Codes). it.set) start,
      omega (arith, ap (λ (it : Codes). it.from) start),
      bare_below c.args.f c.args.s _ refl ∙ sym (ap (λ (it : Codes). row_below c.args.f c.args.s it.from) start),
    )

pub push-requires : goal.push-requires
push-requires c =
    let here = (goal.at.push-requires c).In-Some in
    let below = c.in-Some.ensures.steps.0.0 in
    below_fits c.args.f c.args.s c.in-Some.code c.loop-code.row c.requires.s_len_bound below (at_code here) ((next_of here).present below)

pub loop-code-preserved : goal.loop-code-preserved
loop-code-preserved c =
    let here = (goal.at.loop-code-preserved c).In-Some in
    let below = c.in-Some.ensures.steps.0.0 in
    let chosen = (next_of here).present below in
    let same = c.in-Some.ensures.steps.1 in (
      ap (λ (it : Codes). it.set) same ∙ c.loop-code.invariant.0,
      omega (arith, ap (λ (it : Codes). it.from) same),
      below_more c.args.f c.args.s c.in-Some.code c.loop-code.row c.push.new.row (at_code here) chosen
          (below_fits c.args.f c.args.s c.in-Some.code c.loop-code.row c.requires.s_len_bound below (at_code here) chosen)
          (c.push.ensures ∙ ap (row_with c.loop-code.row) c.number_of.ensures)
          ∙ sym (ap (λ (it : Codes). row_below c.args.f c.args.s it.from) same),
    )

pub returns : goal.returns
returns c =
    let next : NextIn c.args.s c.loop-code.code-iterator.from per_fact = subst (λ s. NextIn s c.loop-code.code-iterator.from per_fact) c.loop-code.invariant.0 c.in-None.ensures.steps.0 in
    below_end c.args.f c.args.s per_fact c.loop-code.row refl
    (c.loop-code.invariant.2 ∙ sym (passed c.args.f c.args.s c.loop-code.code-iterator.from per_fact c.loop-code.invariant.1 next))
