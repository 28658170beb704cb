-- `choices::Choice::below` has, of each kind, the actions whose codes are below.
use mathlib.Core.Path.{◌≡◌, ap, ◌∙◌}
use Prim.Native.Nat.{◌*◌, ◌-◌}
use Rattle.facts.specs.Sets.{below}
use Rattle.table.specs.Sizes.{per_kind}
use Rattle.table.proofs.RepairNumbers.{kind_cases}
use Rattle.choices.specs.Trying.{mask_in}
use Rattle.choices.proofs.MaskLaws.{masks_below}
use Rattle.choices.proofs.Choice.below.Goals as goal

pub returns : goal.returns
returns c =
    let n = c.args.code in
    masks_below n _
    (kind_cases (λ k. mask_in k _ ≡ below (n - per_kind * k)) (c.below_mask.ensures ∙ ap below c.passed-deletes.ensures)
    (c.below_mask-2.ensures ∙ ap below c.passed-adds.ensures) (c.below_mask-3.ensures ∙ ap below c.passed-needs.ensures))
