-- `search::Column::fullest` meets its contract. Assumes nothing.
use mathlib.Core.Path.{◌∙◌}
use Rattle.search.proofs.ViewLaws.{fullest_is}
use Rattle.search.proofs.Column.fullest.Goals as goal

pub returns : goal.returns
returns c =
    fullest_is c.args.self.now c.requires _
    (c.overlap.ensures ∙ rw c.below_mask-all.ensures) (c.remove.ensures ∙ rw c.below_mask-all.ensures)
    (c.overlap-2.ensures ∙ rw (c.below_mask-all.ensures, c.remove-2.ensures))
