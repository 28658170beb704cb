-- `choices::count_actions` counts the ones below the edge of a kind.
use Rattle.choices.proofs.MaskLaws.{count_actions}
use Rattle.choices.proofs.count_actions.Goals as goal

pub returns : goal.returns
returns c =
    rw (c.count.ensures, c.overlap.ensures, c.below_mask.ensures)
    (count_actions c.args.m c.ranges.m.fits)
