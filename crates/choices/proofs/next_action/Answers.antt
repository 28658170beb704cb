-- `choices::next_action` takes the lowest place of the set without those passed.
use Rattle.choices.proofs.MaskLaws.{next_lowest}
use Rattle.choices.proofs.next_action.Goals as goal

pub returns : goal.returns
returns c =
    rw (c.lowest.ensures, c.remove.ensures, c.below_mask.ensures)
    (next_lowest c.args.m c.args.skip c.ranges.m.fits)
