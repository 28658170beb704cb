-- `put_field`: a space and the digits.
use Rattle.room.proofs.PlacingLaws.{placed_more}
use Rattle.text.proofs.fields.put_field.Goals as goal

pub returns : goal.returns
returns c =
    placed_more c.put-next.ensures c.put_digits.ensures
