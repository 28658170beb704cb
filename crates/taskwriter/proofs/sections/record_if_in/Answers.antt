-- `record_if_in` writes the record where the test holds, and nothing where it does not.
use Rattle.room.specs.Placing.{last_place}
use Rattle.taskwriter.proofs.PieceLaws.{piece_fits, piece_placed, piece_left_out}
use Rattle.taskwriter.proofs.sections.record_if_in.Goals as goal

pub put_word-requires : goal.put_word-requires
put_word-requires c =
    piece_fits _ c.contains.ensures _ _ last_place c.if-contains.true c.requires

pub returns-then-contains : goal.returns-then-contains
returns-then-contains c =
    piece_placed _ c.contains.ensures c.if-contains.true c.put_word.ensures

pub returns : goal.returns
returns c = piece_left_out _ c.contains.ensures _ _ _ c.if-contains.false
