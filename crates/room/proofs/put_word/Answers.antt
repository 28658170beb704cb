use native.Mathlib.Omega.{arith}
use borrow.Author.Rules.{rules}
use Rattle.room.proofs.Gathering.{begun, next_fits, one_more, all_placed, gather_itself}
use Rattle.room.proofs.put_word.Goals as goal

pub loop-byte-init : goal.loop-byte-init
loop-byte-init c = begun _ _ _ _ (rw (gather_itself c.args.word.now) c.requires)

pub put-next-requires : goal.put-next-requires
put-next-requires c = omega (arith, next_fits c.loop-byte.invariant (search rules))

pub loop-byte-preserved : goal.loop-byte-preserved
loop-byte-preserved c =
    one_more c.loop-byte.invariant (search rules) c.put-next.ensures

pub returns : goal.returns
returns c =
    rw (gather_itself c.args.word.now) at (all_placed c.loop-byte.invariant (search rules))
