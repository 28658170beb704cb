-- `named` puts the lead, the name and the tail into an array's first places.
use native.Mathlib.Omega.{arith}
use lib.ListN.{length-append}
use borrow.Author.Rules.{rules}
use Rattle.room.proofs.PlacingLaws.{placed_more}
use Rattle.pddlwords.proofs.WordLaws.{name_most, spelled}
use Rattle.pddlwords.proofs.named.Goals as goal

pub put_word-next-requires-2 : goal.put_word-next-requires-2
put_word-next-requires-2 c =
    omega (arith, c.requires, name_most c.args.n)

pub invariant_of-result : goal.invariant_of-result
invariant_of-result c =
    omega (arith, c.requires, name_most c.args.n, c.put_word-next.ensures.next_is, c.put_name-next.ensures.next_is, c.put_word-next-2.ensures.next_is)

pub returns : goal.returns
returns c =
    spelled (search rules) (simp length-append (omega (arith, c.requires, name_most c.args.n)))
    (placed_more (placed_more c.put_word-next.ensures c.put_name-next.ensures) c.put_word-next-2.ensures)
