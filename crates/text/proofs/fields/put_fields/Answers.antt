use borrow.Author.Rules.{rules}
use Rattle.text.specs.Text.{field}
use Rattle.text.proofs.EachLaws.{each_gathered}
use Rattle.room.proofs.Gathering.{begun, next_fits, one_more, all_placed}
use Rattle.text.proofs.fields.put_fields.Goals as goal

pub loop-n-init : goal.loop-n-init
loop-n-init c =
    begun _ _ _ _ (rw (each_gathered field c.args.numbers.now) c.requires)

pub put_field-next-requires : goal.put_field-next-requires
put_field-next-requires c = next_fits c.loop-n.invariant (search rules)

pub loop-n-preserved : goal.loop-n-preserved
loop-n-preserved c =
    one_more c.loop-n.invariant (search rules) c.put_field-next.ensures

pub returns : goal.returns
returns c =
    rw (each_gathered field c.args.numbers.now) at (all_placed c.loop-n.invariant (search rules))
