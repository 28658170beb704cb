use borrow.Author.Rules.{rules}
use Rattle.text.specs.Text.{repair_line}
use Rattle.text.proofs.EachLaws.{each_gathered}
use Rattle.room.proofs.Gathering.{begun, next_fits, one_more, all_placed}
use Rattle.text.proofs.lines.repair_lines.Goals as goal

pub loop-number-init : goal.loop-number-init
loop-number-init c =
    begun _ _ _ _ (rw (each_gathered repair_line c.args.list.now) c.requires)

pub repair_line-next-requires : goal.repair_line-next-requires
repair_line-next-requires c = rw c.from.ensures (next_fits c.loop-number.invariant (search rules))

pub loop-number-preserved : goal.loop-number-preserved
loop-number-preserved c =
    one_more c.loop-number.invariant (search rules) (rw c.from.ensures at c.repair_line-next.ensures)

pub returns : goal.returns
returns c =
    rw (each_gathered repair_line c.args.list.now) at (all_placed c.loop-number.invariant (search rules))
