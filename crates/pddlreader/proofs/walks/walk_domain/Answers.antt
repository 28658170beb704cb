-- `walk_domain`: its parts, one after another.
use mathlib.Core.Path.{refl}
use Rattle.pddlreader.proofs.TextLaws.{domain_parts}
use Rattle.pddlreader.proofs.walks.walk_domain.Goals as goal

pub returns : goal.returns
returns c =
    let counted = c.read_count-facts in
    let read = c.read_actions-table in
    domain_parts c.args.limit c.args.text.now (record { cursor = counted.new.self; facts = counted.result })
    (record { cursor = read.new.self; table = read.result }) c.expect.ensures c.takes_line.ensures refl counted.ensures c.expect-2.ensures
    read.ensures c.expect-3.ensures
