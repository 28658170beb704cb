-- `search::Lent::shortest` makes some shortest list the first of them.
use Rattle.search.specs.Runs.{runs_of}
use Rattle.search.proofs.LeastLaws.{shortest_first}
use Rattle.search.proofs.Lent.shortest.Goals as goal

pub returns : goal.returns
returns c =
    let v = c.args.self.now in
    shortest_first v.col.now (runs_of v) c.in_ok-some.some c.first_of.result c.in_ok-some.ensures c.first_of.ensures
