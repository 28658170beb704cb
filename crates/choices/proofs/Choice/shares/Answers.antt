-- `choices::Choice::shares` looks for the first repair that both have.
use Rattle.choices.proofs.ChoiceLaws.{sharing_first}
use Rattle.choices.proofs.Choice.shares.Goals as goal

pub returns : goal.returns
returns c =
    let a = c.args in
    rw c.is_some.ensures (sharing_first a.self a.other c.shared.result c.next_in.result c.shared.ensures c.next_in.ensures)
