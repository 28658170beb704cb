-- `Cursor::read_action`: its parts, one after another.
use Rattle.pddlreader.proofs.ActionLaws.{action_read}
use Rattle.pddlreader.proofs.cursor.Cursor.read_action.Goals as goal

pub returns : goal.returns
returns c =
    let a = c.args in
    let needs = c.read_set-needs in
    let adds = c.read_set-adds in
    let deletes = c.read_set-deletes in
    action_read a.facts a.s.now a.self.now (record { cursor = needs.new.self; set = needs.result })
    (record { cursor = adds.new.self; set = adds.result }) (record { cursor = deletes.new.self; set = deletes.result })
    needs.ensures c.expect.ensures adds.ensures deletes.ensures c.expect-2.ensures
