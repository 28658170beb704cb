use mathlib.Core.Path.{refl, ◌∙◌}
use Rattle.pddlreader.proofs.ActionLaws.{same_table, first_read, next_read, no_more, all_read}
use Rattle.pddlreader.proofs.cursor.Cursor.read_actions.Goals as goal

pub loop-action-init : goal.loop-action-init
loop-action-init c = (refl, (refl, refl, refl, refl))

pub returns-then-not-takes_head : goal.returns-then-not-takes_head
returns-then-not-takes_head c =
    let a = c.args in
    let r = c.read_action-first in
    let l = c.loop-action in
    first_read a.limit a.facts a.s.now a.self.now
    (record { cursor = r.new.self; needs = r.result.needs; adds = r.result.adds; deletes = r.result.deletes }) c.takes_head-self.ensures refl r.ensures ∙
    l.invariant.0 ∙
    no_more a.limit a.facts a.s.now l.action l.table.needs l.table.adds l.table.deletes l.self c.loop-action-test.true
    c.takes_head.ensures c.if-not-takes_head.true ∙
    same_table a.s.now c.takes_head.new.self l.table l.invariant.1

pub loop-action-preserved : goal.loop-action-preserved
loop-action-preserved c =
    let a = c.args in
    let r = c.read_action-next in
    let l = c.loop-action in (
      l.invariant.0 ∙
          next_read a.limit a.facts a.s.now l.action l.table.needs l.table.adds l.table.deletes l.self c.loop-action-test.true
          c.takes_head.ensures c.if-not-takes_head.false
          (record { cursor = r.new.self; needs = r.result.needs; adds = r.result.adds; deletes = r.result.deletes }) r.ensures,
      (l.invariant.1.0, l.invariant.1.1, refl, l.invariant.1.3),
    )

pub returns : goal.returns
returns c =
    let a = c.args in
    let r = c.read_action-first in
    let l = c.loop-action in
    first_read a.limit a.facts a.s.now a.self.now
    (record { cursor = r.new.self; needs = r.result.needs; adds = r.result.adds; deletes = r.result.deletes }) c.takes_head-self.ensures refl r.ensures ∙
    l.invariant.0 ∙ all_read a.limit a.facts a.s.now l.action l.table.needs l.table.adds l.table.deletes l.self c.loop-action-test.false ∙
    same_table a.s.now l.self l.table l.invariant.1
