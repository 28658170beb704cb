-- `Cursor::read_actions`: the loop keeps that what is left of the actions is walked from where it is, with the sets so far.
use mathlib.Core.Path.{◌≡◌}
use Rattle.pddlreader.specs.Cursors.{walk_from}
use Rattle.pddlreader.proofs.ActionLaws.{actions_left, Sized}
use Rattle.pddlreader.proofs.cursor.Cursor.read_actions.Given as goal

abbrev pub invariant-loop-action : goal.invariant-loop-action
invariant-loop-action l =
    (walk_from (actions_left l.limit l.facts 1 l.initial.table.needs l.initial.table.adds l.initial.table.deletes) l.s l.initial.self ≡
    walk_from (actions_left l.limit l.facts l.action l.table.needs l.table.adds l.table.deletes) l.s l.self)
    × Sized l.limit l.facts l.action l.table
