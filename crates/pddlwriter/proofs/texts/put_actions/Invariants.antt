-- `put_actions`: one action after another.
use lib.ListN.{get_or}
use Rattle.room.proofs.Gathering.{Gathering}
use Rattle.pddl.specs.Texts.{action_text}
use Rattle.pddlwriter.proofs.texts.put_actions.Given as goal

abbrev pub invariant-loop-action : goal.invariant-loop-action
invariant-loop-action l =
    Gathering (λ a. action_text l.fn.task.table.facts a (get_or l.fn.task.table.needs a 0) (get_or l.fn.task.table.adds a 0) (get_or l.fn.task.table.deletes a 0)) l.fn.task.table.actions
    l.initial.room l.room l.at l.next l.action
