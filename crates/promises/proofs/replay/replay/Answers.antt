-- `promises::replay::replay`: one edit more, and none left. Assumes nothing.
use mathlib.Core.Path.{◌∙◌}
use borrow.Author.Rules.{rules}
use Rattle.promises.proofs.Results.{task_left}
use Rattle.promises.proofs.ReplayLaws.{story_more, story_none}
use Rattle.promises.proofs.replay.replay.Goals as goal

pub loop-left-preserved : goal.loop-left-preserved
loop-left-preserved c = λ u end x.
    c.loop-left.invariant u end
    (story_more c.loop-left.left.now c.in-len4-up.len_at_least
    (c.edit_of-e.ensures ∙ rw (c.from.ensures, c.from-in-len4-up.ensures, c.from-in-len4-up-2.ensures, c.from-in-len4-up-3.ensures)) c.edit.ensures
    (task_left c.edit.result _ (λ e h. search rules) c.unwrap_or_else-task.ensures) x)

pub returns : goal.returns
returns c = c.loop-left.invariant c.loop-left.task c.loop-left.table (story_none c.loop-left.left.now c.in_default.len_below)
