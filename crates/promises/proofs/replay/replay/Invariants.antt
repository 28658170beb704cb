-- `promises::replay::replay` meets its contract: after each turn a story of the edits that are left is a story of all of them. Assumes nothing.
use Rattle.std.proofs.Common.{List, ℕ, length}
use Rattle.session.specs.Calls.{Story}
use Rattle.table.specs.declared.Task.{Task}
use Rattle.promises.specs.Replays.{edits_in}
use Rattle.promises.proofs.replay.replay.Given as goal

abbrev pub invariant-loop-left : goal.invariant-loop-left
invariant-loop-left l =
    (u : Task) (end : List ℕ) → Story l.task l.table (edits_in l.left) u end → Story l.fn.t l.fn.table (edits_in l.edits) u end

abbrev pub decreases-loop-left : goal.decreases-loop-left
decreases-loop-left l = length l.left
