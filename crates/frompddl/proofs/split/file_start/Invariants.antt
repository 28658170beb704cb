-- `file_start`: one text after another. Assumes nothing.
use Rattle.std.proofs.Common.{ℕ, ◌-◌, length}
use Rattle.frompddl.specs.Splitting.{text_end, TextsEnd}
use Rattle.frompddl.proofs.split.file_start.Given as goal

abbrev pub invariant-loop-at : goal.invariant-loop-at
invariant-loop-at l = (end : ℕ) → TextsEnd l.s end l.at → TextsEnd l.s end (text_end l.s 0)

abbrev pub decreases-loop-at : goal.decreases-loop-at
decreases-loop-at l = length l.s - l.at
