-- `copy_counts` fills its room word by word.
use Rattle.std.proofs.Common.{◌≡◌, ℕ, ◌+◌, ◌<◌, length, get_or}
use Rattle.table.specs.Sizes.{max_runs}
use Rattle.taskwords.specs.Words.{counts_at}
use Rattle.taskwords.proofs.words.copy_counts.Given as goal

abbrev pub invariant-loop-i : goal.invariant-loop-i
invariant-loop-i l = record {
  whole : length l.counts ≡ max_runs;
  so_far : (k : ℕ) → k < l.i → get_or l.counts k 0 ≡ get_or l.words (counts_at + k) 0;
}
