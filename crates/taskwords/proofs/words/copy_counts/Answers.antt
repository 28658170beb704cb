use mathlib.Core.Path.{sym, ◌∙◌}
use Prim.Native.Nat.{◌+◌, ◌≤◌, ◌<◌}
use native.Mathlib.Omega.{arith}
use lib.ListN.{length}
use lib.Seq.{ext_get_or}
use Rattle.table.specs.Sizes.{max_runs}
use Rattle.taskwords.specs.Words.{of_runs_at, counts_at}
use Rattle.taskwords.proofs.PartLaws.{part_length, part_at}
use Rattle.taskwords.proofs.words.copy_counts.Goals as goal

pub returns : goal.returns
returns c =
    let ws = c.args.words.now in
    let room : counts_at + max_runs ≤ length ws = omega (arith, c.requires) in
    let whole = c.loop-i.invariant.whole in
    ext_get_or 0 c.loop-i.counts (of_runs_at ws counts_at) (whole ∙ sym (part_length ws counts_at max_runs room))
    (λ k below. let inside : k < max_runs = omega (arith, whole) in c.loop-i.invariant.so_far k (omega arith) ∙ sym (part_at ws counts_at max_runs room k inside))
