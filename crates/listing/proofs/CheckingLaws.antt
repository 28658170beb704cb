-- The checks of the runs made one after another: the invariant of that loop. Assumes nothing.
use mathlib.Core.List.{List}
use mathlib.Core.Path.{◌≡◌, ◌∙◌}
use Prim.Native.Nat.{ℕ, ◌+◌, ◌<◌, ◌≤◌}
use native.Mathlib.Omega.{arith}
use borrow.Author.Count.{below_more}
use lib.ListN.{length, set, replicate, length-set}
use lib.Seq.{get_or-set_same, get_or-set_other}
use Rattle.runcheck.specs.OpenNeeds.{open_needs, checked}
use Rattle.runcheck.specs.declared.Checked.{Checked}
use Rattle.table.specs.Sizes.{max_runs}
use Rattle.table.specs.declared.Task.{Task}
use Rattle.text.specs.Text.{check_in}
use Rattle.listing.specs.Listing.{ChecksRuns}

-- The runs before this one are checked.
pub record Checking (t : Task) (checks : List Checked) (run : ℕ) : Type 0 where
  pub inside : run ≤ max_runs
  pub whole : length checks ≡ max_runs
  pub so_far : (k : ℕ) → k < run → check_in checks k ≡ checked t k

pub checking_first : (t : Task) (c : Checked) → c ≡ checked t 0 → Checking t (replicate max_runs c) 1
checking_first t c e = record {
  inside = omega arith;
  whole = omega arith;
  so_far = below_more (λ k. check_in (replicate max_runs c) k ≡ checked t k) 0 (λ k below. absurd (omega arith)) e;
}

module _ {t : Task} {checks : List Checked} {run : ℕ} (g : Checking t checks run) where
  pub checking_more : (c : Checked) → run < max_runs → c ≡ checked t run → Checking t (set checks run c) (run + 1)
  checking_more c h e = record {
    inside = omega arith;
    whole = length-set checks run c ∙ g.whole;
    so_far =
        below_more (λ k. check_in (set checks run c) k ≡ checked t k) run
        (λ k below. get_or-set_other checks run k c (open_needs 0 0 0) (λ same. omega arith) ∙ g.so_far k below)
        (get_or-set_same checks run c (open_needs 0 0 0) (omega (arith, g.whole)) ∙ e);
  }

  pub checking_all : t.runs.many ≤ run → ChecksRuns t checks
  checking_all h k below = g.so_far k (omega arith)
