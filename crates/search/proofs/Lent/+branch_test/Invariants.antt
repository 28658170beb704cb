-- The cycle of calls of `search::Lent::test` and `branch`: `branch` at left calls `test` at left - 1, and `test` calls
-- `branch` at the same left, so the measures are 2 left for `branch` and 2 left + 1 for `test`.
-- The loop's invariant: what was out before and the repairs tried so far are out, and no list has one of these.
use mathlib.Core.Path.{◌≡◌}
use Prim.Native.Nat.{◌+◌, ◌*◌, ◌≤◌}
use lib.ListN.{length}
use Rattle.table.specs.Sizes.{per_fact}
use Rattle.choices.specs.Choices.{list_of}
use Rattle.search.specs.Runs.{runs_of}
use Rattle.search.proofs.SearchLaws.{OutAt}
use Rattle.search.proofs.Lent.+branch_test.Given as goal

abbrev pub decreases-branch : goal.decreases-branch
decreases-branch l = 2 * l.left

abbrev pub decreases-test : goal.decreases-test
decreases-test l = 2 * l.left + 1

abbrev pub invariant-branch-loop-code : goal.invariant-branch-loop-code
invariant-branch-loop-code l =
    (l.code-iterator.set ≡ l.initial.code-iterator.set) × (l.code-iterator.from ≤ per_fact)
    × OutAt l.self.col.now (runs_of l.self) l.s l.initial.out l.want l.initial.code-iterator.set (length (list_of l.self.col.now.fact l.s) + l.left) l.code-iterator.from l.out
