-- `table::formed::are_within` meets its contract: before place a the join says of every action from `from` on and below a that its sets are
-- within n. Assumes nothing.
use mathlib.Core.Path.{◌≡◌}
use Rattle.facts.specs.Sets.{within}
use Rattle.table.specs.Counting.{every_from}
use Rattle.table.specs.Passes.{sets_within}
use Rattle.table.proofs.formed.are_within.Given as goal

abbrev pub invariant-loop-a : goal.invariant-loop-a
invariant-loop-a l = within l.every l.n ≡ every_from (sets_within l.needs l.adds l.deletes l.n) l.from l.a
