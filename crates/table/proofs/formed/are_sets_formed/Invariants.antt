-- `table::formed::are_sets_formed` meets its contract: before place a one join says of every action below a that its sets are within n, and
-- the other that each of its locks is on a need. Assumes nothing.
use mathlib.Core.Path.{◌≡◌}
use lib.Dec.{eqb}
use Rattle.facts.specs.Sets.{within}
use Rattle.table.specs.Counting.{every_below, every_from}
use Rattle.table.specs.Passes.{sets_within}
use Rattle.table.specs.Tasks.{locks_formed}
use Rattle.table.proofs.formed.are_sets_formed.Given as goal

abbrev pub invariant-loop-a : goal.invariant-loop-a
invariant-loop-a l =
    (within l.every l.n ≡ every_from (sets_within l.needs l.adds l.deletes l.n) 0 l.a) × (eqb l.stray 0 ≡ every_below (locks_formed l.needs l.locks) l.a)
