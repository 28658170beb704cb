-- `gather`: one text after another. Assumes nothing.
use Rattle.std.proofs.Common.{◌-◌, length}
use Rattle.std.specs.Prelude.{Result}
use Rattle.table.specs.declared.refusals.Refusal.{Refusal}
use Rattle.frompddl.specs.Gathering.{Gathers}
use Rattle.frompddl.specs.declared.gather.Gathered.{Gathered}
use Rattle.frompddl.proofs.gather.gather.Given as goal

abbrev pub invariant-loop-beside : goal.invariant-loop-beside
invariant-loop-beside l = (r : Result Gathered Refusal) → Gathers l.s l.beside r l.at l.texts l.task → Gathers l.s l.beside r l.from 0 l.initial.task

abbrev pub decreases-loop-beside : goal.decreases-loop-beside
decreases-loop-beside l = length l.s - l.at
