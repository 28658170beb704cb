-- `taskfile::read` meets its contract. The loop keeps that what is read from its place on is what reading the file gives, and that there are
-- no more runs than there may be; the bytes that are left fall. Assumes nothing.
use Prim.Native.Nat.{◌-◌, ◌≤◌}
use lib.ListN.{length}
use Rattle.table.specs.Sizes.{max_runs}
use Rattle.table.specs.declared.TaskReply.{TaskReply}
use Rattle.taskformat.specs.Reading.{Reads, ReadsFile}
use Rattle.records.specs.Records.{seen_of}
use Rattle.taskfile.proofs.read.Given as goal

abbrev pub invariant-loop-parts : goal.invariant-loop-parts
invariant-loop-parts l = record {
  reads : (r : TaskReply) → Reads l.s r l.at (seen_of l.seen) → ReadsFile l.s r;
  many : l.seen.task.runs.many ≤ max_runs;
}

abbrev pub decreases-loop-parts : goal.decreases-loop-parts
decreases-loop-parts l = length l.s - l.at
