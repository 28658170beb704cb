-- The repaired table of a file: what reading it, solving it and applying the list give. 02, request 4; document 01, "The model and its run".
use Rattle.std.specs.Prelude.{List, ◌≡◌, ℕ, ◌≤◌, length, take}
use Rattle.apply.specs.Applying.{AppliedTo, Applies}
use Rattle.listing.specs.Listing.{answer_room}
use Rattle.solve.specs.Solving.{Solves}
use Rattle.table.specs.Answer.{First}
use Rattle.table.specs.Outcomes.{Outcome}
use Rattle.table.specs.Refusals.{accepted}
use Rattle.table.specs.Strips.{AllValid}
use Rattle.table.specs.Tasks.{cells_of, courses_of, WorksFor, WellFormed}
use Rattle.table.specs.declared.Task.{Task}
use Rattle.table.specs.declared.TaskReply.{TaskReply}
use Rattle.taskformat.specs.Format.{file_of}
use Rattle.taskformat.specs.Reading.{ReadsFile}

-- The list that a solve gave.
abbrev pub list_in : Outcome → List ℕ
list_in o = take o.reply.length o.room

-- r is what the input comes to.
pub data Repairs (input : List ℕ) (r : TaskReply) : Type 0 where
  -- the file is refused
  unread : ReadsFile input r → (r.number ≡ accepted → ⊥) → Repairs input r
  -- it is read, and its solve is refused
  unsolved : (read : TaskReply) (o : Outcome) → ReadsFile input read → read.number ≡ accepted → Solves read.task answer_room o
      → (o.reply.number ≡ accepted → ⊥) → r ≡ record { number = o.reply.number; place = o.reply.place; task = read.task } → Repairs input r
  -- it is solved, and the list is applied, which is never refused
  solved : (read : TaskReply) (o : Outcome) → ReadsFile input read → read.number ≡ accepted → Solves read.task answer_room o
      → o.reply.number ≡ accepted → Applies read.task (list_in o) r → r.number ≡ accepted → Repairs input r

-- u is the repaired table and its runs: the input is the file of a task, and u that task with its answer applied. So u is well formed, and
-- every run is valid in it. (That this is so where the input comes to a task is proved: proofs/RepairedLaws.)
pub record Repaired (input : List ℕ) (u : Task) : Type 0 where
  pub task : Task
  pub file : input ≡ file_of task
  pub list : List ℕ
  pub answer : First (WorksFor task) list
  pub within : length list ≤ task.table.limit
  pub applied : AppliedTo task list u
  pub well : WellFormed u
  pub valid : AllValid (cells_of u.table) (courses_of u)
