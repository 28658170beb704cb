-- What listing an input into lent room gives, for any bytes and any room: document 01, "The listing"; 02, request 1.
use Rattle.std.specs.Prelude.{List, ◌≡◌, ℕ, ◌<◌, replicate}
use Rattle.table.specs.Sizes.{max_limit}
use Rattle.runcheck.specs.OpenNeeds.{checked}
use Rattle.runcheck.specs.declared.Checked.{Checked}
use Rattle.solve.specs.Solving.{Solves}
use Rattle.table.specs.Outcomes.{Outcome, given}
use Rattle.taskformat.specs.Reading.{ReadsFile}
use Rattle.table.specs.declared.Task.{Task}
use Rattle.table.specs.declared.TaskReply.{TaskReply}
use Rattle.text.specs.Text.{check_in, text_of}

-- Room for the longest answer there can be.
abbrev pub answer_room : List ℕ
answer_room = replicate max_limit 0

-- Of each run what its check gives.
abbrev pub ChecksRuns : Task → List Checked → Type 0
ChecksRuns t checks = (run : ℕ) → run < t.runs.many → check_in checks run ≡ checked t run

-- The text is that of what reading the input, checking its runs and solving it give.
pub record Lists (input text : List ℕ) : Type 0 where
  pub read : TaskReply
  pub reads : ReadsFile input read
  pub solved : Outcome
  pub solves : Solves read.task answer_room solved
  pub text_is : text ≡ text_of read (checked read.task) solved

-- The text given into lent room.
pub record ListsInto (input room : List ℕ) (o : Outcome) : Type 0 where
  pub text : List ℕ
  pub lists : Lists input text
  pub outcome : o ≡ given text room
