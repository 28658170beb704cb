-- The task that the texts and the task file behind them say together (02, request 4; docs/PDDL.md, "The programs").
use Rattle.std.specs.Prelude.{Result, Ok, Err, cond, ◌&&◌, List, ◌++◌, ◌≡◌, ℕ, ◌+◌, eqb, length, drop}
use Rattle.pddl.specs.Readings.{ReadsDomain}
use Rattle.table.specs.Outcomes.{read_of}
use Rattle.table.specs.Refusals.{not_well_formed, number_of}
use Rattle.table.specs.declared.Task.{Task}
use Rattle.table.specs.declared.TaskReply.{TaskReply}
use Rattle.table.specs.declared.refusals.Refusal.{Refusal}
use Rattle.taskformat.specs.Format.{file_of}
use Rattle.taskformat.specs.Reading.{ReadsFile, accepted_read, refused_read}
use Rattle.frompddl.specs.Gathering.{Gathers}
use Rattle.frompddl.specs.Splitting.{text_end, text_at, TextsEnd}
use Rattle.frompddl.specs.declared.gather.Gathered.{Gathered}

-- What stands beside the texts: the task of the file, or zeros.
abbrev pub beside_of : Result Task Refusal → Task
beside_of file = (read_of file).task

-- What the texts come to: the problem texts, from the place behind that of the domain, are put to its task. Where it is refused, none is read.
abbrev pub TextsCome : List ℕ → Task → ℕ → Result Task Refusal → Result Gathered Refusal → Type 0
TextsCome s beside first (Ok t) runs = Gathers s beside runs first 0 t
TextsCome s beside first (Err e) runs = runs ≡ Err e

-- The refusals in the order of the input: of the texts, then of the task file, which begins at `start`. Then 12, if there is not one problem
-- for each run of the task file, or if one could not be put to the task.
abbrev pub answer_of : Result Gathered Refusal → Result Task Refusal → ℕ → TaskReply
answer_of (Err e) file start = refused_read (number_of e.why) e.place
answer_of (Ok runs) (Err e) start = refused_read (number_of e.why) (start + e.place)
answer_of (Ok runs) (Ok t) start =
    cond {A = TaskReply} (eqb runs.texts t.runs.many && eqb runs.task.runs.many t.runs.many)
    (accepted_read runs.task)
    (refused_read not_well_formed 0)

-- r is what the input comes to. The domain text stands first, and the task file behind the last text; the limit is that of the task file. Its
-- locks are not taken (02, request 6).
pub record PutsTogether (s : List ℕ) (r : TaskReply) : Type 0 where
  pub start : ℕ
  pub behind : TextsEnd s start (text_end s 0)
  pub file : Result Task Refusal
  pub file_read : ReadsFile (drop start s) (read_of file)
  pub domain : Result Task Refusal
  pub domain_read : ReadsDomain (text_at s 0) (beside_of file).table.limit (read_of domain)
  pub runs : Result Gathered Refusal
  pub come : TextsCome s (beside_of file) (text_end s 0) domain runs
  pub answer : r ≡ answer_of runs file start

-- The first n bytes of the room are the task's file, and nothing beside is written.
pub record HoldsFile (t : Task) (room : List ℕ) (n : ℕ) (after : List ℕ) : Type 0 where
  pub length_is : n ≡ length (file_of t)
  pub room_is : after ≡ file_of t ++ drop n room
