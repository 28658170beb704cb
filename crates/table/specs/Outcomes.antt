-- What a call that writes into lent room gives: its reply, and what the room holds afterwards. Document 01, "Refusal
-- numbers".
use Rattle.std.specs.Prelude.{Result, Ok, Err, cond, List, ◌++◌, ℕ, ltb, length, drop}
use Rattle.table.specs.Refusals as refusals
use Rattle.table.specs.Refusals.{accepted, room_too_short, number_of}
use Rattle.table.specs.Tasks.{no_task}
use Rattle.table.specs.declared.Task.{Task}
use Rattle.table.specs.declared.TaskReply.{TaskReply}
use Rattle.table.specs.declared.refusals.Why.{Why}
use Rattle.table.specs.declared.refusals.Refusal.{Refusal}
use Rattle.table.specs.declared.refusals.Returned.{Returned}
use Rattle.table.specs.declared.Reply.{Reply}

-- An answer in 01's numbers: "Success has number 0 and place 0" and the length of what is written; a refusal its number and its place.
abbrev pub reply_of : Result ℕ Refusal → Reply
reply_of (Ok n) = record { number = accepted; place = 0; length = n }
reply_of (Err e) = record { number = number_of e.why; place = e.place; length = 0 }

-- The same of a call that gives a task: "any other refused call returns zeros (a read: a task of zeros)".
abbrev pub read_of : Result Task Refusal → TaskReply
read_of (Ok t) = record { number = accepted; place = 0; task = t }
read_of (Err e) = record { number = number_of e.why; place = e.place; task = no_task }

-- "A refused edit or a refused applying of a list returns the task it was given."
abbrev pub made_of : Result Task Returned → TaskReply
made_of (Ok t) = record { number = accepted; place = 0; task = t }
made_of (Err e) = record { number = number_of e.refusal.why; place = e.refusal.place; task = e.task }

-- The same of a test that only refuses: 0 where it lets pass.
abbrev pub number_told : Result (Unit {0}) Why → ℕ
number_told (Ok _) = accepted
number_told (Err e) = number_of e

abbrev pub fault_told : Result (Unit {0}) Refusal → refusals.Refusal
fault_told (Ok _) = refusals.none
fault_told (Err e) = record { number = number_of e.why; place = e.place }

pub record Outcome : Type 0 where
  pub reply : Reply
  pub room : List ℕ

-- "Beside its number and place .. any other refused call returns zeros": a refusal at place 0.
abbrev pub refusal : ℕ → Reply
refusal n = record { number = n; place = 0; length = 0 }

-- "Refusals write nothing."
abbrev pub refused : ℕ → List ℕ → Outcome
refused n room = record { reply = refusal n; room = room }

-- "Success has number 0 and place 0, and writes the result's places from the first on .. and nothing beside."
abbrev pub answered : List ℕ → List ℕ → Outcome
answered l room = record {
  reply = record { number = accepted; place = 0; length = length l };
  room = l ++ drop (length l) room;
}

-- 11: "lent room is shorter than the result".
unfoldable pub given : List ℕ → List ℕ → Outcome
given l room = cond {A = Outcome} (ltb (length room) (length l)) (refused room_too_short room) (answered l room)
