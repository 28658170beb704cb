-- The user's three demands as three theorems. Open this file first: each demand is a record whose fields are the parts of the user's
-- sentence, said of the calls themselves. `SolveGives t room o` says that a call of `solve` with the task t and this room gave o, and that the
-- contract above the function allows it; nothing else is known of it. So for every call (each crate's proofs/Called); the numbers are 01's and 02's.
-- Assumes nothing.
--
-- What is not here, because the check of each crate proves it of each function: the function ends, is safe, and gives a result that its
-- contract allows, on every input that it asks for. That it asks for nothing: `AsksNothing` below. That its contract allows one result only:
-- Unique.
use mathlib.Core.Bool.{Bool, true, false, not, true≢false}
use mathlib.Core.List.{List, [], ◌∷◌}
use mathlib.Core.Logic.{◌↔◌}
use mathlib.Core.Path.{◌≡◌, refl, sym, ap, ◌∙◌}
use Prim.Native.Nat.{ℕ, ◌<◌, ◌≤◌}
use native.Mathlib.Omega.{arith}
use lib.ListN.{length, take}
use Rattle.apply.proofs.ApplyLaws.{applies_unformed, applies_unique}
use Rattle.apply.proofs.Called.{ApplyGives, apply_gives, apply_asks_nothing}
use Rattle.apply.proofs.apply.Reads as apply
use Rattle.apply.specs.Applying.{first_wrong}
use Rattle.change.proofs.EditLaws.{edited_well, edited_unformed}
use Rattle.change.specs.Editing.{cell_inside, leaves_lock, EditedTo}
use Rattle.table.specs.declared.TaskReply.{TaskReply}
use Rattle.change.specs.declared.Edit.{Edit}
use Rattle.facts.proofs.Laws.{has_empty}
use Rattle.facts.specs.Sets.{has}
use Rattle.listing.proofs.Called.{ListingGives, listing_gives, listing_asks_nothing}
use Rattle.listing.proofs.CutLaws.{listing_cut}
use Rattle.listing.proofs.Determined.{listing_unique}
use Rattle.listing.proofs.listing.Reads as listing
use Rattle.runcheck.proofs.Called.{CheckGives, check_gives, check_asks_nothing}
use Rattle.runcheck.proofs.check_run.Reads as check
use Rattle.runcheck.proofs.RuleLaws.{old_ruled, new_ruled, zero_same, report_same}
use Rattle.runcheck.proofs.StateLaws.{checked_report}
use Rattle.runcheck.proofs.Valid.{valid_zero, zero_valid, checked_zero_valid, valid_checked_zero}
use Rattle.runcheck.specs.OpenNeeds.{total_open, open_report, refused_check, controller_at}
use Rattle.runcheck.specs.declared.Checked.{Checked}
use Rattle.session.proofs.CallLaws.{made_unique, open_malformed, open_not_a_session, edit_malformed, edit_not_a_session, edit_outside, edit_locked, listed_malformed, listed_not_a_session}
use Rattle.session.proofs.Called.{OpenGives, open_gives, open_asks_nothing, EditGives, edit_gives, edit_asks_nothing, ListGives, list_gives, list_asks_nothing}
use Rattle.session.proofs.StoryLaws.{opening_accepts, story_ends, ends_solved}
use Rattle.session.proofs.edit.Reads as edit
use Rattle.session.proofs.list.Reads as list
use Rattle.session.proofs.open.Reads as opening
use Rattle.session.specs.Calls.{Story, told_all, then, Made}
use Rattle.session.specs.Sessions.{in_form}
use Rattle.solve.proofs.Called.{SolveGives, solve_gives, solve_asks_nothing}
use Rattle.rows.proofs.TableLaws.{stored_limit, stored_unique}
use Rattle.solve.proofs.solve.Reads as solve
use Rattle.solve.proofs.Hopeless.{nine_stuck, stuck_nine, nine_fullest, fullest_nine}
use Rattle.solve.specs.Stuck.{fullest, Stuck}
use Rattle.rows.specs.Tables.{row_at}
use Rattle.table.proofs.Called.{FormedGives, formed_gives, formed_asks_nothing}
use Rattle.table.proofs.FlagLaws.{and_both, by_order}
use Rattle.table.proofs.Formation.{well_formed, locks_unused}
use Rattle.table.proofs.JoinLaws.{formed_inside}
use Rattle.table.proofs.LockLaws.{locked_out, locked_stands}
use Rattle.table.proofs.PublishedLaws.{published_first, published_within}
use Rattle.table.proofs.formed.is_formed.Reads as is_formed_lem
use Rattle.table.specs.Answer.{Permitted, First, Verdict, Within}
use Rattle.table.specs.Asks.{AsksNothing}
use Rattle.table.specs.Order.{is_in, NotAfter}
use Rattle.table.specs.Outcomes.{Outcome, refused, answered}
use Rattle.table.specs.Published.{WorksPublished}
use Rattle.table.specs.Repairs.{drop_need, number_of, repaired}
use Rattle.table.specs.Sizes.{max_facts, max_actions}
use Rattle.table.specs.Strips.{Cells, Course, state_at, Valid, AllValid}
use Rattle.table.specs.Tasks.{cells_of, course_of, courses_of, WorksFor, formed, WellFormed, with_limit}
use Rattle.table.specs.declared.Reply.{Reply}
use Rattle.table.specs.declared.Task.{Task}
use Rattle.records.proofs.Called.{record_asks_nothing, body_asks_nothing}
use Rattle.taskfile.proofs.Called.{ReadGives, read_gives, read_asks_nothing}
use Rattle.taskformat.proofs.FilesAreTasks.{accepted_read_lem, one_task, cut_decides}
use Rattle.taskformat.proofs.Unique.{reads_unique}
use Rattle.taskfile.proofs.read.Reads as read
use Rattle.records.proofs.record.body_at.Reads as body_at
use Rattle.records.proofs.record.record_at.Reads as record-at
use Rattle.taskformat.specs.Format.{file_of}
use Rattle.taskformat.specs.Reading.{accepted_read}
use Rattle.taskwriter.proofs.Called.{WriteGives, write_gives, write_asks_nothing}
use Rattle.taskwriter.proofs.WritingLaws.{written_unformed, written_file}
use Rattle.taskwriter.proofs.write.Reads as write
use Rattle.promises.proofs.FileLaws.{read_is_exact, reads_back, writes_back}
use Rattle.promises.proofs.BadInputLaws.{BadFile, bad_file, check_malformed, check_outside, bad_list, open_refused, edit_refused, write_fair, solve_fair, list_fair, listing_fair}
use Rattle.promises.proofs.InterlockLaws.{EachPermitted, listed_permitted, applied_permitted}
use Rattle.promises.proofs.SolvedLaws.{least_length, least_first, accepted_answer, wrote_answer, over_exactly, hopeless_exactly, short_exactly, works_cures}

-- A call is refused: its number is not 0.
abbrev pub Refused : ℕ → Type 0
Refused number = number ≡ 0 → ⊥

-- ---- demand 1

-- "Every call ends and is defined on every input": no public call asks anything of its caller.
pub record AllDefined : Type 0 where
  pub formed_asks : AsksNothing is_formed_lem.Pre
  pub record_asks : AsksNothing record-at.Pre
  pub body_asks : AsksNothing body_at.Pre
  pub read_asks : AsksNothing read.Pre
  pub write_asks : AsksNothing write.Pre
  pub check_asks : AsksNothing check.Pre
  pub apply_asks : AsksNothing apply.Pre
  pub solve_asks : AsksNothing solve.Pre
  pub open_asks : AsksNothing opening.Pre
  pub edit_asks : AsksNothing edit.Pre
  pub list_asks : AsksNothing list.Pre
  pub listing_asks : AsksNothing listing.Pre

-- What every call gives for a task that is not well formed: refusal 12 at 0, zeros or the task given, and what was lent as it was.
pub record BadTask (t : Task) : Type 0 where
  pub formed_it : (b : Bool) → FormedGives t b → b ≡ false
  pub write_it : (room : List ℕ) (o : Outcome) → WriteGives t room o → o ≡ refused 12 room
  pub check_it : (run : ℕ) (r : Checked) → CheckGives t run r → r ≡ refused_check 12
  pub apply_it : (l : List ℕ) (r : TaskReply) → ApplyGives t l r → r ≡ record { number = 12; place = 0; task = t }
  pub solve_it : (room : List ℕ) (o : Outcome) → SolveGives t room o → o ≡ refused 12 room
  pub open_it : (s after : List ℕ) (r : Reply) → OpenGives t s r after → (r ≡ record { number = 12; place = 0; length = 0 }) × (after ≡ s)
  pub edit_it : (s after : List ℕ) (e : Edit) (r : TaskReply) → EditGives t s e r after → (r ≡ record { number = 12; place = 0; task = t }) × (after ≡ s)
  pub list_it : (s room : List ℕ) (o : Outcome) → ListGives t s room o → o ≡ refused 12 room

-- What the session's calls give for a well-formed task and a table of another length, or, in listing, not in form: refusal 13 at 0.
pub record BadSession (t : Task) (s : List ℕ) : Type 0 where
  pub open_it : (length s ≡ 448 → ⊥) → (after : List ℕ) (r : Reply) → OpenGives t s r after
      → (r ≡ record { number = 13; place = 0; length = 0 }) × (after ≡ s)
  pub edit_it : (length s ≡ 448 → ⊥) → (after : List ℕ) (e : Edit) (r : TaskReply) → EditGives t s e r after
      → (r ≡ record { number = 13; place = 0; task = t }) × (after ≡ s)
  pub list_it : in_form t s ≡ false → (room : List ℕ) (o : Outcome) → ListGives t s room o → o ≡ refused 13 room

-- "Every call ends and is defined on every input. Bad files, tables, lists and edits get document 01's numbered refusal, and a refused
-- call changes no byte or number lent to it."
pub record Demand1 : Type 0 where
  pub defined : AllDefined
  -- "Bad files .. get document 01's numbered refusal": 1 to 8, or 02's 16 or 18, and a task of zeros; which byte is wrong is a byte of the file, but for
  -- 1 at its end. Which, and where: `refusal_files_lem` (BenchSheet).
  pub bad_files : (s : List ℕ) (r : TaskReply) → ReadGives s r → ((t : Task) → WellFormed t → s ≡ file_of t → ⊥) → BadFile s r
  -- "tables": of actions (12), and of a session (13)
  pub bad_tasks : (t : Task) → formed t ≡ false → BadTask t
  pub bad_sessions : (t : Task) → WellFormed t → (s : List ℕ) → BadSession t s
  -- "lists": 15 at the index of the first number that does not ascend or is not permitted
  pub bad_lists : (t : Task) → WellFormed t → (l : List ℕ) → (Permitted (cells_of t.table) l → ⊥) → (r : TaskReply) → ApplyGives t l r
      → r ≡ record { number = 15; place = first_wrong (cells_of t.table) l; task = t }
  -- "and edits": 14, and after it 18, "for a lock set on a cell that isn't a need, or a need cleared under a lock" (02, request 6)
  pub bad_edits : (t : Task) → WellFormed t → (s : List ℕ) → length s ≡ 448 → (e : Edit) → cell_inside t e.cell ≡ false
      → (after : List ℕ) (r : TaskReply) → EditGives t s e r after → (r ≡ record { number = 14; place = 0; task = t }) × (after ≡ s)
  pub locked_edits : (t : Task) → WellFormed t → (s : List ℕ) → length s ≡ 448 → (e : Edit) → cell_inside t e.cell ≡ true → leaves_lock t e ≡ true
      → (after : List ℕ) (r : TaskReply) → EditGives t s e r after → (r ≡ record { number = 18; place = 0; task = t }) × (after ≡ s)
  -- exactly where the table with that cell set would not be well formed
  pub lock_left : (t : Task) → WellFormed t → (e : Edit) → cell_inside t e.cell ≡ true → (u : Task) → EditedTo t e u
      → (leaves_lock t e ≡ true) ↔ (WellFormed u → ⊥)
  -- 02, request 1: "14 covers a run that isn't there", in a run check too
  pub no_such_run : (t : Task) → WellFormed t → (run : ℕ) → t.runs.many ≤ run → (r : Checked) → CheckGives t run r → r ≡ refused_check 14
  -- "a refused call changes no byte or number lent to it"; a refused applying or edit gives the task back
  pub write_changes_nothing : (t : Task) (room : List ℕ) (o : Outcome) → WriteGives t room o → Refused o.reply.number → o.room ≡ room
  pub solve_changes_nothing : (t : Task) (room : List ℕ) (o : Outcome) → SolveGives t room o → Refused o.reply.number → o.room ≡ room
  pub open_changes_nothing : (t : Task) (s after : List ℕ) (r : Reply) → OpenGives t s r after → Refused r.number → after ≡ s
  pub edit_changes_nothing : (t : Task) (s after : List ℕ) (e : Edit) (r : TaskReply) → EditGives t s e r after → Refused r.number
      → (r.task ≡ t) × (after ≡ s)
  pub list_changes_nothing : (t : Task) (s room : List ℕ) (o : Outcome) → ListGives t s room o → Refused o.reply.number → o.room ≡ room
  pub listing_changes_nothing : (input room : List ℕ) (o : Outcome) → ListingGives input room o → Refused o.reply.number → o.room ≡ room
  pub apply_changes_nothing : (t : Task) (l : List ℕ) (r : TaskReply) → ApplyGives t l r → Refused r.number → r.task ≡ t

-- ---- demand 2

-- The bytes or numbers that a call wrote into the room lent to it.
abbrev pub wrote : Outcome → List ℕ
wrote o = take o.reply.length o.room

-- What an accepted solve of a well-formed task gave.
pub record Solved (t : Task) (room : List ℕ) (o : Outcome) : Type 0 where
  -- "the list given", in the room's first places and nothing beside; within the limit
  pub list : List ℕ
  pub shown : o ≡ answered list room
  pub within : length list ≤ t.table.limit
  pub permitted : Permitted (cells_of t.table) list
  -- "makes the run executable and reach its goals", every run (02, request 1): 001, Definition 1, in the table of Definition 2
  -- (table/specs/Strips, Repairs)
  pub valid : (run : ℕ) → run < t.runs.many → Valid (repaired (cells_of t.table) (is_in list)) (course_of t.runs run)
  -- "no shorter permitted list does"
  pub shortest : (m : List ℕ) → WorksFor t m → length list ≤ length m
  -- "and among equals it is the first in the stated order"
  pub first : (m : List ℕ) → WorksFor t m → length m ≡ length list → NotAfter list m
  -- so that applying it is accepted, every run is valid, and the run check finds nothing open in any
  pub cures : (r : TaskReply) → ApplyGives t list r
      → (r.number ≡ 0) × AllValid (cells_of r.task.table) (courses_of r.task) ×
      ((run : ℕ) → run < r.task.runs.many → (c : Checked) → CheckGives r.task run c → c.total ≡ 0)

-- 02, request 3, of a run check that gave `checked`, and of the two rules: the old one, whose states are the model's, and the controller's.
pub record BothRules (c : Cells) (r : Course) (checked : Checked) : Type 0 where
  -- "The check follows the controller"
  pub follows : checked ≡ open_report c r (controller_at c r)
  -- "the total is zero exactly when the run is valid, by the old rule and by the new"
  pub old_zero : (total_open c r (state_at c r) ≡ 0) ↔ Valid c r
  pub new_zero : (total_open c r (controller_at c r) ≡ 0) ↔ Valid c r
  pub each_zero : (total_open c r (state_at c r) ≡ 0) ↔ (total_open c r (controller_at c r) ≡ 0)
  -- the first step with an open need and its lowest fact are the same by both: only the total moves
  pub same_step : (open_report c r (state_at c r)).step ≡ (open_report c r (controller_at c r)).step
  pub same_fact : (open_report c r (state_at c r)).fact ≡ (open_report c r (controller_at c r)).fact

-- "Files and tables match exactly, read and written. Repairs have the published STRIPS meaning: the list given makes the run executable
-- and reach its goals, no shorter permitted list does, and among equals it is the first in the stated order. On a well-formed table,
-- before the lent room is looked at, a solve is refused as over the limit exactly when some permitted list works but none within the
-- limit, and as hopeless exactly when none of any length works."
pub record Demand2 : Type 0 where
  -- "Files and tables match exactly, read": a file is accepted exactly if it is the file of a well-formed task, and then that task is read
  pub read_exactly : (s : List ℕ) (r : TaskReply) → ReadGives s r → (t : Task) → (r ≡ accepted_read t) ↔ (WellFormed t × (s ≡ file_of t))
  pub accepted_reads : (s : List ℕ) (r : TaskReply) → ReadGives s r → r.number ≡ 0 → r ≡ accepted_read r.task
  pub one_file : (t q : Task) → WellFormed t → WellFormed q → file_of t ≡ file_of q → t ≡ q
  -- "and written": into enough room the file, from the first place on and nothing beside
  pub written_exactly : (t : Task) → WellFormed t → (room : List ℕ) → length (file_of t) ≤ length room → (o : Outcome) → WriteGives t room o
      → o ≡ answered (file_of t) room
  -- both round trips: reading what was written gives the task, writing what was read gives the bytes
  pub read_back : (t : Task) → WellFormed t → (room : List ℕ) (o : Outcome) → WriteGives t room o → o.reply.number ≡ 0
      → (r : TaskReply) → ReadGives (wrote o) r → r ≡ accepted_read t
  pub write_back : (s : List ℕ) (r : TaskReply) → ReadGives s r → r.number ≡ 0
      → (room : List ℕ) → length s ≤ length room → (o : Outcome) → WriteGives r.task room o → o ≡ answered s room
  -- 01: "later bytes can't alter its answer", neither what is read nor what is listed; 02, request 6: 28,000 bytes
  pub later_bytes : (s : List ℕ) (r q : TaskReply) → ReadGives (take 28000 s) r → ReadGives s q → r ≡ q
  pub later_bytes_listed : (s room : List ℕ) (o p : Outcome) → ListingGives (take 28000 s) room o → ListingGives s room p → o ≡ p
  -- "the list given makes .., no shorter .., and among equals .."
  pub given : (t : Task) → WellFormed t → (room : List ℕ) (o : Outcome) → SolveGives t room o → o.reply.number ≡ 0 → Solved t room o
  -- "refused as over the limit exactly when some permitted list works but none within the limit", in whatever room
  pub over_the_limit : (t : Task) → WellFormed t → (room : List ℕ) (o : Outcome) → SolveGives t room o
      → (o.reply.number ≡ 10) ↔ (((m : List ℕ) × WorksFor t m) × ((m : List ℕ) → WorksFor t m → t.table.limit < length m))
  -- "and as hopeless exactly when none of any length works", in whatever room
  pub none_works : (t : Task) → WellFormed t → (room : List ℕ) (o : Outcome) → SolveGives t room o
      → (o.reply.number ≡ 9) ↔ ((m : List ℕ) → WorksFor t m → ⊥)
  -- "before the lent room is looked at": 11 exactly when there is an answer within the limit and the room is shorter
  pub room_too_short : (t : Task) → WellFormed t → (room : List ℕ) (o : Outcome) → SolveGives t room o
      → (o.reply.number ≡ 11) ↔ ((l : List ℕ) × First (WorksFor t) l × (length l ≤ t.table.limit) × (length room < length l))
  -- 9 is given exactly when the fullest permitted list, every permitted repair at once, fails; and that is exactly when a run without steps lacks a
  -- goal at its start, or a run's start lacks a locked need of its first step (02, requests 1 and 6)
  pub nine_fullest : (t : Task) → WellFormed t → (room : List ℕ) (o : Outcome) → SolveGives t room o
      → (o.reply.number ≡ 9) ↔ (WorksFor t (fullest (cells_of t.table)) → ⊥)
  pub nine_exactly : (t : Task) → WellFormed t → (room : List ℕ) (o : Outcome) → SolveGives t room o → (o.reply.number ≡ 9) ↔ Stuck t
  -- the check of a run counts nothing exactly if the run is valid
  pub nothing_open : (t : Task) → WellFormed t → (run : ℕ) → run < t.runs.many → (r : Checked) → CheckGives t run r
      → (r.total ≡ 0) ↔ Valid (cells_of t.table) (course_of t.runs run)
  -- by either rule (02, request 3)
  pub both_rules : (t : Task) → WellFormed t → (run : ℕ) → run < t.runs.many → (r : Checked) → CheckGives t run r
      → BothRules (cells_of t.table) (course_of t.runs run) r
  -- 01: "001 permits kind 1 for every fact. Ours leaves out only repairs that do nothing, so least lists are the same", and so is what is
  -- over the limit or hopeless
  pub published_answer : (t : Task) (l : List ℕ) → First (WorksFor t) l ↔ First (WorksPublished (cells_of t.table) (courses_of t)) l
  pub published_verdict : (t : Task) (limit : ℕ) (v : Verdict)
      → Within (WorksFor t) limit v ↔ Within (WorksPublished (cells_of t.table) (courses_of t)) limit v

-- ---- interlocks (02, request 6): "Some needs guard the laser shutter, and no list may drop them."

-- The list leaves every lock of the task: it drops no locked need, and each of them stands in the table with the list applied.
pub record Guards (t : Task) (l : List ℕ) : Type 0 where
  pub none_dropped : (a f : ℕ) → (cells_of t.table).locks a f ≡ true → is_in l (number_of f drop_need a) ≡ false
  pub stands : (a f : ℕ) → (cells_of t.table).locks a f ≡ true → (repaired (cells_of t.table) (is_in l)).needs a f ≡ true

-- No list that is answered, listed by a session, or accepted by applying drops a locked need.
pub record Interlocks : Type 0 where
  pub answered_list : (t : Task) → WellFormed t → (room : List ℕ) (o : Outcome) → SolveGives t room o → o.reply.number ≡ 0 → Guards t (wrote o)
  -- whatever numbers stand in the session's table
  pub listed_list : (t : Task) → WellFormed t → (s room : List ℕ) (o : Outcome) → ListGives t s room o → o.reply.number ≡ 0 → Guards t (wrote o)
  pub applied_list : (t : Task) → WellFormed t → (l : List ℕ) (r : TaskReply) → ApplyGives t l r → r.number ≡ 0 → Guards t l
  -- and in the table that applying gives each locked need stands, locked as before
  pub repaired_table : (t : Task) → WellFormed t → (l : List ℕ) (r : TaskReply) → ApplyGives t l r → r.number ≡ 0 → (a f : ℕ)
      → (cells_of t.table).locks a f ≡ true → ((cells_of r.task.table).needs a f ≡ true) × ((cells_of r.task.table).locks a f ≡ true)

-- ---- demand 3

-- Edits made one after another, each by a call of `edit`, accepted or refused: from the task t and the table s to u and `end`.
pub data EditsMade : Task → List ℕ → List Edit → Task → List ℕ → Type 0 where
  none_left : {t : Task} {s : List ℕ} → EditsMade t s [] t s
  and_then : {t : Task} {s : List ℕ} {e : Edit} {r : TaskReply} {after : List ℕ} {es : List Edit} {u : Task} {end : List ℕ}
      → EditGives t s e r after → EditsMade r.task after es u end → EditsMade t s (e ∷ es) u end

-- After an opening that was accepted, and any edits: the end is the task u and the table `end`.
pub record After (t : Task) (s : List ℕ) (es : List Edit) (u : Task) (end : List ℕ) : Type 0 where
  -- the task "as the accepted edits make it one after another": each sets exactly its cell (change/specs/Editing), and there is one such; and
  -- the facts that the accepted edits named, in turn
  pub named : List ℕ
  pub task : Made t es named u
  pub only : (fs : List ℕ) (v : Task) → Made t es fs v → (fs ≡ named) × (v ≡ u)
  pub well : WellFormed u
  -- listing and a fresh solve, into equal room, agree in number, place, length and every number of the room
  pub answer : (room : List ℕ) (o p : Outcome) → ListGives u end room o → SolveGives u room p → o ≡ p
  -- rows of facts that no accepted edit named are the numbers that opening wrote
  pub kept : (f : ℕ) → f < max_facts → is_in named f ≡ false → row_at end f ≡ row_at s f

-- For every well-formed task, every table opened for it and every list of edits, accepted or refused: the session's answer is the fresh
-- solve's. An edit is any result that its contract allows, so that one that does nothing, or works the first time and later only echoes,
-- has no part in it.
pub record Demand3 : Type 0 where
  -- every well-formed task can be opened
  pub opens : (t : Task) → WellFormed t → (s₀ s : List ℕ) (r : Reply) → length s₀ ≡ 448 → OpenGives t s₀ r s → r.number ≡ 0
  pub session : (t : Task) → WellFormed t → (s₀ s : List ℕ) (r : Reply) → OpenGives t s₀ r s → r.number ≡ 0
      → (es : List Edit) (u : Task) (end : List ℕ) → EditsMade t s es u end → After t s es u end
  -- 01: "The rows don't depend on L": opened with another limit, all rows are the same
  pub any_limit : (t : Task) (l : ℕ) (s₀ s q₀ q : List ℕ) (r p : Reply) → OpenGives t s₀ r s → r.number ≡ 0
      → OpenGives (with_limit t l) q₀ p q → p.number ≡ 0 → s ≡ q

-- ---- the theorems

bad_task : (t : Task) → formed t ≡ false → BadTask t
bad_task t h = record {
  formed_it = λ b g. formed_gives t b g ∙ h;
  write_it = λ room o g. write_gives t room o g ∙ written_unformed t room h;
  check_it = λ run r g. check_gives t run r g ∙ check_malformed t run h;
  apply_it = λ l r g. applies_unique t l r _ (apply_gives t l r g) (applies_unformed t l h);
  solve_it = λ room o g. (solve_gives t room o g).malformed h;
  open_it = λ s after r g. open_refused t s 12 (omega arith) (open_malformed t s h) r (open_gives t s r after g);
  edit_it = λ s after e r g. edit_refused t s e 12 (omega arith) (edit_malformed t s e h) r (edit_gives t s e r after g);
  list_it = λ s room o g. list_gives t s room o g ∙ listed_malformed t s room h;
}

bad_session : (t : Task) → WellFormed t → (s : List ℕ) → BadSession t s
bad_session t w s = record {
  open_it = λ n after r g. open_refused t s 13 (omega arith) (open_not_a_session t s (well_formed t w) n) r (open_gives t s r after g);
  edit_it = λ n after e r g. edit_refused t s e 13 (omega arith) (edit_not_a_session t s e (well_formed t w) n) r (edit_gives t s e r after g);
  list_it = λ h room o g. list_gives t s room o g ∙ listed_not_a_session t s room w h;
}

lock_left : (t : Task) → WellFormed t → (e : Edit) → cell_inside t e.cell ≡ true → (u : Task) → EditedTo t e u
    → (leaves_lock t e ≡ true) ↔ (WellFormed u → ⊥)
lock_left t w e inside u d = (edited_unformed t e u d, λ bad. pick (leaves_lock t e) refl bad)
  where
    pick : (b : Bool) → leaves_lock t e ≡ b → (WellFormed u → ⊥) → b ≡ true
    pick true h bad = refl
    pick false h bad = absurd (bad (edited_well t e u d w (and_both (cell_inside t e.cell) (not (leaves_lock t e)) inside (ap not h))))

pub demand_one : Demand1
demand_one = record {
  defined = record {
    formed_asks = formed_asks_nothing;
    record_asks = record_asks_nothing;
    body_asks = body_asks_nothing;
    read_asks = read_asks_nothing;
    write_asks = write_asks_nothing;
    check_asks = check_asks_nothing;
    apply_asks = apply_asks_nothing;
    solve_asks = solve_asks_nothing;
    open_asks = open_asks_nothing;
    edit_asks = edit_asks_nothing;
    list_asks = list_asks_nothing;
    listing_asks = listing_asks_nothing;
  };
  bad_files = λ s r g. bad_file s r (read_gives s r g);
  bad_tasks = bad_task;
  bad_sessions = bad_session;
  bad_lists = λ t w l bad r g. bad_list t w (well_formed t w) l bad r (apply_gives t l r g);
  bad_edits = λ t w s n e h after r g. edit_refused t s e 14 (omega arith) (edit_outside t s e (well_formed t w) n h) r (edit_gives t s e r after g);
  locked_edits = λ t w s n e h locked after r g.
      edit_refused t s e 18 (omega arith) (edit_locked t s e (well_formed t w) n h locked) r (edit_gives t s e r after g);
  lock_left = lock_left;
  no_such_run = λ t w run past r g. check_gives t run r g ∙ check_outside t run (well_formed t w) past;
  write_changes_nothing = λ t room o g. (write_fair t room o (write_gives t room o g)).keeps;
  solve_changes_nothing = λ t room o g. (solve_fair t room o (solve_gives t room o g)).keeps;
  open_changes_nothing = λ t s after r g h. ((open_gives t s r after g).refused h).1;
  edit_changes_nothing = λ t s after e r g h. (edit_gives t s e r after g).refused h;
  list_changes_nothing = λ t s room o g. (list_fair t s room o (list_gives t s room o g)).keeps;
  listing_changes_nothing = λ input room o g. (listing_fair input room o (listing_gives input room o g)).keeps;
  apply_changes_nothing = λ t l r g h. (apply_gives t l r g).refused h;
}

given_list : (t : Task) → WellFormed t → (room : List ℕ) (o : Outcome) → SolveGives t room o → o.reply.number ≡ 0 → Solved t room o
given_list t w room o g h =
    let x = accepted_answer t w room o (solve_gives t room o g) h in
    record {
      list = x.0;
      shown = x.3;
      within = x.2;
      permitted = x.1.member.permitted;
      valid = x.1.member.valid;
      shortest = least_length x.1;
      first = least_first x.1;
      cures = λ r a.
          let done = works_cures t w x.0 x.1.member r (apply_gives t x.0 r a) in
          (done.0, done.1, λ run there c k. ap (λ (q : Checked). q.total) (check_gives r.task run c k) ∙ done.2 run there);
    }

-- Where no need and no goal is at F or above, a check that follows the controller is as it should be.
rules : (c : Cells) (r : Course) (checked : Checked) → checked ≡ open_report c r (controller_at c r)
    → ((a f : ℕ) → c.facts ≤ f → c.needs a f ≡ false) → ((f : ℕ) → c.facts ≤ f → r.goal f ≡ false) → BothRules c r checked
rules c r checked e needs goal =
    let old = old_ruled c r in
    let new = new_ruled c r in
    let same = report_same c r (state_at c r) (controller_at c r) old new in
    record {
      follows = e;
      old_zero = (zero_valid c r (state_at c r) old needs goal, valid_zero c r (state_at c r) old);
      new_zero = (zero_valid c r (controller_at c r) new needs goal, valid_zero c r (controller_at c r) new);
      each_zero = (zero_same c r (state_at c r) (controller_at c r) old new, zero_same c r (controller_at c r) (state_at c r) new old);
      same_step = ap (λ (x : Checked). x.step) same;
      same_fact = ap (λ (x : Checked). x.fact) same;
    }

pub demand_two : Demand2
demand_two = record {
  read_exactly = read_is_exact;
  accepted_reads = λ s r g. accepted_read_lem (read_gives s r g);
  one_file = one_task;
  written_exactly = λ t w room n o g. write_gives t room o g ∙ written_file t room (well_formed t w) n;
  read_back = reads_back;
  write_back = writes_back;
  later_bytes = λ s r q a b. reads_unique ((cut_decides s r).0 (read_gives (take 28000 s) r a)) (read_gives s q b);
  later_bytes_listed = λ s room o p a b.
      listing_unique ((listing_cut s room o).0 (listing_gives (take 28000 s) room o a)) (listing_gives s room p b);
  given = given_list;
  over_the_limit = λ t w room o g. over_exactly t w room o (solve_gives t room o g);
  none_works = λ t w room o g. hopeless_exactly t w room o (solve_gives t room o g);
  room_too_short = λ t w room o g. short_exactly t w room o (solve_gives t room o g);
  nine_fullest = λ t w room o g.
      let s = solve_gives t room o g in
      (nine_fullest t w room o s, λ h. ap (λ (x : Outcome). x.reply.number) (fullest_nine t w room o s h));
  nine_exactly = λ t w room o g.
      let s = solve_gives t room o g in
      (nine_stuck t w room o s, λ h. ap (λ (x : Outcome). x.reply.number) (stuck_nine t w room o s h));
  nothing_open = λ t w run there r g.
      let e = ap (λ (x : Checked). x.total) (check_gives t run r g) in
      (λ h. checked_zero_valid t run w there (sym e ∙ h), λ v. e ∙ valid_checked_zero t run w there v);
  both_rules = λ t w run there r g.
      rules (cells_of t.table) (course_of t.runs run) r (check_gives t run r g ∙ checked_report t run (well_formed t w) there)
      (formed_inside t w).needs ((formed_inside t w).goal run there);
  published_answer = λ t. published_first (cells_of t.table) (courses_of t);
  published_verdict = λ t. published_within (cells_of t.table) (courses_of t);
}

-- an action that is none has no lock
unlocked_past : (t : Task) → WellFormed t → (a f : ℕ) → t.table.actions ≤ a → (cells_of t.table).locks a f ≡ false
unfolding cells_of
unlocked_past t w a f past = ap (λ (m : ℕ). has m f) (locks_unused t w a past) ∙ has_empty f

-- A list of permitted repairs leaves every lock of a well-formed task.
guards : (t : Task) → WellFormed t → (l : List ℕ) → EachPermitted (cells_of t.table) l → Guards t l
guards t w l each = record {
  none_dropped = λ a f locked.
      by_order a max_actions (locked_out (cells_of t.table) l each a f locked)
      (λ past. absurd (true≢false (sym locked ∙ unlocked_past t w a f (omega (arith, w.actions_high)))));
  stands = λ a f locked. locked_stands (cells_of t.table) l each a f locked (w.locks_needs a f locked);
}

pub interlocks : Interlocks
interlocks = record {
  answered_list = λ t w room o g h. guards t w (wrote o) (wrote_answer t w room o (solve_gives t room o g) h).0.member.permitted.each;
  listed_list = λ t w s room o g h. guards t w (wrote o) (listed_permitted t w s room o (list_gives t s room o g) h);
  applied_list = λ t w l r g h. guards t w l (applied_permitted t (well_formed t w) l r (apply_gives t l r g) h).each;
  repaired_table = λ t w l r g h a f locked.
      let a' = (apply_gives t l r g).applied h in
      let each = (applied_permitted t (well_formed t w) l r (apply_gives t l r g) h).each in
      (a'.needs a f ∙ (guards t w l each).stands a f locked, a'.locks a f ∙ locked);
}

-- Edits made by calls are a story of the session's.
story : (t : Task) (s : List ℕ) (es : List Edit) (u : Task) (end : List ℕ) → EditsMade t s es u end → Story t s es u end
story t s [] u end none_left = told_all
story t s (e ∷ es) u end (and_then {r = r} {after = after} g rest) = then (edit_gives t s e r after g) (story r.task after es u end rest)

pub demand_three : Demand3
demand_three = record {
  opens = λ t w s₀ s r n g. opening_accepts t s₀ s r w n (open_gives t s₀ r s g);
  session = λ t w s₀ s r g ok es u end made.
      let done = story_ends t s es u end w ((open_gives t s₀ r s g).opened ok).1 (story t s es u end made) in
      record {
        named = done.named;
        task = done.made;
        only = λ fs v m. made_unique t es fs done.named v u m done.made;
        well = done.well;
        answer = λ room o p a b. ends_solved done room o p (list_gives u end room o a) (solve_gives u room p b);
        kept = done.kept;
      };
  any_limit = λ t l s₀ s q₀ q r p a ok b also.
      stored_unique (with_limit t l) s q (stored_limit t l s ((open_gives t s₀ r s a).opened ok).1) ((open_gives (with_limit t l) q₀ p q b).opened also).1;
}
