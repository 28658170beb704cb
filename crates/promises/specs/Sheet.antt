-- The bench sheet of document 01 as one table: the starred rows, 1 to 11, in the words of the calls' contracts and with the paper's own
-- numbers, and beside them the run check of their tasks and of row 12's; 01's table of refusals, with 02's 16 and 18 and 02's places, by small
-- files; and two runs (02, request 1), steps that can't run (request 3), locked needs (request 6), and lists in two sittings (request 7). The
-- tasks are in table/specs/Bench, the files in taskformat/specs/BenchFiles.
use Rattle.std.specs.Prelude.{true, false, List, [], ◌∷◌, ◌≡◌, ℕ, zero, suc, length}
use Prim.Native.String.{String}
use Rattle.apply.specs.Applying.{Applies}
use Rattle.apply.specs.Sittings.{merged}
use Rattle.change.specs.declared.Cell.TheVariants.{Need, Delete, Lock}
use Rattle.change.specs.declared.Edit.{Edit}
use Rattle.text.specs.Ascii.{bytes_of}
use Rattle.listing.specs.Listing.{ListsInto}
use Rattle.table.specs.Outcomes.{refused, given}
use Rattle.runcheck.specs.OpenNeeds.{open_needs, total_open, refused_check, checked}
use Rattle.runcheck.specs.declared.Checked.{Checked}
use Rattle.session.specs.Calls.{Opens, Edits, listed}
use Rattle.table.specs.declared.TaskReply.{TaskReply}
use Rattle.solve.specs.Solving.{Solves}
use Rattle.rows.specs.Tables.{row_at}
use Rattle.table.specs.Bench.{task, listing_task, limited, stray_task, goals_at_start, goal_out_of_reach, adds_and_deletes, deletes_the_goal, needs_last_fact, pairs}
use Rattle.table.specs.Order.{◌≼◌}
use Rattle.table.specs.Sizes.{max_limit}
use Rattle.table.specs.Worked.{two_deletes, two_runs, locked_need, locked_first}
use Rattle.table.specs.Strips.{state_at}
use Rattle.table.specs.Tasks.{cells_of, course_of, WorksFor}
use Rattle.table.specs.declared.Reply.{Reply}
use Rattle.table.specs.declared.Task.{Task}
use Rattle.taskformat.specs.BenchFiles.{listing_file, without_end, byte_appended, stray_step}
use Rattle.taskformat.specs.Reading.{ReadsFile, refused_read, accepted_read}
use Rattle.promises.specs.Determined.{Only}

infixr 20 ◌and◌
infixr 20 ◌besides◌
-- What a row says of a call.
pub data BenchRow : Type 0 where
  -- a file of so many bytes is read so
  reads : List ℕ → ℕ → TaskReply → BenchRow
  -- the listing of a file is this text, in whatever room is lent
  lists : List ℕ → String → BenchRow
  -- the check of a run of a task gives this
  checks : Task → ℕ → Checked → BenchRow
  -- by the old rule the open needs of a run of a task come to this total
  old_total : Task → ℕ → ℕ → BenchRow
  -- a solve of a task gives this list, into whatever room is lent that is enough for it (else 11)
  solves : Task → List ℕ → BenchRow
  -- a solve of a task is refused with this number, whatever room is lent
  refuses : Task → ℕ → BenchRow
  -- a list works too for a task, and comes later than another
  works_later : Task → List ℕ → List ℕ → BenchRow
  -- after one edit of an opened session the listing gives this list, and the row of this fact is untouched
  edits : Task → Edit → List ℕ → ℕ → BenchRow
  -- an edit of a session is refused with this number, and nothing is changed
  refuses_edit : Task → Edit → ℕ → BenchRow

-- The row holds: the call's contract allows what the row says, and nothing else. For an edit: whatever opening and the edit may give.
abbrev pub Stands : BenchRow → Type 0
Stands (reads file bytes r) = (length file ≡ bytes) × Only (ReadsFile file) r
Stands (lists file text) = (room : List ℕ) → Only (ListsInto file room) (given (bytes_of text) room)
Stands (checks t run c) = Only (λ (r : Checked). r ≡ checked t run) c
Stands (old_total t run n) = total_open (cells_of t.table) (course_of t.runs run) (state_at (cells_of t.table) (course_of t.runs run)) ≡ n
Stands (solves t l) = (room : List ℕ) → Only (Solves t room) (given l room)
Stands (refuses t n) = (room : List ℕ) → Only (Solves t room) (refused n room)
Stands (works_later t m l) = WorksFor t m × (m ≼ l → ⊥)
Stands (edits t e l kept) =
    (s₀ s after : List ℕ) (r₀ : Reply) (r : TaskReply) → Opens t s₀ r₀ s → r₀.number ≡ 0 → Edits t s e r after
    → (r.number ≡ 0) × ((room : List ℕ) → listed r.task after room ≡ given l room) × (row_at after kept ≡ row_at s kept)
Stands (refuses_edit t e n) =
    (s after : List ℕ) (r : TaskReply) → length s ≡ 448 → Edits t s e r after → (r ≡ record { number = n; place = 0; task = t }) × (after ≡ s)

-- Every row of a list holds.
pub data AllHold : List BenchRow → Type 0 where
  all : AllHold []
  ◌and◌ : {row : BenchRow} {rows : List BenchRow} → Stands row → AllHold rows → AllHold (row ∷ rows)

-- ---- what the rows give

-- Delete (1, 1) to absent.
abbrev pub delete_absent : Edit
delete_absent = record { cell = Delete 1 1; present = false }

-- The fact whose row it leaves.
abbrev pub untouched : ℕ
untouched = 2

-- What the program prints for the file of "The listing", and for one with a byte too many.
abbrev pub listing_text : String
listing_text = "task 4 3 3 3\nopen 3 3 1\nset 2\ndrop-delete 1 1\nadd-effect 0 2\nend\n"

abbrev pub refused_text : String
refused_text = "refused 8 36\n"

-- And for one whose last step is of no action, with the byte that says so.
abbrev pub stray_text : String
stray_text = "refused 5 34\n"

-- ---- the sheet

abbrev pub sheet : List BenchRow
sheet =
    -- 1. Empty input: 1 at 0.
    reads [] 0 (refused_read 1 0) ∷
    -- 2. The file above: 36 bytes, list 97, 224; `open 3 3 1` (02, request 3).
    reads listing_file 36 (accepted_read listing_task) ∷
    checks listing_task 0 (open_needs 3 3 1) ∷
    solves listing_task (97 ∷ 224 ∷ []) ∷
    lists listing_file listing_text ∷
    -- 3. The same, L = 1: 10. L = 2: list 97, 224.
    refuses (limited 1) 10 ∷
    solves (limited 2) (97 ∷ 224 ∷ []) ∷
    -- 4. No steps, goals within start: empty list.
    checks goals_at_start 0 (open_needs 0 0 0) ∷
    solves goals_at_start [] ∷
    -- 5. No steps, goal 0, empty start: 9.
    checks goal_out_of_reach 0 (open_needs 1 1 0) ∷
    refuses goal_out_of_reach 9 ∷
    -- 6. One action that adds and deletes fact 0, one step, goal 0, empty start: empty list.
    checks adds_and_deletes 0 (open_needs 0 0 0) ∷
    solves adds_and_deletes [] ∷
    -- 7. One action that deletes 0, one step, start and goal 0: list 0 (32 works too, and comes later).
    checks deletes_the_goal 0 (open_needs 1 2 0) ∷
    solves deletes_the_goal (0 ∷ []) ∷
    works_later deletes_the_goal (32 ∷ []) (0 ∷ []) ∷
    -- 8. F 64, A 1, the action needs 63, one step, empty start, L 1: list 6112.
    checks needs_last_fact 0 (open_needs 1 1 63) ∷
    solves needs_last_fact (6112 ∷ []) ∷
    -- 9. Case 2, edit delete (1, 1) to absent: list 224, row 2 untouched.
    edits listing_task delete_absent (224 ∷ []) untouched ∷
    -- 10. Case 2's first 35 bytes: 1 at 35. All 36 bytes with a byte 00 appended: 8 at 36.
    reads without_end 35 (refused_read 1 35) ∷
    reads byte_appended 37 (refused_read 8 36) ∷
    lists byte_appended refused_text ∷
    -- 11. Case 2 with its last step 03: 5 at 34 (02, request 2). As a task it is not well formed.
    reads stray_step 36 (refused_read 5 34) ∷
    lists stray_step stray_text ∷
    checks stray_task 0 (refused_check 12) ∷
    -- 12, which has no star, for the run check alone: six pairs, and seven.
    checks (pairs 6) 0 (open_needs 6 2 0) ∷
    checks (pairs 7) 0 (open_needs 7 2 0) ∷ []

-- ---- 01's table of refusals, 1 to 8, and 02's 16 and 18: small files of four facts, three actions and the limit 3

abbrev sized : List ℕ → List ℕ
sized rest = 1 ∷ 4 ∷ 3 ∷ 3 ∷ rest

-- n steps of action 0
unfoldable pub steps_of : ℕ → List ℕ
steps_of zero = []
steps_of (suc n) = 7 ∷ 0 ∷ steps_of n

abbrev pub refusal_files : List BenchRow
refusal_files =
    -- 1: "no end record, or a body passes the end"
    reads (sized []) 4 (refused_read 1 4) ∷
    reads (sized (4 ∷ 0 ∷ [])) 6 (refused_read 1 4) ∷
    -- 2: "unknown kind"
    reads (sized (0 ∷ [])) 5 (refused_read 2 4) ∷
    -- 3: "first kind isn't 1, or 1 comes again"
    reads (8 ∷ []) 1 (refused_read 3 0) ∷
    reads (sized (1 ∷ [])) 5 (refused_read 3 4) ∷
    -- 4: "a size is out of range"
    reads (1 ∷ 65 ∷ 3 ∷ 3 ∷ []) 4 (refused_read 4 0) ∷
    reads (1 ∷ 4 ∷ 33 ∷ 3 ∷ []) 4 (refused_read 4 0) ∷
    reads (1 ∷ 4 ∷ 3 ∷ 7 ∷ []) 4 (refused_read 4 0) ∷
    -- 5: "fact or action outside", at "the first number that is outside" (02, request 2): a start's fact; a cell's action, its fact, or both; a
    -- step's action; and before 6, where the kind goes down as well
    reads (sized (2 ∷ 4 ∷ [])) 6 (refused_read 5 5) ∷
    reads (sized (4 ∷ 3 ∷ 0 ∷ [])) 7 (refused_read 5 5) ∷
    reads (sized (4 ∷ 0 ∷ 4 ∷ [])) 7 (refused_read 5 6) ∷
    reads (sized (4 ∷ 3 ∷ 4 ∷ [])) 7 (refused_read 5 5) ∷
    reads (sized (7 ∷ 3 ∷ [])) 6 (refused_read 5 5) ∷
    reads (sized (5 ∷ 0 ∷ 0 ∷ 4 ∷ 0 ∷ 4 ∷ [])) 10 (refused_read 5 9) ∷
    -- 6: "kind goes down, or body doesn't ascend", at "the kind byte if the kind is out of order and the first body byte otherwise" (02, request 2),
    -- also where the first numbers are equal
    reads (sized (3 ∷ 0 ∷ 2 ∷ 0 ∷ [])) 8 (refused_read 6 6) ∷
    reads (sized (2 ∷ 1 ∷ 2 ∷ 1 ∷ [])) 8 (refused_read 6 7) ∷
    reads (sized (4 ∷ 1 ∷ 1 ∷ 4 ∷ 1 ∷ 0 ∷ [])) 10 (refused_read 6 8) ∷
    -- 02, request 1: "Kinds 4 to 6 after a kind 9 get 6", of the kind; the order of the others begins anew, and then holds
    reads (sized (9 ∷ 4 ∷ 0 ∷ 0 ∷ [])) 8 (refused_read 6 5) ∷
    reads (sized (9 ∷ 3 ∷ 0 ∷ 2 ∷ 0 ∷ [])) 9 (refused_read 6 7) ∷
    -- 02, request 6: a lock stands "after kind 6 and before kind 7, strictly ascending. After a kind 9 it gets 6 like the other table kinds"
    reads (sized (4 ∷ 0 ∷ 0 ∷ 10 ∷ 0 ∷ 0 ∷ 6 ∷ 0 ∷ 0 ∷ [])) 13 (refused_read 6 10) ∷
    reads (sized (4 ∷ 0 ∷ 0 ∷ 7 ∷ 0 ∷ 10 ∷ 0 ∷ 0 ∷ [])) 12 (refused_read 6 9) ∷
    reads (sized (4 ∷ 0 ∷ 0 ∷ 10 ∷ 0 ∷ 0 ∷ 10 ∷ 0 ∷ 0 ∷ [])) 13 (refused_read 6 11) ∷
    reads (sized (4 ∷ 0 ∷ 0 ∷ 9 ∷ 10 ∷ 0 ∷ 0 ∷ [])) 11 (refused_read 6 8) ∷
    -- 18: a lock on a cell that isn't a need, "at the record's start after 6 and 16", and so after 5
    reads (sized (4 ∷ 0 ∷ 0 ∷ 10 ∷ 0 ∷ 1 ∷ [])) 10 (refused_read 18 7) ∷
    reads (sized (4 ∷ 0 ∷ 1 ∷ 10 ∷ 0 ∷ 1 ∷ 10 ∷ 0 ∷ 0 ∷ [])) 13 (refused_read 6 11) ∷
    reads (sized (10 ∷ 0 ∷ 4 ∷ [])) 7 (refused_read 5 6) ∷
    -- 16: "at its kind byte, for a ninth run"
    reads (sized (9 ∷ 9 ∷ 9 ∷ 9 ∷ 9 ∷ 9 ∷ 9 ∷ 9 ∷ [])) 12 (refused_read 16 11) ∷
    -- 7: "a 65th step"
    reads (sized (steps_of 65)) 134 (refused_read 7 132) ∷
    reads (sized (9 ∷ steps_of 65)) 135 (refused_read 7 133) ∷
    -- 8: "bytes after the end", at the "first such byte"
    reads (sized (8 ∷ 8 ∷ [])) 6 (refused_read 8 5) ∷ []

-- ---- two runs (02, request 1): row 7 with a second run that starts without fact 0, as a task and as a file

abbrev pub two_runs_file : List ℕ
two_runs_file = 1 ∷ 1 ∷ 1 ∷ 6 ∷ 2 ∷ 0 ∷ 3 ∷ 0 ∷ 6 ∷ 0 ∷ 0 ∷ 7 ∷ 0 ∷ 9 ∷ 3 ∷ 0 ∷ 7 ∷ 0 ∷ 8 ∷ []

-- The steps are summed, and each run has its open line.
abbrev pub two_runs_text : String
two_runs_text = "task 1 1 6 2\nopen 1 2 0\nopen 1 2 0\nset 1\nadd-effect 0 0\nend\n"

abbrev pub several_runs : List BenchRow
several_runs =
    reads two_runs_file 19 (accepted_read two_runs) ∷
    checks two_runs 1 (open_needs 1 2 0) ∷
    -- "14 covers a run that isn't there"
    checks two_runs 2 (refused_check 14) ∷
    -- "The answer is the first shortest list that makes all runs valid": 0, row 7's, does not
    solves two_runs (32 ∷ []) ∷
    lists two_runs_file two_runs_text ∷ []

-- ---- steps that can't run (02, request 3): what the check gives, and the old rule's total beside it

-- One action that needs 0 and deletes 1, one step, start and goal 1.
abbrev pub keeps_the_goal : Task
keeps_the_goal = task 2 1 max_limit (0b01 ∷ []) [] (0b10 ∷ []) 0b10 0b10 (0 ∷ [])

-- Action 0 needs 0 and adds 1, action 1 needs 1; steps 0, 1, empty start, no goal.
abbrev pub gives_nothing : Task
gives_nothing = task 2 2 max_limit (0b01 ∷ 0b10 ∷ []) (0b10 ∷ []) [] 0 0 (0 ∷ 1 ∷ [])

-- Action 0 needs 0 and adds 1, action 1 adds 0; steps 0, 1, 0, empty start, goal 1.
abbrev pub tries_the_next : Task
tries_the_next = task 2 2 max_limit (0b01 ∷ []) (0b10 ∷ 0b01 ∷ []) [] 0 0b10 (0 ∷ 1 ∷ 0 ∷ [])

abbrev pub rejected_steps : List BenchRow
rejected_steps =
    -- case 2: "the row store no longer gives its goal"
    old_total listing_task 0 2 ∷
    -- A step that can't run deletes nothing: the goal is there.
    checks keeps_the_goal 0 (open_needs 1 1 0) ∷
    old_total keeps_the_goal 0 2 ∷
    -- It adds nothing: what it would have given is absent at the next step.
    checks gives_nothing 0 (open_needs 2 1 0) ∷
    old_total gives_nothing 0 1 ∷
    -- The next is tried, and a step that may run takes its effects, so that the first can run when its turn comes again.
    checks tries_the_next 0 (open_needs 1 1 0) ∷
    old_total tries_the_next 0 1 ∷ []

-- ---- locked needs (02, request 6): actions 0 and 1 delete fact 0, action 2 needs it, steps 0, 2, 1, 2, start 0; with action 2's need locked, and
-- that as a file

abbrev pub locked_file : List ℕ
locked_file =
    1 ∷ 1 ∷ 3 ∷ 6 ∷ 2 ∷ 0 ∷ 4 ∷ 2 ∷ 0 ∷ 6 ∷ 0 ∷ 0 ∷ 6 ∷ 1 ∷ 0 ∷ 10 ∷ 2 ∷ 0 ∷ 7 ∷ 0 ∷ 7 ∷ 2 ∷ 7 ∷ 1 ∷ 7 ∷ 2 ∷ 8 ∷ []

abbrev pub locked_text : String
locked_text = "task 1 3 6 4\nopen 2 2 0\nset 2\ndrop-delete 0 0\ndrop-delete 1 0\nend\n"

-- The need locked; the need cleared; a lock set where no need is; and one of an action that isn't there.
abbrev pub lock_set : Edit
lock_set = record { cell = Lock 2 0; present = true }

abbrev pub need_cleared : Edit
need_cleared = record { cell = Need 2 0; present = false }

abbrev pub stray_lock_set : Edit
stray_lock_set = record { cell = Lock 0 0; present = true }

abbrev pub lock_set_outside : Edit
lock_set_outside = record { cell = Lock 3 0; present = true }

abbrev pub locked_needs : List BenchRow
locked_needs =
    reads locked_file 27 (accepted_read locked_need) ∷
    -- A run does not look at locks.
    checks locked_need 0 (open_needs 2 2 0) ∷
    -- The shortest list drops the need; "no list may drop them": where it is locked, two deletes are dropped.
    solves two_deletes (66 ∷ []) ∷
    solves locked_need (0 ∷ 1 ∷ []) ∷
    lists locked_file locked_text ∷
    -- "So 9 .. now also arise in runs with steps": row 8 with its need locked.
    refuses locked_first 9 ∷
    -- "Edits can set and clear a lock": the row is written afresh, that of another fact is untouched.
    edits two_deletes lock_set (0 ∷ 1 ∷ []) 1 ∷
    -- "18 for a lock set on a cell that isn't a need, or a need cleared under a lock", "at 0 after 14"
    refuses_edit locked_need need_cleared 18 ∷
    refuses_edit two_deletes stray_lock_set 18 ∷
    refuses_edit two_deletes lock_set_outside 14 ∷ []

-- ---- lists in two sittings (02, request 7)

-- What a row says of two sittings.
pub data SittingRow : Type 0 where
  -- two lists are merged so
  merges : List ℕ → List ℕ → List ℕ → SittingRow
  -- two lists, one after the other, are accepted and give what the third one gives at once
  sits : Task → List ℕ → List ℕ → List ℕ → SittingRow
  -- after a list, a solve of the table as it then stands gives another, into whatever room is lent that is enough for it (else 11)
  leaves : Task → List ℕ → List ℕ → SittingRow
  -- after a list, another one is refused with 15 at this index, and the table is given back as the first one made it
  refuses_second : Task → List ℕ → List ℕ → ℕ → SittingRow

-- The row holds: the calls' contract allows what the row says, and nothing else.
abbrev pub SittingStands : SittingRow → Type 0
SittingStands (merges a b l) = merged a b ≡ l
SittingStands (sits t a b l) = (r s m : TaskReply) → Applies t a r → Applies r.task b s → Applies t l m → (s.number ≡ 0) × (s ≡ m)
SittingStands (leaves t a l) = (r : TaskReply) → Applies t a r → (room : List ℕ) → Only (Solves r.task room) (given l room)
SittingStands (refuses_second t a b i) =
    (r s : TaskReply) → Applies t a r → Applies r.task b s → s ≡ record { number = 15; place = i; task = r.task }

-- Every row of a list holds.
pub data SittingsHold : List SittingRow → Type 0 where
  no_more : SittingsHold []
  ◌besides◌ : {row : SittingRow} {rows : List SittingRow} → SittingStands row → SittingsHold rows → SittingsHold (row ∷ rows)

abbrev pub two_sittings : List SittingRow
two_sittings =
    -- "the merged list": ascending, the numbers of both; one that they share stands once
    merges (64 ∷ 129 ∷ 224 ∷ []) (33 ∷ 129 ∷ 320 ∷ []) (33 ∷ 64 ∷ 129 ∷ 224 ∷ 320 ∷ []) ∷
    -- Case 2's list, "in either order": what is left in between, and the table at the end.
    leaves listing_task (97 ∷ []) (224 ∷ []) ∷
    sits listing_task (97 ∷ []) (224 ∷ []) (97 ∷ 224 ∷ []) ∷
    leaves listing_task (224 ∷ []) (97 ∷ []) ∷
    sits listing_task (224 ∷ []) (97 ∷ []) (97 ∷ 224 ∷ []) ∷
    -- The same of lists that are no answer, and of one under a lock.
    sits listing_task (64 ∷ 129 ∷ 224 ∷ []) (33 ∷ 97 ∷ 161 ∷ 320 ∷ []) (33 ∷ 64 ∷ 97 ∷ 129 ∷ 161 ∷ 224 ∷ 320 ∷ []) ∷
    leaves locked_need (1 ∷ []) (0 ∷ []) ∷
    -- "The empty list changes nothing."
    leaves listing_task [] (97 ∷ 224 ∷ []) ∷
    -- "If they share a number, the second call gives 15 at the first one shared": 129, the second of the first list.
    refuses_second listing_task (64 ∷ 129 ∷ 224 ∷ []) (33 ∷ 34 ∷ 97 ∷ 129 ∷ 161 ∷ 224 ∷ []) 3 ∷ []

-- ---- the sources' own examples, facts and actions numbered in reading order

abbrev pub figures : List BenchRow
figures =
    -- 001, Figure 1: facts q, f; actions a, b, c; plan a b a c. Of its shortest lists the order picks the paper's own: drop the delete
    -- of q by a (0) and add f to a (128). Adding q to a (32), since add wins, is as short and comes later.
    solves (task 2 3 max_limit (0b01 ∷ 0b11 ∷ 0b11 ∷ []) [] (0b01 ∷ 0b10 ∷ 0b01 ∷ []) 0b01 0 (0 ∷ 1 ∷ 0 ∷ 2 ∷ [])) (0 ∷ 128 ∷ []) ∷
    -- 000, Figure 1. The drawing is not in our copy. Its text gives facts l, f, q, r, z; start l, goal z; plan a1 a2 a1 a3; a2 needs f; a3
    -- needs f and r; a1 deletes r. The rest is our reading: a1 needs l and adds q, a2 needs q and adds r, a3 adds z. Again the order picks
    -- the paper's own: add f to a1 (128) and drop its delete of r (288). Adding r to a1 (320) and dropping the need of r (354) are as short
    -- and come later.
    solves
    (task 5 3 max_limit (0b00001 ∷ 0b00110 ∷ 0b01010 ∷ []) (0b00100 ∷ 0b01000 ∷ 0b10000 ∷ []) (0b01000 ∷ []) 0b00001 0b10000
    (0 ∷ 1 ∷ 0 ∷ 2 ∷ []))
    (128 ∷ 288 ∷ []) ∷ []
