-- Demand 1 of the boundary's functions, said of the functions themselves (`Zp..Gives`: boundary/proofs/Called). What a call gives, o, is the
-- number returned (.0), the answer's words (.1) and what else was lent to be written: the room or the table (.2), of zp_apply the task's words
-- (.2), of zp_edit the task's words (.2) and the table (.3). Open Demands first; the functions of 02's request 4: TextsBoundary. Assumes nothing.
use mathlib.Core.Bool.{true, false}
use mathlib.Core.List.{List, [], ◌∷◌, ◌++◌}
use mathlib.Core.Path.{◌≡◌, sym, ap, ◌∙◌, subst}
use Prim.Native.Nat.{ℕ, ◌<◌, ◌≤◌}
use native.Mathlib.Omega.{arith}
use lib.ListN.{length, get_or, drop}
use Rattle.taskwords.proofs.AnsweringLaws.{answers_refused, answers_said}
use Rattle.boundary.proofs.Called.{ZpRecordGives, zp_record_gives, zp_record_asks_nothing, ZpReadGives, zp_read_gives, zp_read_asks_nothing, ZpWriteGives, zp_write_gives, zp_write_asks_nothing, ZpCheckGives, zp_check_gives, zp_check_asks_nothing, ZpApplyGives, zp_apply_gives, zp_apply_asks_nothing, ZpSolveGives, zp_solve_gives, zp_solve_asks_nothing, ZpOpenGives, zp_open_gives, zp_open_asks_nothing, ZpEditGives, zp_edit_gives, zp_edit_asks_nothing, ZpListGives, zp_list_gives, zp_list_asks_nothing, ZpListingGives, zp_listing_gives, zp_listing_asks_nothing}
use Rattle.taskwords.proofs.LendingLaws.{lent_back_kept}
use Rattle.taskwords.proofs.RoundTrip.{other_length}
use Rattle.boundary.proofs.zp_apply.Reads as zp-apply
use Rattle.boundary.proofs.zp_check.Reads as zp-check
use Rattle.boundary.proofs.zp_edit.Reads as zp-edit
use Rattle.boundary.proofs.zp_list.Reads as zp-list
use Rattle.boundary.proofs.zp_listing.Reads as zp-listing
use Rattle.boundary.proofs.zp_open.Reads as zp-open
use Rattle.boundary.proofs.zp_read.Reads as zp-read
use Rattle.boundary.proofs.zp_record.Reads as zp-record
use Rattle.boundary.proofs.zp_solve.Reads as zp-solve
use Rattle.boundary.proofs.zp_write.Reads as zp-write
use Rattle.taskwords.specs.Answers.{Answers, changed_length, changed_words, checked_words, task_answer}
use Rattle.boundary.specs.BoundaryCalls.{AnswersReply}
use Rattle.taskwords.specs.Words.{task_in, lent_back}
use Rattle.apply.proofs.ApplyLaws.{applies_unformed, applies_unique}
use Rattle.apply.specs.Applying.{first_wrong}
use Rattle.change.specs.Editing.{cell_inside, leaves_lock}
use Rattle.table.specs.declared.TaskReply.{TaskReply}
use Rattle.session.proofs.CallLaws.{open_malformed, open_not_a_session, edit_malformed, edit_not_a_session, edit_outside, edit_locked, listed_malformed, listed_not_a_session}
use Rattle.session.specs.Calls.{edit_refusal}
use Rattle.session.specs.EditNumbers.{edit_of}
use Rattle.session.specs.Sessions.{in_form}
use Rattle.table.proofs.FlagLaws.{by_order}
use Rattle.table.proofs.Formation.{well_formed}
use Rattle.table.specs.Answer.{Permitted}
use Rattle.table.specs.Asks.{AsksNothing}
use Rattle.table.specs.Outcomes.{Outcome, refusal, refused}
use Rattle.table.specs.Tasks.{cells_of, formed, WellFormed, no_task}
use Rattle.table.specs.declared.Reply.{Reply}
use Rattle.table.specs.declared.Task.{Task}
use Rattle.taskformat.specs.Format.{file_of}
use Rattle.taskformat.specs.Reading.{Marks}
use Rattle.taskwriter.proofs.WritingLaws.{written_unformed}
use Rattle.promises.proofs.Demands.{Refused}
use Rattle.promises.proofs.BadInputLaws.{Listed, FileNumber, bad_file, read_number, record_number, check_malformed, check_outside, check_number, apply_number, open_number, edit_number, bad_list, open_refused, edit_refused, write_fair, solve_fair, list_fair, listing_fair}

-- ---- the words

-- What a call gives that is lent nothing besides the answer's room; what one gives that is lent one thing besides; and two.
abbrev pub Alone : Type 0
Alone = ℕ × List ℕ

abbrev pub Lending : Type 0
Lending = ℕ × List ℕ × List ℕ

abbrev pub LendingTwo : Type 0
LendingTwo = ℕ × List ℕ × List ℕ × List ℕ

-- The call was made: these words stand first in the answer's room, nothing else of it was touched, and the first of them was returned.
abbrev pub Said : List ℕ → List ℕ → ℕ → List ℕ → Type 0
Said words answer r after = (r ≡ get_or words 0 0) × (after ≡ words ++ drop (length words) answer)

-- The rule of the answer's room, for an answer of n words: where they have no room 255 is returned and the room is as it was; else n words
-- stand there first, the number returned before all, and the rest of the room is as it was. 255 is returned for nothing else.
pub record AnswerRoom (n : ℕ) (answer : List ℕ) (r : ℕ) (after : List ℕ) : Type 0 where
  pub short : length answer < n → (r ≡ 255) × (after ≡ answer)
  pub only_short : r ≡ 255 → length answer < n
  pub made : n ≤ length answer → (words : List ℕ) × (length words ≡ n) × (r ≡ get_or words 0 0) × (after ≡ words ++ drop n answer)

-- ---- what the demand says

-- "Every call ends and is defined on every input": no function asks anything of its caller.
pub record AllDefinedThere : Type 0 where
  pub record_asks : AsksNothing zp-record.Pre
  pub read_asks : AsksNothing zp-read.Pre
  pub write_asks : AsksNothing zp-write.Pre
  pub check_asks : AsksNothing zp-check.Pre
  pub apply_asks : AsksNothing zp-apply.Pre
  pub solve_asks : AsksNothing zp-solve.Pre
  pub open_asks : AsksNothing zp-open.Pre
  pub edit_asks : AsksNothing zp-edit.Pre
  pub list_asks : AsksNothing zp-list.Pre
  pub listing_asks : AsksNothing zp-listing.Pre

-- The answer's room, of every function: its words are the one thing that a refused call writes, and one that was not made writes not even
-- those.
pub record AnswerRooms : Type 0 where
  pub record_room : (file : List ℕ) (at : ℕ) (answer : List ℕ) (o : Alone) → ZpRecordGives file at answer o → AnswerRoom 6 answer o.0 o.1
  pub read_room : (file answer : List ℕ) (o : Alone) → ZpReadGives file answer o → AnswerRoom 670 answer o.0 o.1
  pub write_room : (ws room answer : List ℕ) (o : Lending) → ZpWriteGives ws room answer o → AnswerRoom 3 answer o.0 o.1
  pub check_room : (ws : List ℕ) (run : ℕ) (answer : List ℕ) (o : Alone) → ZpCheckGives ws run answer o → AnswerRoom 5 answer o.0 o.1
  pub apply_room : (ws list answer : List ℕ) (o : Lending) → ZpApplyGives ws list answer o → AnswerRoom 2 answer o.0 o.1
  pub solve_room : (ws room answer : List ℕ) (o : Lending) → ZpSolveGives ws room answer o → AnswerRoom 3 answer o.0 o.1
  pub open_room : (ws table answer : List ℕ) (o : Lending) → ZpOpenGives ws table answer o → AnswerRoom 3 answer o.0 o.1
  pub edit_room : (ws : List ℕ) (kind whose fact present : ℕ) (table answer : List ℕ) (o : LendingTwo)
      → ZpEditGives ws kind whose fact present table answer o → AnswerRoom 2 answer o.0 o.1
  pub list_room : (ws table room answer : List ℕ) (o : Lending) → ZpListGives ws table room answer o → AnswerRoom 3 answer o.0 o.1
  pub listing_room : (input room answer : List ℕ) (o : Lending) → ZpListingGives input room answer o → AnswerRoom 3 answer o.0 o.1

-- What every function says of words that are no well-formed task, whatever room is lent: 12 at 0, zeros, and all that was lent as it was.
pub record BadWords (ws : List ℕ) : Type 0 where
  pub write_it : (room answer : List ℕ) → 3 ≤ length answer → (o : Lending) → ZpWriteGives ws room answer o
      → Said (12 ∷ 0 ∷ 0 ∷ []) answer o.0 o.1 × (o.2 ≡ room)
  pub check_it : (run : ℕ) (answer : List ℕ) → 5 ≤ length answer → (o : Alone) → ZpCheckGives ws run answer o
      → Said (12 ∷ 0 ∷ 0 ∷ 0 ∷ 0 ∷ []) answer o.0 o.1
  pub apply_it : (list answer : List ℕ) → 2 ≤ length answer → (o : Lending) → ZpApplyGives ws list answer o
      → Said (12 ∷ 0 ∷ []) answer o.0 o.1 × (o.2 ≡ ws)
  pub solve_it : (room answer : List ℕ) → 3 ≤ length answer → (o : Lending) → ZpSolveGives ws room answer o
      → Said (12 ∷ 0 ∷ 0 ∷ []) answer o.0 o.1 × (o.2 ≡ room)
  pub open_it : (table answer : List ℕ) → 3 ≤ length answer → (o : Lending) → ZpOpenGives ws table answer o
      → Said (12 ∷ 0 ∷ 0 ∷ []) answer o.0 o.1 × (o.2 ≡ table)
  pub edit_it : (kind whose fact present : ℕ) (table answer : List ℕ) → 2 ≤ length answer → (o : LendingTwo)
      → ZpEditGives ws kind whose fact present table answer o → Said (12 ∷ 0 ∷ []) answer o.0 o.1 × ((o.2 ≡ ws) × (o.3 ≡ table))
  pub list_it : (table room answer : List ℕ) → 3 ≤ length answer → (o : Lending) → ZpListGives ws table room answer o
      → Said (12 ∷ 0 ∷ 0 ∷ []) answer o.0 o.1 × (o.2 ≡ room)

-- What the session's functions say of a well-formed task and a table of another length, or, in listing, not in form: 13 at 0.
pub record BadTable (ws table : List ℕ) : Type 0 where
  pub open_it : (length table ≡ 448 → ⊥) → (answer : List ℕ) → 3 ≤ length answer → (o : Lending) → ZpOpenGives ws table answer o
      → Said (13 ∷ 0 ∷ 0 ∷ []) answer o.0 o.1 × (o.2 ≡ table)
  pub edit_it : (length table ≡ 448 → ⊥) → (kind whose fact present : ℕ) (answer : List ℕ) → 2 ≤ length answer → (o : LendingTwo)
      → ZpEditGives ws kind whose fact present table answer o → Said (13 ∷ 0 ∷ []) answer o.0 o.1 × ((o.2 ≡ ws) × (o.3 ≡ table))
  pub list_it : in_form (task_in ws) table ≡ false → (room answer : List ℕ) → 3 ≤ length answer → (o : Lending) → ZpListGives ws table room answer o
      → Said (13 ∷ 0 ∷ 0 ∷ []) answer o.0 o.1 × (o.2 ≡ room)

-- "Every call ends and is defined on every input. Bad files, tables, lists and edits get document 01's numbered refusal, and a refused
-- call changes no byte or number lent to it."
pub record BoundaryDemand : Type 0 where
  pub defined : AllDefinedThere
  pub answer_rooms : AnswerRooms
  -- "Bad files": 1 to 8, or 02's 16 or 18, at a byte of the file or, for 1, at its end, and a task of zeros
  pub bad_files : (file : List ℕ) → ((t : Task) → WellFormed t → file ≡ file_of t → ⊥) → (answer : List ℕ) → 670 ≤ length answer → (o : Alone)
      → ZpReadGives file answer o → (0 < o.0) × FileNumber o.0 × ((place : ℕ) × Marks file o.0 place × (o.1 ≡ task_answer o.0 place no_task ++ drop 670 answer))
  -- "tables": of actions (12; another number of words than 668 is none), and of a session (13)
  pub bad_words : (ws : List ℕ) → formed (task_in ws) ≡ false → BadWords ws
  pub other_words : (ws : List ℕ) → (length ws ≡ 668 → ⊥) → BadWords ws
  pub bad_tables : (ws table : List ℕ) → WellFormed (task_in ws) → BadTable ws table
  -- "lists": 15 at the index of the first number that does not ascend or is not permitted
  pub bad_lists : (ws list : List ℕ) → WellFormed (task_in ws) → (Permitted (cells_of (task_in ws).table) list → ⊥) → (answer : List ℕ)
      → 2 ≤ length answer → (o : Lending) → ZpApplyGives ws list answer o
      → Said (15 ∷ first_wrong (cells_of (task_in ws).table) list ∷ []) answer o.0 o.1 × (o.2 ≡ ws)
  -- "and edits": 14, and after it 18 (02, request 6)
  pub bad_edits : (ws : List ℕ) (kind whose fact present : ℕ) (table : List ℕ) → WellFormed (task_in ws) → length table ≡ 448
      → cell_inside (task_in ws) (edit_of kind whose fact present).cell ≡ false → (answer : List ℕ) → 2 ≤ length answer → (o : LendingTwo)
      → ZpEditGives ws kind whose fact present table answer o → Said (14 ∷ 0 ∷ []) answer o.0 o.1 × ((o.2 ≡ ws) × (o.3 ≡ table))
  pub locked_edits : (ws : List ℕ) (kind whose fact present : ℕ) (table : List ℕ) → WellFormed (task_in ws) → length table ≡ 448
      → cell_inside (task_in ws) (edit_of kind whose fact present).cell ≡ true → leaves_lock (task_in ws) (edit_of kind whose fact present) ≡ true
      → (answer : List ℕ) → 2 ≤ length answer → (o : LendingTwo) → ZpEditGives ws kind whose fact present table answer o
      → Said (18 ∷ 0 ∷ []) answer o.0 o.1 × ((o.2 ≡ ws) × (o.3 ≡ table))
  -- 02, request 1: "14 covers a run that isn't there"
  pub no_such_run : (ws : List ℕ) (run : ℕ) → WellFormed (task_in ws) → (task_in ws).runs.many ≤ run → (answer : List ℕ) → 5 ≤ length answer
      → (o : Alone) → ZpCheckGives ws run answer o → Said (14 ∷ 0 ∷ 0 ∷ 0 ∷ 0 ∷ []) answer o.0 o.1
  -- "a refused call changes no byte or number lent to it", and no word but the answer's; one that was not made (255) counts as refused
  pub write_changes_nothing : (ws room answer : List ℕ) (o : Lending) → ZpWriteGives ws room answer o → Refused o.0 → o.2 ≡ room
  pub apply_changes_nothing : (ws list answer : List ℕ) (o : Lending) → ZpApplyGives ws list answer o → Refused o.0 → o.2 ≡ ws
  pub solve_changes_nothing : (ws room answer : List ℕ) (o : Lending) → ZpSolveGives ws room answer o → Refused o.0 → o.2 ≡ room
  pub open_changes_nothing : (ws table answer : List ℕ) (o : Lending) → ZpOpenGives ws table answer o → Refused o.0 → o.2 ≡ table
  pub edit_changes_nothing : (ws : List ℕ) (kind whose fact present : ℕ) (table answer : List ℕ) (o : LendingTwo)
      → ZpEditGives ws kind whose fact present table answer o → Refused o.0 → (o.2 ≡ ws) × (o.3 ≡ table)
  pub list_changes_nothing : (ws table room answer : List ℕ) (o : Lending) → ZpListGives ws table room answer o → Refused o.0 → o.2 ≡ room
  pub listing_changes_nothing : (input room answer : List ℕ) (o : Lending) → ZpListingGives input room answer o → Refused o.0 → o.2 ≡ room

-- ---- a call of the boundary

-- The call was made with a number of 01's or 02's, and so not with 255.
room_of : {n : ℕ} {Untouched : Type 0} {Due : List ℕ → Type 0} {answer after : List ℕ} {r : ℕ} → Answers n Untouched Due answer after r
    → ((words : List ℕ) → Due words → Listed (get_or words 0 0)) → AnswerRoom n answer r after
room_of {n} {answer = answer} a number = record {
  short = λ h. ((a.short h).0, (a.short h).1);
  only_short = λ e.
      by_order (length answer) n (λ h. h)
      (λ h.
      let x = a.given h in
      absurd (omega (arith, x.3, number x.0 x.2)));
  made = λ h.
      let x = a.given h in
      (x.0, x.1, x.3, x.4);
}

-- A call whose answer is that of an inner result y.
module _ {Y Untouched : Type 0} {n : ℕ} {Inner : Y → Type 0} {out : Y → List ℕ} {answer after : List ℕ} {r : ℕ}
    (a : Answers n Untouched (λ words. (y : Y) × Inner y × (words ≡ out y)) answer after r) where
  -- The first of the words is the number of the result.
  pub told_room : ((y : Y) → Inner y → Listed (get_or (out y) 0 0)) → AnswerRoom n answer r after
  told_room number = room_of a (λ words t. omega (arith, ap (λ w. get_or w 0 0) t.2, number t.0 t.1))

  -- Where the only result is z, its words are said.
  pub said_of : (z : Y) → ((y : Y) → Inner y → (y ≡ z) × Untouched) → n ≤ length answer
      → ((r ≡ get_or (out z) 0 0) × (after ≡ out z ++ drop n answer)) × Untouched
  said_of z only h =
      let x = a.given h in
      (answers_said a h (out z) (λ words t. t.2 ∙ ap out (only t.0 t.1).0), (only x.2.0 x.2.1).1)

  -- Where a refused result leaves what was lent, so does the call.
  pub kept_of : ((y : Y) → Inner y → (get_or (out y) 0 0 ≡ 0 → ⊥) → Untouched) → Refused r → Untouched
  kept_of keeps nonzero =
      answers_refused a nonzero (λ e. e) (λ words t first. keeps t.0 t.1 (λ e. first (ap (λ w. get_or w 0 0) t.2 ∙ e)))

-- One whose reply and room are an outcome, where only the refusal n is given.
pub outcome_said : {room left answer after : List ℕ} {r : ℕ} {Replies : Reply → Type 0} → AnswersReply room left Replies answer after r → (n : ℕ)
    → ((y : Reply) → Replies y → ◌≡◌ {A = Outcome} (record { reply = y; room = left }) (refused n room)) → 3 ≤ length answer
    → Said (n ∷ 0 ∷ 0 ∷ []) answer r after × (left ≡ room)
outcome_said a n only =
    said_of a (refusal n) (λ y g. (ap (λ (u : Outcome). u.reply) (only y g), ap (λ (u : Outcome). u.room) (only y g)))

-- One that changes the task, where only the refusal n at a place is given: the task's words are left, and what else the result leaves.
pub changed_said : (ws : List ℕ) {left answer after : List ℕ} {r : ℕ} {Untouched : Type 0} {Changes : TaskReply → Type 0}
    → Answers changed_length Untouched
    (λ words. (y : TaskReply) × (Changes y × (left ≡ lent_back ws y.number y.task)) × (words ≡ changed_words y.number y.place)) answer after r
    → (n place : ℕ) → 0 < n
    → ((y : TaskReply) → Changes y → (y ≡ record { number = n; place = place; task = task_in ws }) × (left ≡ ws → Untouched)) → 2 ≤ length answer
    → Said (n ∷ place ∷ []) answer r after × Untouched
changed_said ws a n place h only =
    said_of a (record { number = n; place = place; task = task_in ws })
    (λ y i.
    let e = only y i.0 in
    let number = ap (λ (u : TaskReply). u.number) e.0 in
    (e.0, e.1 (i.1 ∙ lent_back_kept ws y.number y.task (λ k. omega arith))))

-- ---- the theorems

rooms : AnswerRooms
rooms = record {
  record_room = λ file at answer o g.
      room_of (zp_record_gives file at answer o g) (λ words e. omega (arith, ap (λ w. get_or w 0 0) e, record_number file at));
  read_room = λ file answer o g. told_room (zp_read_gives file answer o g) (read_number file);
  write_room = λ ws room answer o g. told_room (zp_write_gives ws room answer o g) (λ y i. (write_fair (task_in ws) room _ i).listed);
  check_room = λ ws run answer o g.
      room_of (zp_check_gives ws run answer o g) (λ words e. omega (arith, ap (λ w. get_or w 0 0) e, check_number (task_in ws) run));
  apply_room = λ ws list answer o g. told_room (zp_apply_gives ws list answer o g) (λ y i. apply_number (task_in ws) list y i.0);
  solve_room = λ ws room answer o g. told_room (zp_solve_gives ws room answer o g) (λ y i. (solve_fair (task_in ws) room _ i).listed);
  open_room = λ ws table answer o g. told_room (zp_open_gives ws table answer o g) (λ y. open_number (task_in ws) table y o.2);
  edit_room = λ ws kind whose fact present table answer o g.
      told_room (zp_edit_gives ws kind whose fact present table answer o g)
      (λ y i. edit_number (task_in ws) table (edit_of kind whose fact present) y o.3 i.0);
  list_room = λ ws table room answer o g. told_room (zp_list_gives ws table room answer o g) (λ y i. (list_fair (task_in ws) table room _ i).listed);
  listing_room = λ input room answer o g. told_room (zp_listing_gives input room answer o g) (λ y i. (listing_fair input room _ i).listed);
}

-- An edit, where the refusal is n at place 0.
edited_said : (ws : List ℕ) (kind whose fact present : ℕ) (table answer : List ℕ) → 2 ≤ length answer → (o : LendingTwo)
    → ZpEditGives ws kind whose fact present table answer o → (n : ℕ) → 0 < n
    → edit_refusal (task_in ws) table (edit_of kind whose fact present) ≡ record { number = n; place = 0 }
    → Said (n ∷ 0 ∷ []) answer o.0 o.1 × ((o.2 ≡ ws) × (o.3 ≡ table))
edited_said ws kind whose fact present table answer enough o g n h is =
    changed_said ws (zp_edit_gives ws kind whose fact present table answer o g) n 0 h
    (λ y i. let same = edit_refused (task_in ws) table (edit_of kind whose fact present) n h is y i in (same.0, λ e. (e, same.1))) enough

words_bad : (ws : List ℕ) → formed (task_in ws) ≡ false → BadWords ws
words_bad ws h =
    let t = task_in ws in
    record {
      write_it = λ room answer n o g. outcome_said (zp_write_gives ws room answer o g) 12 (λ y e. e ∙ written_unformed t room h) n;
      check_it = λ run answer n o g.
          answers_said (zp_check_gives ws run answer o g) n (12 ∷ 0 ∷ 0 ∷ 0 ∷ 0 ∷ []) (λ words e. e ∙ ap checked_words (check_malformed t run h));
      apply_it = λ list answer n o g.
          changed_said ws (zp_apply_gives ws list answer o g) 12 0 (omega arith)
          (λ y i. (applies_unique t list y _ i (applies_unformed t list h), λ e. e)) n;
      solve_it = λ room answer n o g. outcome_said (zp_solve_gives ws room answer o g) 12 (λ y s. s.malformed h) n;
      open_it = λ table answer n o g.
          said_of (zp_open_gives ws table answer o g) (refusal 12) (open_refused t table 12 (omega arith) (open_malformed t table h)) n;
      edit_it = λ kind whose fact present table answer n o g.
          edited_said ws kind whose fact present table answer n o g 12 (omega arith) (edit_malformed t table (edit_of kind whose fact present) h);
      list_it = λ table room answer n o g. outcome_said (zp_list_gives ws table room answer o g) 12 (λ y e. e ∙ listed_malformed t table room h) n;
    }

table_bad : (ws table : List ℕ) → WellFormed (task_in ws) → BadTable ws table
table_bad ws table w =
    let t = task_in ws in
    let f = well_formed t w in
    record {
      open_it = λ other answer n o g.
          said_of (zp_open_gives ws table answer o g) (refusal 13) (open_refused t table 13 (omega arith) (open_not_a_session t table f other)) n;
      edit_it = λ other kind whose fact present answer n o g.
          edited_said ws kind whose fact present table answer n o g 13 (omega arith)
          (edit_not_a_session t table (edit_of kind whose fact present) f other);
      list_it = λ h room answer n o g. outcome_said (zp_list_gives ws table room answer o g) 13 (λ y e. e ∙ listed_not_a_session t table room w h) n;
    }

file_bad : (file : List ℕ) → ((t : Task) → WellFormed t → file ≡ file_of t → ⊥) → (answer : List ℕ) → 670 ≤ length answer → (o : Alone)
    → ZpReadGives file answer o → (0 < o.0) × FileNumber o.0 × ((place : ℕ) × Marks file o.0 place × (o.1 ≡ task_answer o.0 place no_task ++ drop 670 answer))
file_bad file none answer n o g =
    let x = (zp_read_gives file answer o g).given n in
    let y = x.2.0 in
    let bad = bad_file file y x.2.1 none in
    let number : o.0 ≡ y.number = x.3 ∙ ap (λ w. get_or w 0 0) x.2.2 in (
      omega (arith, bad.numbered.0),
      subst FileNumber (sym number) bad.numbered.1,
      (
        y.place,
        subst (λ (m : ℕ). Marks file m y.place) (sym number) bad.marked,
        x.4 ∙ ap (λ w. w ++ drop 670 answer) x.2.2 ∙
            (λ i. task_answer (sym number i) y.place (bad.zeros i) ++ drop 670 answer),
      ),
    )

pub boundary_demand : BoundaryDemand
boundary_demand = record {
  defined = record {
    record_asks = zp_record_asks_nothing;
    read_asks = zp_read_asks_nothing;
    write_asks = zp_write_asks_nothing;
    check_asks = zp_check_asks_nothing;
    apply_asks = zp_apply_asks_nothing;
    solve_asks = zp_solve_asks_nothing;
    open_asks = zp_open_asks_nothing;
    edit_asks = zp_edit_asks_nothing;
    list_asks = zp_list_asks_nothing;
    listing_asks = zp_listing_asks_nothing;
  };
  answer_rooms = rooms;
  bad_files = file_bad;
  bad_words = words_bad;
  other_words = λ ws h. words_bad ws (other_length ws h);
  bad_tables = table_bad;
  bad_lists = λ ws list w bad answer n o g.
      changed_said ws (zp_apply_gives ws list answer o g) 15 (first_wrong (cells_of (task_in ws).table) list) (omega arith)
      (λ y i. (bad_list (task_in ws) w (well_formed (task_in ws) w) list bad y i, λ e. e)) n;
  bad_edits = λ ws kind whose fact present table w h outside answer n o g.
      edited_said ws kind whose fact present table answer n o g 14 (omega arith)
      (edit_outside (task_in ws) table (edit_of kind whose fact present) (well_formed (task_in ws) w) h outside);
  locked_edits = λ ws kind whose fact present table w h inside locked answer n o g.
      edited_said ws kind whose fact present table answer n o g 18 (omega arith)
      (edit_locked (task_in ws) table (edit_of kind whose fact present) (well_formed (task_in ws) w) h inside locked);
  no_such_run = λ ws run w past answer n o g.
      answers_said (zp_check_gives ws run answer o g) n (14 ∷ 0 ∷ 0 ∷ 0 ∷ 0 ∷ [])
      (λ words e. e ∙ ap checked_words (check_outside (task_in ws) run (well_formed (task_in ws) w) past));
  write_changes_nothing = λ ws room answer o g. kept_of (zp_write_gives ws room answer o g) (λ y i. (write_fair (task_in ws) room _ i).keeps);
  apply_changes_nothing = λ ws list answer o g.
      kept_of (zp_apply_gives ws list answer o g) (λ y i first. i.1 ∙ lent_back_kept ws y.number y.task first);
  solve_changes_nothing = λ ws room answer o g. kept_of (zp_solve_gives ws room answer o g) (λ y i. (solve_fair (task_in ws) room _ i).keeps);
  open_changes_nothing = λ ws table answer o g. kept_of (zp_open_gives ws table answer o g) (λ y i first. (i.refused first).1);
  edit_changes_nothing = λ ws kind whose fact present table answer o g.
      kept_of (zp_edit_gives ws kind whose fact present table answer o g)
      (λ y i first. (i.1 ∙ lent_back_kept ws y.number y.task first, (i.0.refused first).1));
  list_changes_nothing = λ ws table room answer o g.
      kept_of (zp_list_gives ws table room answer o g) (λ y i. (list_fair (task_in ws) table room _ i).keeps);
  listing_changes_nothing = λ input room answer o g. kept_of (zp_listing_gives input room answer o g) (λ y i. (listing_fair input room _ i).keeps);
}
