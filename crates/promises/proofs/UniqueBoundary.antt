-- "Two results that both satisfy it are shown equal" (document 01, "How tight the contracts are"), for the record reader's calls and for
-- the boundary's, over the contract above each function (`..Gives`: the crate's proofs/Called). (The calls of the library: Unique.) Of a body
-- that the record reader hands out, the bytes are determined, not the address where they stand. Assumes nothing.
use mathlib.Core.List.{List}
use mathlib.Core.Path.{◌≡◌, refl, sym, ap, ◌∙◌}
use Prim.Native.Nat.{ℕ}
use denote.Ref.{Bor}
use Rattle.taskwords.proofs.AnsweringLaws.{answers_one}
use Rattle.boundary.proofs.Called.{ZpRecordGives, zp_record_gives, ZpReadGives, zp_read_gives, ZpWriteGives, zp_write_gives, ZpCheckGives, zp_check_gives, ZpApplyGives, zp_apply_gives, ZpSolveGives, zp_solve_gives, ZpOpenGives, zp_open_gives, ZpEditGives, zp_edit_gives, ZpListGives, zp_list_gives, ZpListingGives, zp_listing_gives, ZpWriteDomainGives, zp_write_domain_gives, ZpWriteProblemGives, zp_write_problem_gives, ZpReadDomainGives, zp_read_domain_gives, ZpReadProblemGives, zp_read_problem_gives, ZpAddRunGives, zp_add_run_gives}
use Rattle.taskwords.specs.Answers.{Answers, changed_words, reply_words, problem_words, checked_words, record_words, task_answer}
use Rattle.boundary.specs.BoundaryCalls.{Nothing, AnswersOutcome}
use Rattle.taskwords.specs.Words.{task_in, lent_back}
use Rattle.addrun.specs.Adding.{run_added}
use Rattle.apply.proofs.ApplyLaws.{applies_unique}
use Rattle.apply.specs.Applying.{Applies}
use Rattle.table.specs.declared.TaskReply.{TaskReply}
use Rattle.listing.proofs.Determined.{listing_unique}
use Rattle.pddl.proofs.ReadBack.{reads_domain_once, reads_problem_once}
use Rattle.pddl.specs.declared.ProblemReply.{ProblemReply}
use Rattle.pddlwriter.specs.Writing.{domain_written, problem_written}
use Rattle.recordreader.proofs.Called.{NewGives, NextGives, ReaderBodyGives, MovedOnGives, PlaceAfterGives, place_after_gives}
use Rattle.recordreader.proofs.PlaceLaws.{file_and_place_tell}
use Rattle.recordreader.specs.Places.{place_after}
use Rattle.recordreader.specs.declared.Reader.{Reader}
use Rattle.runcheck.specs.OpenNeeds.{checked}
use Rattle.session.specs.Calls.{Opens, Edits, listed}
use Rattle.session.specs.EditNumbers.{edit_of}
use Rattle.solve.proofs.SolveLaws.{solve_unique}
use Rattle.table.specs.Outcomes.{Outcome}
use Rattle.taskformat.proofs.Unique.{reads_unique}
use Rattle.records.specs.Records.{record_at, body_of}
use Rattle.taskwriter.specs.Writing.{written}
use Rattle.promises.specs.Determined.{Determined}
use Rattle.promises.proofs.Unique.{one_given, equation, open_determined, edit_determined}

-- ---- the record reader

-- new: the file lent and the place. moved_on: the same file and the next place.
pub new_unique : (file : Bor (List ℕ)) → Determined (NewGives file)
new_unique file r q a b = file_and_place_tell r q (a.0 ∙ sym b.0) (a.1 ∙ sym b.1)

pub moved_on_unique : (reader : Reader) → Determined (MovedOnGives reader)
moved_on_unique reader r q a b = file_and_place_tell r q (a.0 ∙ sym b.0) (a.1 ∙ sym b.1)

-- next: the record at the reader's place
pub next_unique : (reader : Reader) → Determined (NextGives reader)
next_unique reader = equation (record_at reader.file.now reader.at)

-- body: the bytes that the slice handed out holds
pub reader_body_unique : (reader : Reader) (b c : Bor (List ℕ)) → ReaderBodyGives reader b → ReaderBodyGives reader c → b.now ≡ c.now
reader_body_unique reader b c = equation (body_of reader.file.now reader.at) b.now c.now

-- place_after
pub place_after_unique : (s : List ℕ) (at : ℕ) → Determined (PlaceAfterGives s at)
place_after_unique s at = one_given (place_after_gives s at) (equation (place_after s at))

-- ---- the boundary: what a call gives, o, is the number returned (.0), the answer's words afterwards (.1) and what else was lent to be
-- written, as it is afterwards

-- A call that is lent nothing but the answer's room.
alone : {n : ℕ} {Due : List ℕ → Type 0} {answer : List ℕ} → Determined Due → Determined (λ (o : ℕ × List ℕ). Answers n Nothing Due answer o.1 o.0)
alone {n} {Due} {answer} one r q a b =
    let told : (l m : Nothing) (u v : List ℕ) → Due u → Due v → (l ≡ m) × (u ≡ v) = λ l m u v x y. (refl, one u v x y) in
    let same = answers_one {Lent = Nothing} n (λ _. Nothing) (λ _. Due) answer (λ l m _ _. refl) told tt tt r.1 q.1 r.0 q.0 a b in
    λ i. (same.0 i, same.1 i)

-- One that is lent something besides, l: there stands what the inner call, with the result y, leaves or, where the answer's room is too
-- short, what was lent.
module _ {Y L : Type 0} {Kept : L → Type 0} (Inner : Y → L → Type 0) (out : Y → List ℕ) (kept : Determined Kept)
    (one : Determined (λ (o : Y × L). Inner o.0 o.1)) where
  abbrev Due : L → List ℕ → Type 0
  Due l words = (y : Y) × Inner y l × (words ≡ out y)

  told_one : (l m : L) (u v : List ℕ) → Due l u → Due m v → (l ≡ m) × (u ≡ v)
  told_one l m u v a b =
      let same = one (a.0, l) (b.0, m) a.1 b.1 in
      (ap (λ (o : Y × L). o.1) same, a.2 ∙ ap (λ (o : Y × L). out o.0) same ∙ sym b.2)

  lending : {n : ℕ} {answer : List ℕ} → Determined (λ (o : ℕ × List ℕ × L). Answers n (Kept o.2) (Due o.2) answer o.1 o.0)
  lending {n} {answer} r q a b =
      let same = answers_one n Kept Due answer kept told_one r.2 q.2 r.1 q.1 r.0 q.0 a b in
      λ i. (same.0 i, same.1 i, same.2 i)

-- One whose inner call gives an outcome: a reply, and the room.
filling : {Inner : Outcome → Type 0} {room answer : List ℕ} → Determined Inner
    → Determined (λ (o : ℕ × List ℕ × List ℕ). AnswersOutcome room o.2 Inner answer o.1 o.0)
filling {Inner} {room} one =
    lending (λ y after. Inner (record { reply = y; room = after })) reply_words (equation room)
    (λ r q a b. ap (λ (o : Outcome). (o.reply, o.room)) (one (record { reply = r.0; room = r.1 }) (record { reply = q.0; room = q.1 }) a b))

-- One that changes the task: beside its result y the words of the task are left, as y has them.
left_as_told : (ws : List ℕ) {left other : List ℕ} {y z : TaskReply} → y ≡ z → left ≡ lent_back ws y.number y.task → other ≡ lent_back ws z.number z.task
    → left ≡ other
left_as_told ws same a b = a ∙ ap (λ (y : TaskReply). lent_back ws y.number y.task) same ∙ sym b

-- zp_record, zp_check: the answer's words are the definition's
pub zp_record_unique : (file : List ℕ) (at : ℕ) (answer : List ℕ) → Determined (ZpRecordGives file at answer)
zp_record_unique file at answer = one_given (zp_record_gives file at answer) (alone (equation (record_words (record_at file at))))

pub zp_check_unique : (ws : List ℕ) (run : ℕ) (answer : List ℕ) → Determined (ZpCheckGives ws run answer)
zp_check_unique ws run answer = one_given (zp_check_gives ws run answer) (alone (equation (checked_words (checked (task_in ws) run))))

-- zp_read: the words of the one task that is read
pub zp_read_unique : (file answer : List ℕ) → Determined (ZpReadGives file answer)
zp_read_unique file answer =
    let out : TaskReply → List ℕ = λ y. task_answer y.number y.place y.task in
    one_given (zp_read_gives file answer) (alone (λ u v x y. x.2 ∙ ap out (reads_unique x.1 y.1) ∙ sym y.2))

-- zp_write, zp_solve, zp_list, zp_listing: the reply's words, and the room afterwards
pub zp_write_unique : (ws room answer : List ℕ) → Determined (ZpWriteGives ws room answer)
zp_write_unique ws room answer = one_given (zp_write_gives ws room answer) (filling (equation (written (task_in ws) room)))

pub zp_solve_unique : (ws room answer : List ℕ) → Determined (ZpSolveGives ws room answer)
zp_solve_unique ws room answer = one_given (zp_solve_gives ws room answer) (filling (solve_unique (task_in ws) room))

pub zp_list_unique : (ws table room answer : List ℕ) → Determined (ZpListGives ws table room answer)
zp_list_unique ws table room answer = one_given (zp_list_gives ws table room answer) (filling (equation (listed (task_in ws) table room)))

pub zp_listing_unique : (input room answer : List ℕ) → Determined (ZpListingGives input room answer)
zp_listing_unique input room answer = one_given (zp_listing_gives input room answer) (filling (λ r q. listing_unique {input = input} {room = room}))

-- zp_open: the reply's words, and the table afterwards
pub zp_open_unique : (ws table answer : List ℕ) → Determined (ZpOpenGives ws table answer)
zp_open_unique ws table answer =
    one_given (zp_open_gives ws table answer) (lending (Opens (task_in ws) table) reply_words (equation table) (open_determined (task_in ws) table))

-- zp_apply: number and place, and the task's words afterwards
pub zp_apply_unique : (ws list answer : List ℕ) → Determined (ZpApplyGives ws list answer)
zp_apply_unique ws list answer =
    one_given (zp_apply_gives ws list answer)
    (lending (λ y left. Applies (task_in ws) list y × (left ≡ lent_back ws y.number y.task))
    (λ (y : TaskReply). changed_words y.number y.place) (equation ws)
    (λ r q a b.
    let same = applies_unique (task_in ws) list r.0 q.0 a.0 b.0 in
    λ i. (same i, left_as_told ws same a.1 b.1 i)))

-- zp_edit: number and place, the task's words and the table afterwards
pub zp_edit_unique : (ws : List ℕ) (kind whose fact present : ℕ) (table answer : List ℕ)
    → Determined (ZpEditGives ws kind whose fact present table answer)
zp_edit_unique ws kind whose fact present table answer r q a b =
    let told = zp_edit_gives ws kind whose fact present table answer in
    let e = edit_of kind whose fact present in
    let same = lending {L = List ℕ × List ℕ} {Kept = λ l. (l.0 ≡ ws) × (l.1 ≡ table)}
    (λ y l. Edits (task_in ws) table e y l.1 × (l.0 ≡ lent_back ws y.number y.task))
    (λ (y : TaskReply). changed_words y.number y.place)
    (λ l m a b. λ i. ((a.0 ∙ sym b.0) i, (a.1 ∙ sym b.1) i))
    (λ r q a b.
    let same = edit_determined (task_in ws) table e (r.0, r.1.1) (q.0, q.1.1) a.0 b.0 in
    λ i. ((same i).0, (left_as_told ws (ap (λ (o : TaskReply × List ℕ). o.0) same) a.1 b.1 i, (same i).1)))
    (r.0, r.1, (r.2, r.3)) (q.0, q.1, (q.2, q.3)) (told r a) (told q b) in
    λ i. ((same i).0, (same i).1, (same i).2.0, (same i).2.1)

-- ---- 02, request 4

-- zp_write_domain, zp_write_problem: the reply's words, and the room afterwards
pub zp_write_domain_unique : (ws room answer : List ℕ) → Determined (ZpWriteDomainGives ws room answer)
zp_write_domain_unique ws room answer = one_given (zp_write_domain_gives ws room answer) (filling (equation (domain_written (task_in ws) room)))

pub zp_write_problem_unique : (ws : List ℕ) (run : ℕ) (room answer : List ℕ) → Determined (ZpWriteProblemGives ws run room answer)
zp_write_problem_unique ws run room answer =
    one_given (zp_write_problem_gives ws run room answer) (filling (equation (problem_written (task_in ws) run room)))

-- zp_read_domain, zp_read_problem: the words of the one table, and of the one start and goal, that are read
pub zp_read_domain_unique : (text : List ℕ) (limit : ℕ) (answer : List ℕ) → Determined (ZpReadDomainGives text limit answer)
zp_read_domain_unique text limit answer =
    let out : TaskReply → List ℕ = λ y. task_answer y.number y.place y.task in
    one_given (zp_read_domain_gives text limit answer) (alone (λ u v x y. x.2 ∙ ap out (reads_domain_once x.1 y.1) ∙ sym y.2))

pub zp_read_problem_unique : (text : List ℕ) (facts : ℕ) (answer : List ℕ) → Determined (ZpReadProblemGives text facts answer)
zp_read_problem_unique text facts answer =
    let out : ProblemReply → List ℕ = λ y. problem_words y.number y.place y.start y.goal in
    one_given (zp_read_problem_gives text facts answer) (alone (λ u v x y. x.2 ∙ ap out (reads_problem_once x.1 y.1) ∙ sym y.2))

-- zp_add_run: number and place, and the task's words afterwards
pub zp_add_run_unique : (ws : List ℕ) (start goal : ℕ) (steps answer : List ℕ) → Determined (ZpAddRunGives ws start goal steps answer)
zp_add_run_unique ws start goal steps answer =
    one_given (zp_add_run_gives ws start goal steps answer)
    (lending (λ y left. (y ≡ run_added (task_in ws) start goal steps) × (left ≡ lent_back ws y.number y.task))
    (λ (y : TaskReply). changed_words y.number y.place) (equation ws)
    (λ r q a b.
    let same = a.0 ∙ sym b.0 in
    λ i. (same i, left_as_told ws same a.1 b.1 i)))
