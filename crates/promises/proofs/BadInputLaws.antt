-- What demand 1 needs of the calls' contracts: each bad input's refusal, that every number is one of document 01's or 02's (so that 255, the
-- boundary's own, is none), and that a refusal leaves what was lent as it was. Assumes nothing.
use mathlib.Core.Bool.{Bool, true, false, cond, not}
use mathlib.Core.List.{List}
use mathlib.Core.Logic.{◌⊎◌, inl, inr, ⊎_elim}
use mathlib.Core.Path.{◌≡◌, refl, sym, ap, subst}
use Prim.Native.Nat.{ℕ, ◌+◌, ◌<◌, ◌≤◌}
use native.Mathlib.Omega.{arith}
use lib.Dec.{eqb, ltb}
use lib.ListN.{length}
use borrow.Author.Tests.{le-ltb}
use Rattle.addrun.specs.Adding.{with_run, refused_run, run_added}
use Rattle.apply.proofs.ApplyLaws.{applies_wrong, applies_unique}
use Rattle.apply.proofs.PermittedLaws.{first_wrong_le, permitted_list}
use Rattle.apply.specs.Applying.{first_wrong, apply_refusal, Applies}
use Rattle.change.specs.declared.Edit.{Edit}
use Rattle.listing.specs.Listing.{ListsInto}
use Rattle.pddl.specs.Readings.{ReadsDomain, domain, ReadsProblem, no_size, problem}
use Rattle.pddl.specs.Readings as readings
use Rattle.pddl.specs.Texts.{domain_text}
use Rattle.pddl.specs.declared.ProblemReply.{ProblemReply}
use Rattle.pddlwriter.specs.Writing.{domain_written, problem_of, problem_written}
use Rattle.runcheck.specs.OpenNeeds.{states_of, total_open, first_open, lowest_open, open_needs, refused_check, open_report, checked}
use Rattle.runcheck.specs.declared.Checked.{Checked}
use Rattle.search.specs.Rows.{verdict_in}
use Rattle.session.proofs.CallLaws.{opens_refused, edits_refused, opens_unique, edits_unique}
use Rattle.session.specs.Calls.{open_refusal, Opens, edit_refusal, Edits, listed}
use Rattle.session.specs.Sessions.{in_form}
use Rattle.solve.specs.Solving.{told, Solves}
use Rattle.rows.specs.Tables.{row_at}
use Rattle.table.proofs.FlagLaws.{by_order}
use Rattle.table.proofs.OutcomeLaws.{given_cases}
use Rattle.table.proofs.RefusalLaws.{first_of_in}
use Rattle.table.specs.Answer.{Verdict, found, over, hopeless, Permitted}
use Rattle.table.specs.Join.{join_verdicts}
use Rattle.table.specs.Outcomes.{Outcome, refusal, refused, given}
use Rattle.table.specs.Refusals.{accepted, bytes_after_end, not_well_formed, not_a_session, not_there, list_not_permitted, too_many_runs, lock_without_need}
use Rattle.table.specs.Tasks.{cells_of, course_of, formed, WellFormed, no_task}
use Rattle.table.specs.declared.Reply.{Reply}
use Rattle.table.specs.declared.Task.{Task}
use Rattle.table.specs.declared.TaskReply.{TaskReply}
use Rattle.taskformat.proofs.FilesAreTasks.{accepted_exactly, accepted_read_lem}
use Rattle.taskformat.proofs.Places.{read_marks}
use Rattle.taskformat.specs.Format.{file_of}
use Rattle.taskformat.specs.Reading.{accepted_read, Seen, faults_at, fault_at, Marks, Reads, ReadsFile, faulty, good, ended, trailing}
use Rattle.records.specs.Records.{record_fault, record_at, whole_record, refused_record}
use Rattle.records.specs.declared.record.RecordReply.{RecordReply}
use Rattle.taskwriter.specs.Writing.{written}

-- A number of document 01's table, or of 02's requests 1, 4 and 6.
abbrev pub Listed : ℕ → Type 0
Listed n = n ≤ 18

-- One that reading gives: 1 to 8, 16 (02, request 1) or 18 (request 6); or 0.
abbrev pub FileNumber : ℕ → Type 0
FileNumber n = (n ≤ bytes_after_end) ⊎ ((n ≡ too_many_runs) ⊎ (n ≡ lock_without_need))

-- Of two results one is given, and either is right.
either : {A : Type 0} (Right : A → Type 0) (b : Bool) (x y : A) → Right x → Right y → Right (cond {A = A} b x y)
either Right true x y h k = h
either Right false x y h k = k

-- ---- files

fault_number : (s : List ℕ) (at : ℕ) (seen : Seen) → FileNumber (fault_at s at seen).number
unfolding faults_at
fault_number s at seen =
    first_of_in FileNumber (faults_at s at seen) (inl (omega arith))
    (inl (omega arith), (inl (omega arith), (inl (omega arith), (inl (omega arith), (inl (omega arith), (inl (omega arith), (inl (omega arith), (inr (inl refl), (inr (inr refl), (inl (omega arith), tt))))))))))

-- What a refused read gives. The byte that it marks (02, request 2) is there to be marked, or the file ends where more has to come.
pub record BadFile (s : List ℕ) (r : TaskReply) : Type 0 where
  pub numbered : (0 < r.number) × FileNumber r.number
  pub zeros : r.task ≡ no_task
  pub marked : Marks s r.number r.place

bad_from : {s : List ℕ} {r : TaskReply} {at : ℕ} {seen : Seen} → Reads s r at seen → (r.number ≡ accepted → ⊥)
    → (0 < r.number) × FileNumber r.number × (r.task ≡ no_task)
bad_from {s} (faulty {at} {seen} f e) nonzero = (
  omega (arith, ap (λ (q : TaskReply). q.number) e),
  subst FileNumber (ap (λ (q : TaskReply). q.number) (sym e)) (fault_number s at seen),
  ap (λ (q : TaskReply). q.task) e,
)
bad_from (good c more rest) nonzero = bad_from rest nonzero
bad_from (ended c is last e) nonzero = absurd (nonzero (ap (λ (q : TaskReply). q.number) e))
bad_from (trailing c is more e) nonzero = (
  omega (arith, ap (λ (q : TaskReply). q.number) e),
  inl (omega (arith, ap (λ (q : TaskReply). q.number) e)),
  ap (λ (q : TaskReply). q.task) e,
)

-- Bytes that are no well-formed task's file get a number from 1 to 8, or 16, or 18, and a task of zeros.
pub bad_file : (s : List ℕ) (r : TaskReply) → ReadsFile s r → ((t : Task) → WellFormed t → s ≡ file_of t → ⊥) → BadFile s r
bad_file s r reads none =
    let bad = bad_from reads (λ ok.
    let p = (accepted_exactly s r.task).0 (subst (ReadsFile s) (accepted_read_lem reads ok) reads) in
    none r.task p.0 p.1) in
    record { numbered = (bad.0, bad.1); zeros = bad.2; marked = read_marks s r reads bad.0 }

pub read_number : (s : List ℕ) (r : TaskReply) → ReadsFile s r → Listed r.number
read_number s r reads =
    by_order r.number 1 (λ h. omega arith)
    (λ h. ⊎_elim (λ low. omega arith) (⊎_elim (λ same. omega arith) (λ same. omega arith)) (bad_from reads (λ e. omega arith)).1)

record_fault_lem : (s : List ℕ) (at : ℕ) → Listed (record_fault s at).number
unfolding record_fault
record_fault_lem s at = first_of_in Listed _ (omega arith) (omega arith, (omega arith, (omega arith, tt)))

pub record_number : (s : List ℕ) (at : ℕ) → Listed (record_at s at).number
unfolding record_at
record_number s at =
    either (λ (r : RecordReply). Listed r.number) (eqb (record_fault s at).number accepted) (whole_record s at)
    (refused_record (record_fault s at).number (record_fault s at).place) (omega arith) (record_fault_lem s at)

-- ---- the run check

pub check_malformed : (t : Task) (run : ℕ) → formed t ≡ false → checked t run ≡ refused_check not_well_formed
unfolding checked
check_malformed t run e = rw e

-- "14 covers a run that isn't there."
pub check_outside : (t : Task) (run : ℕ) → formed t ≡ true → t.runs.many ≤ run → checked t run ≡ refused_check not_there
unfolding checked
check_outside t run e h = rw (e, le-ltb run t.runs.many h)

pub check_number : (t : Task) (run : ℕ) → Listed (checked t run).number
unfolding checked open_report
check_number t run =
    let c = cells_of t.table in
    let r = course_of t.runs run in
    let s = states_of t run in
    let listed : Checked → Type 0 = λ k. Listed k.number in
    either listed (not (formed t)) (refused_check not_well_formed) _ (omega arith)
    (either listed (not (ltb run t.runs.many)) (refused_check not_there) (open_report c r s) (omega arith)
    (either listed (eqb (total_open c r s) 0) (open_needs 0 0 0) (open_needs (total_open c r s) (first_open c r s + 1) (lowest_open c r s)) (omega arith)
    (omega arith)))

-- ---- calls whose refusals are checks in order: applying a list, opening, an edit

pub apply_number : (t : Task) (l : List ℕ) (r : TaskReply) → Applies t l r → Listed r.number
unfolding apply_refusal
apply_number t l r a = subst Listed (sym a.number) (first_of_in Listed _ (omega arith) (omega arith, (omega arith, tt)))

pub open_number : (t : Task) (s : List ℕ) (r : Reply) (after : List ℕ) → Opens t s r after → Listed r.number
unfolding open_refusal
open_number t s r after a = subst Listed (sym a.number) (first_of_in Listed _ (omega arith) (omega arith, (omega arith, tt)))

pub edit_number : (t : Task) (s : List ℕ) (e : Edit) (r : TaskReply) (after : List ℕ) → Edits t s e r after → Listed r.number
unfolding edit_refusal
edit_number t s e r after a = subst Listed (sym a.number) (first_of_in Listed _ (omega arith) (omega arith, (omega arith, (omega arith, (omega arith, tt)))))

-- A list that is not permitted is refused at its first wrong number.
pub bad_list : (t : Task) → WellFormed t → formed t ≡ true → (l : List ℕ) → (Permitted (cells_of t.table) l → ⊥) → (r : TaskReply) → Applies t l r
    → r ≡ record { number = list_not_permitted; place = first_wrong (cells_of t.table) l; task = t }
bad_list t w e l bad r a =
    by_order (first_wrong (cells_of t.table) l) (length l) (λ h. applies_unique t l r _ a (applies_wrong t l _ refl e h))
    (λ h. absurd (bad (permitted_list (cells_of t.table) l (omega (arith, first_wrong_le (cells_of t.table) l)))))

-- Where the refusal of opening, or of an edit, is n at place 0, that is what is given.
module _ (t : Task) (s : List ℕ) where
  pub open_refused : (n : ℕ) → 0 < n → open_refusal t s ≡ record { number = n; place = 0 } → {after : List ℕ} (r : Reply) → Opens t s r after
      → (r ≡ refusal n) × (after ≡ s)
  open_refused n h e {after} r a = opens_unique t s r (refusal n) after s a (opens_refused t s n h e)

  pub edit_refused : (e : Edit) (n : ℕ) → 0 < n → edit_refusal t s e ≡ record { number = n; place = 0 } → {after : List ℕ} (r : TaskReply)
      → Edits t s e r after → (r ≡ record { number = n; place = 0; task = t }) × (after ≡ s)
  edit_refused e n h is {after} r a = edits_unique t s e r _ after s a (edits_refused t s e n h is)

-- ---- calls that give into lent room

-- The number is listed, and where it is a refusal's the room is as it was.
pub record Fair (room : List ℕ) (o : Outcome) : Type 0 where
  pub listed : Listed o.reply.number
  pub keeps : (o.reply.number ≡ accepted → ⊥) → o.room ≡ room

refused_fair : (n : ℕ) (room : List ℕ) → Listed n → Fair room (refused n room)
refused_fair n room h = record { listed = h; keeps = λ nonzero. refl }

given_fair : (l room : List ℕ) → Fair room (given l room)
given_fair l room =
    given_cases l room (Fair room) (λ h. refused_fair 11 room (omega arith))
    (λ h. record { listed = omega arith; keeps = λ nonzero. absurd (nonzero refl) })

told_fair : (v : Verdict) (room : List ℕ) → Fair room (told v room)
unfolding told
told_fair (found l) room = given_fair l room
told_fair over room = refused_fair 10 room (omega arith)
told_fair hopeless room = refused_fair 9 room (omega arith)

pub write_fair : (t : Task) (room : List ℕ) (o : Outcome) → o ≡ written t room → Fair room o
unfolding written
write_fair t room o e =
    subst (Fair room) (sym e)
    (either (Fair room) (formed t) (given (file_of t) room) (refused not_well_formed room) (given_fair (file_of t) room) (refused_fair 12 room (omega arith)))

pub solve_fair : (t : Task) (room : List ℕ) (o : Outcome) → Solves t room o → Fair room o
solve_fair t room o s = pick (formed t) refl
  where
    pick : (b : Bool) → formed t ≡ b → Fair room o
    pick true e = let x = s.verdict e in subst (Fair room) (sym x.2) (told_fair x.0 room)
    pick false e = subst (Fair room) (sym (s.malformed e)) (refused_fair 12 room (omega arith))

pub list_fair : (t : Task) (s room : List ℕ) (o : Outcome) → o ≡ listed t s room → Fair room o
unfolding listed
list_fair t s room o e =
    let v = join_verdicts (λ f. verdict_in (row_at s f)) t.table.facts t.table.limit in
    let rest = cond {A = Outcome} (not (in_form t s)) (refused not_a_session room) (told v room) in
    subst (Fair room) (sym e)
    (either (Fair room) (not (formed t)) (refused not_well_formed room) rest (refused_fair 12 room (omega arith))
    (either (Fair room) (not (in_form t s)) (refused not_a_session room) (told v room) (refused_fair 13 room (omega arith)) (told_fair v room)))

pub listing_fair : (input room : List ℕ) (o : Outcome) → ListsInto input room o → Fair room o
listing_fair input room o a = subst (Fair room) (sym a.outcome) (given_fair a.text room)

-- ---- the PDDL texts (02, request 4)

pub domain_fair : (t : Task) (room : List ℕ) (o : Outcome) → o ≡ domain_written t room → Fair room o
unfolding domain_written
domain_fair t room o e =
    subst (Fair room) (sym e)
    (either (Fair room) (formed t) (given (domain_text t.table) room) (refused not_well_formed room) (given_fair (domain_text t.table) room)
    (refused_fair 12 room (omega arith)))

pub problem_fair : (t : Task) (run : ℕ) (room : List ℕ) (o : Outcome) → o ≡ problem_written t run room → Fair room o
unfolding problem_written
problem_fair t run room o e =
    let rest = cond {A = Outcome} (ltb run t.runs.many) (given (problem_of t run) room) (refused not_there room) in
    subst (Fair room) (sym e)
    (either (Fair room) (formed t) rest (refused not_well_formed room)
    (either (Fair room) (ltb run t.runs.many) (given (problem_of t run) room) (refused not_there room) (given_fair (problem_of t run) room)
    (refused_fair 14 room (omega arith)))
    (refused_fair 12 room (omega arith)))

pub domain_number : (s : List ℕ) (limit : ℕ) (r : TaskReply) → ReadsDomain s limit r → Listed r.number
domain_number s limit r (domain t d e p) = omega (arith, ap (λ (q : TaskReply). q.number) p)
domain_number s limit r (readings.ReadsDomain.outside n never l p) = omega (arith, ap (λ (q : TaskReply). q.number) p)

pub problem_number : (s : List ℕ) (facts : ℕ) (r : ProblemReply) → ReadsProblem s facts r → Listed r.number
problem_number s facts r (no_size h p) = omega (arith, ap (λ (q : ProblemReply). q.number) p)
problem_number s facts r (problem _ _ a b d e p) = omega (arith, ap (λ (q : ProblemReply). q.number) p)
problem_number s facts r (readings.ReadsProblem.outside _ _ n never l p) = omega (arith, ap (λ (q : ProblemReply). q.number) p)

pub run_number : (t : Task) (start goal : ℕ) (steps : List ℕ) → Listed (run_added t start goal steps).number
unfolding run_added
run_number t start goal steps =
    either (λ (r : TaskReply). Listed r.number) (formed (with_run t start goal steps)) (accepted_read (with_run t start goal steps)) (refused_run t)
    (omega arith) (omega arith)
