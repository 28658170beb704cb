-- What is accepted is well formed and has no lock, and its file fits in the room. Assumes nothing.
use mathlib.Core.Bool.{Bool, true, false, cond, ◌&&◌}
use mathlib.Core.List.{List, ◌++◌}
use mathlib.Core.Path.{◌≡◌, refl, sym, ap, ◌∙◌, subst}
use Prim.Native.Nat.{ℕ, ◌<◌, ◌≤◌}
use native.Mathlib.Omega.{arith}
use borrow.Author.Tests.{eqb-true}
use lib.Dec.{eqb}
use lib.ListN.{length, drop, replicate, length-append}
use Rattle.std.specs.Prelude.{Result, Ok, Err, IfOk, is_ok}
use Rattle.addrun.proofs.AddingLaws.{added_well}
use Rattle.addrun.specs.Adding.{with_run, run_added}
use Rattle.pddl.specs.Readings.{ReadsDomain, domain, outside}
use Rattle.table.proofs.AcceptedLaws.{reply_ok}
use Rattle.table.proofs.FlagLaws.{and_right, cond_by}
use Rattle.table.proofs.Formation.{well_formed}
use Rattle.table.proofs.WhyLaws.{number_some}
use Rattle.table.specs.Outcomes.{Outcome, reply_of, read_of}
use Rattle.table.specs.Refusals.{accepted, not_well_formed}
use Rattle.table.specs.Sizes.{max_actions}
use Rattle.table.specs.Tasks.{formed, Shaped, WellFormed}
use Rattle.table.specs.declared.Task.{Task}
use Rattle.table.specs.declared.TaskReply.{TaskReply}
use Rattle.table.specs.declared.refusals.Refusal.{Refusal}
use Rattle.taskformat.proofs.AcceptedIsFile.{accepted_file}
use Rattle.taskformat.proofs.FileLength.{file_length}
use Rattle.taskformat.specs.Format.{file_of}
use Rattle.taskformat.specs.Lengths.{program_room}
use Rattle.taskformat.specs.Reading.{ReadsFile, accepted_read, refused_read}
use Rattle.taskwriter.proofs.WritingLaws.{written_file}
use Rattle.taskwriter.specs.Writing.{written}
use Rattle.frompddl.specs.Gathering as gathering
use Rattle.frompddl.specs.Gathering.{NextRun, Gathers, last, ninth, wrong, more}
use Rattle.frompddl.specs.Together.{TextsCome, answer_of, PutsTogether, HoldsFile}
use Rattle.frompddl.specs.declared.gather.Gathered.{Gathered}

-- ---- a task with its runs so far: it has no lock (02, request 6), and as soon as it has a run, it is well formed

record Sound (t : Task) : Type 0 where
  shaped : Shaped t
  no_lock : t.table.locks ≡ replicate max_actions 0
  well : 0 < t.runs.many → WellFormed t

with_one : (t : Task) (start goal : ℕ) (steps : List ℕ) → Shaped t → formed (with_run t start goal steps) ≡ true
    → WellFormed (with_run t start goal steps)
unfolding run_added
with_one t start goal steps s h = (rw h at (added_well t start goal steps s)) refl

added_sound : (t : Task) (start goal : ℕ) (steps : List ℕ) → Sound t → Sound (run_added t start goal steps).task
unfolding run_added with_run
added_sound t start goal steps g =
    cond_by (λ (r : TaskReply). Sound r.task) (formed (with_run t start goal steps))
    (λ h. let w = with_one t start goal steps g.shaped h in record { shaped = w.shaped; no_lock = g.no_lock; well = λ _. w }) (λ _. g)

domain_sound : {s : List ℕ} {limit : ℕ} {r : TaskReply} → ReadsDomain s limit r → r.number ≡ accepted → Sound r.task
domain_sound (domain t fits text e) ok =
    subst (λ (r : TaskReply). Sound r.task) (sym e) (record {
      shaped = record {
        needs = fits.needs;
        adds = fits.adds;
        deletes = fits.deletes;
        locks = refl;
        starts = refl;
        goals = refl;
        counts = refl;
        steps = refl;
      };
      no_lock = refl;
      well = λ some. absurd (omega arith);
    })
domain_sound (outside n none far e) ok = absurd (omega (arith, ap (λ (r : TaskReply). r.number) e))

next_sound : {s : List ℕ} {beside t : Task} {at n : ℕ} {q : Result Task Refusal} → NextRun s beside at n t q → Sound t → IfOk q Sound
next_sound (gathering.outside e reads is) g = subst (λ (q : Result Task Refusal). IfOk q Sound) (sym is) tt
next_sound {t = t} (gathering.read p reads is) g =
    subst (λ (q : Result Task Refusal). IfOk q Sound) (sym is) (added_sound t p.start p.goal _ g)

abbrev Sounds : Result Gathered Refusal → Type 0
Sounds r = IfOk r (λ runs. Sound runs.task)

gathers_sound : {s : List ℕ} {beside : Task} {r : Result Gathered Refusal} {at n : ℕ} {t : Task} → Gathers s beside r at n t → Sound t → Sounds r
gathers_sound (last h is) g = subst Sounds (sym is) g
gathers_sound (ninth h many is) g = subst Sounds (sym is) tt
gathers_sound (wrong e h low run is) g = subst Sounds (sym is) tt
gathers_sound (more u h low run rest) g = gathers_sound rest (next_sound run g)

texts_sound : {domain_text : List ℕ} {limit : ℕ} (s : List ℕ) (beside : Task) (first : ℕ) (domain : Result Task Refusal)
    (runs : Result Gathered Refusal) → ReadsDomain domain_text limit (read_of domain) → TextsCome s beside first domain runs → Sounds runs
texts_sound s beside first (Ok t) runs reads come = gathers_sound come (domain_sound reads refl)
texts_sound s beside first (Err e) runs reads come = subst Sounds (sym come) tt

-- ---- the answer, where it is accepted

matched_task : (b : Bool) (t : Task)
    → (cond {A = TaskReply} b (accepted_read t) (refused_read not_well_formed 0)).number ≡ accepted
    → (b ≡ true) × (cond {A = TaskReply} b (accepted_read t) (refused_read not_well_formed 0) ≡ accepted_read t)
matched_task true t ok = (refl, refl)
matched_task false t ok = absurd (omega arith)

answer_sound : {behind : List ℕ} (runs : Result Gathered Refusal) (file : Result Task Refusal) (start : ℕ) → Sounds runs
    → ReadsFile behind (read_of file) → (answer_of runs file start).number ≡ accepted
    → Sound (answer_of runs file start).task × (0 < (answer_of runs file start).task.runs.many)
answer_sound (Err e) file start sound reads ok = absurd (number_some e.why ok)
answer_sound (Ok runs) (Err e) start sound reads ok = absurd (number_some e.why ok)
answer_sound (Ok runs) (Ok t) start sound reads ok =
    let many = t.runs.many in
    let m = matched_task (eqb runs.texts many && eqb runs.task.runs.many many) runs.task ok in
    let same = eqb-true runs.task.runs.many many (and_right (eqb runs.texts many) (eqb runs.task.runs.many many) m.0) in
    let file = (accepted_file reads refl).0 in
    subst (λ (r : TaskReply). Sound r.task × (0 < r.task.runs.many)) (sym m.1) (sound, omega (arith, same, file.many_low))

puts_sound : {s : List ℕ} {r : TaskReply} → PutsTogether s r → r.number ≡ accepted → Sound r.task × (0 < r.task.runs.many)
puts_sound p ok =
    subst (λ (r : TaskReply). Sound r.task × (0 < r.task.runs.many)) (sym p.answer)
    (answer_sound p.runs p.file p.start (texts_sound _ _ _ p.domain p.runs p.domain_read p.come) p.file_read (sym (ap (λ (r : TaskReply). r.number) p.answer) ∙ ok))

pub puts_well : {s : List ℕ} {r : TaskReply} → PutsTogether s r → r.number ≡ accepted → WellFormed r.task
puts_well p ok = let sound = puts_sound p ok in sound.0.well sound.1

-- The locks of the task file behind the texts are not taken.
pub puts_no_lock : {s : List ℕ} {r : TaskReply} → PutsTogether s r → r.number ≡ accepted → r.task.table.locks ≡ replicate max_actions 0
puts_no_lock p ok = (puts_sound p ok).0.no_lock

-- ---- its file in the room

pub written_ok : (t : Task) (room after : List ℕ) (r : Result ℕ Refusal) → WellFormed t → program_room ≤ length room
    → ◌≡◌ {A = Outcome} (record { reply = reply_of r; room = after }) (written t room) → is_ok r ≡ true
written_ok t room after r w fits e =
    reply_ok r (ap (λ (p : Outcome). p.reply.number) (e ∙ written_file t room (well_formed t w) (omega (arith, file_length t w))))

pub holds_file : (t : Task) (room : List ℕ) (o : Outcome) → WellFormed t → program_room ≤ length room → o ≡ written t room
    → HoldsFile t room o.reply.length o.room
holds_file t room o w fits e =
    let is = e ∙ written_file t room (well_formed t w) (omega (arith, file_length t w)) in
    let size : o.reply.length ≡ length (file_of t) = ap (λ (p : Outcome). p.reply.length) is in
    record {
      length_is = size;
      room_is = ap (λ (p : Outcome). p.room) is ∙ ap (λ (k : ℕ). file_of t ++ drop k room) (sym size);
    }

pub file_inside : {t : Task} {room after : List ℕ} {n : ℕ} → HoldsFile t room n after → n ≤ length after
file_inside {t} {room} {after} {n} h =
    let e = ap length h.room_is in
    omega (arith, h.length_is, length-append (file_of t) (drop n room))
