-- Files and well-formed tasks match exactly (demand 2's first sentence; document 01, "The task file"). Assumes nothing.
use mathlib.Core.List.{List}
use mathlib.Core.Logic.{◌↔◌}
use mathlib.Core.Path.{◌≡◌, refl, sym, ap, ◌∙◌, subst}
use Prim.Native.Nat.{ℕ}
use native.Mathlib.Omega.{arith}
use lib.ListN.{length, take}
use lib.Seq.{take_all}
use Rattle.table.proofs.FlagLaws.{by_order}
use Rattle.table.specs.Tasks.{WellFormed}
use Rattle.table.specs.declared.Task.{Task}
use Rattle.table.specs.declared.TaskReply.{TaskReply}
use Rattle.taskformat.specs.Format.{file_of}
use Rattle.taskformat.specs.Lengths.{program_room}
use Rattle.taskformat.specs.Reading.{Seen, accepted_read, Reads, ReadsFile, faulty, good, ended, trailing}
use Rattle.taskformat.proofs.Unique.{reads_unique}
use Rattle.taskformat.proofs.AcceptedIsFile.{accepted_file}
use Rattle.taskformat.proofs.FileIsAccepted.{file_accepted}
use Rattle.taskformat.proofs.Cut.{cut_reads}

-- A file is accepted as a task exactly if the task is well formed and it is that task's file.
pub accepted_exactly : (s : List ℕ) (t : Task) → ReadsFile s (accepted_read t) ↔ (WellFormed t × (s ≡ file_of t))
accepted_exactly s t =
    (λ reads. accepted_file reads refl, λ is. subst (λ (b : List ℕ). ReadsFile b (accepted_read t)) (sym is.1) (file_accepted t is.0))

-- Number 0 says accepted: place 0 and the task of the file.
accepted_from : {s : List ℕ} {r : TaskReply} {at : ℕ} {seen : Seen} → Reads s r at seen → r.number ≡ 0 → r ≡ accepted_read r.task
accepted_from (faulty f e) ok = let n = ap (λ (q : TaskReply). q.number) e in absurd (omega arith)
accepted_from (good c more rest) ok = accepted_from rest ok
accepted_from (ended c is last e) ok = e ∙ ap (λ (q : TaskReply). accepted_read q.task) (sym e)
accepted_from (trailing c is more e) ok = let n = ap (λ (q : TaskReply). q.number) e in absurd (omega arith)

pub accepted_read_lem : {s : List ℕ} {r : TaskReply} → ReadsFile s r → r.number ≡ 0 → r ≡ accepted_read r.task
accepted_read_lem = accepted_from

-- Two well-formed tasks with the same file are one task.
pub one_task : (t q : Task) → WellFormed t → WellFormed q → file_of t ≡ file_of q → t ≡ q
one_task t q formed also same =
    ap (λ (r : TaskReply). r.task)
    (reads_unique (file_accepted t formed) (subst (λ (b : List ℕ). ReadsFile b (accepted_read q)) (sym same) (file_accepted q also)))

-- The first 28,000 bytes of any input decide what reading gives.
pub cut_decides : (s : List ℕ) (r : TaskReply) → ReadsFile (take program_room s) r ↔ ReadsFile s r
cut_decides s r =
    by_order (length s) program_room
    (λ l. let all : take program_room s ≡ s = take_all program_room s (omega arith) in
    (λ reads. subst (λ (b : List ℕ). ReadsFile b r) all reads, λ reads. subst (λ (b : List ℕ). ReadsFile b r) (sym all) reads))
    (cut_reads s r)
