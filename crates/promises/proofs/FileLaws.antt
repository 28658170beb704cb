-- What demand 2 needs of reading and writing: a file is accepted exactly if it is a task's, and both round trips. Assumes nothing.
use mathlib.Core.List.{List}
use mathlib.Core.Logic.{◌↔◌}
use mathlib.Core.Path.{◌≡◌, sym, ap, ◌∙◌, subst}
use Prim.Native.Nat.{ℕ, ◌≤◌}
use native.Mathlib.Omega.{arith}
use lib.ListN.{length, take, drop}
use lib.Seq.{take-append_seam}
use Rattle.table.proofs.Formation.{well_formed}
use Rattle.table.specs.Outcomes.{Outcome, answered}
use Rattle.table.specs.Tasks.{WellFormed}
use Rattle.table.specs.declared.Task.{Task}
use Rattle.taskfile.proofs.Called.{ReadGives, read_gives}
use Rattle.taskformat.proofs.FileIsAccepted.{file_accepted}
use Rattle.taskformat.proofs.FilesAreTasks.{accepted_exactly, accepted_read_lem}
use Rattle.taskformat.proofs.Unique.{reads_unique}
use Rattle.taskformat.specs.Format.{file_of}
use Rattle.taskformat.specs.Reading.{accepted_read, ReadsFile}
use Rattle.table.specs.declared.TaskReply.{TaskReply}
use Rattle.taskwriter.proofs.Called.{WriteGives, write_gives}
use Rattle.taskwriter.proofs.WritingLaws.{written_short, written_file}
use Rattle.taskwriter.specs.Writing.{written}
use Rattle.table.proofs.FlagLaws.{by_order}

-- A file is read as t exactly if t is well formed and it is its file.
pub read_is_exact : (s : List ℕ) (r : TaskReply) → ReadGives s r → (t : Task) → (r ≡ accepted_read t) ↔ (WellFormed t × (s ≡ file_of t))
read_is_exact s r g t = (
  λ e. (accepted_exactly s t).0 (subst (ReadsFile s) e (read_gives s r g)),
  λ is. reads_unique (read_gives s r g) ((accepted_exactly s t).1 is),
)

-- A write that was accepted gave the file.
written_accepted : (t : Task) → WellFormed t → (room : List ℕ) (o : Outcome) → o ≡ written t room → o.reply.number ≡ 0 → o ≡ answered (file_of t) room
written_accepted t w room o e ok =
    by_order (length room) (length (file_of t))
    (λ h. let n = ap (λ (x : Outcome). x.reply.number) (e ∙ written_short t room (well_formed t w) h) in absurd (omega arith))
    (λ h. e ∙ written_file t room (well_formed t w) h)

pub reads_back : (t : Task) → WellFormed t → (room : List ℕ) (o : Outcome) → WriteGives t room o → o.reply.number ≡ 0
    → (r : TaskReply) → ReadGives (take o.reply.length o.room) r → r ≡ accepted_read t
reads_back t w room o g ok r h =
    let e = written_accepted t w room o (write_gives t room o g) ok in
    let bytes : take o.reply.length o.room ≡ file_of t =
    ap (λ (x : Outcome). take x.reply.length x.room) e ∙ take-append_seam (file_of t) (drop (length (file_of t)) room) in
    reads_unique (subst (λ (b : List ℕ). ReadsFile b r) bytes (read_gives (take o.reply.length o.room) r h)) (file_accepted t w)

pub writes_back : (s : List ℕ) (r : TaskReply) → ReadGives s r → r.number ≡ 0
    → (room : List ℕ) → length s ≤ length room → (o : Outcome) → WriteGives r.task room o → o ≡ answered s room
writes_back s r g ok room n o h =
    let reads = read_gives s r g in
    let is = (accepted_exactly s r.task).0 (subst (ReadsFile s) (accepted_read_lem reads ok) reads) in
    let long : length s ≡ length (file_of r.task) = ap length is.1 in
    write_gives r.task room o h ∙ written_file r.task room (well_formed r.task is.0) (omega arith) ∙
    ap (λ (b : List ℕ). answered b room) (sym is.1)
