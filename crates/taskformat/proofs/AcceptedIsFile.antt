-- An accepted file is the file of a well-formed task, and that task is what is read. Assumes nothing.
use mathlib.Core.List.{List, [], ◌∷◌, ◌++◌}
use mathlib.Core.Path.{◌≡◌, refl, sym, ap, ap₂, ◌∙◌}
use Prim.Native.Nat.{ℕ, zero, suc, ◌+◌, ◌<◌, ◌≤◌}
use native.Mathlib.Nat.{add-suc}
use native.Mathlib.Omega.{arith}
use lib.ListN.{length, take, drop, take-append-drop, drop_of_length-le}
use lib.Seq.{drop-cons, take-add}
use borrow.Author.Tests.{eq-eqb, ne_eqb}
use Rattle.table.specs.Lists.{gather}
use Rattle.table.specs.Tasks.{WellFormed}
use Rattle.table.specs.declared.Task.{Task}
use Rattle.table.specs.declared.TaskReply.{TaskReply}
use Rattle.taskformat.specs.Format.{sizes_kind, end_kind, is_cell_kind, body_length, file_of}
use Rattle.taskformat.specs.Reading.{Seen, nothing_seen, kind_at, byte_at, body_at, next_at, table_after, seen_after, fault_at, Reads, ReadsFile, faulty, good, ended, trailing}
use Rattle.taskformat.proofs.Clear.{Clear, clear}
use Rattle.table.proofs.GatherLaws.{gather_same, gather_next}
use Rattle.taskformat.proofs.Ranks.{ranks, sizes_record, piece_at, sizes_first, gather_up_to}
use Rattle.taskformat.proofs.Sections.{file_by_rank}
use Rattle.taskformat.proofs.PositionLaws.{order, apart}
use Rattle.taskformat.proofs.Families.{Family, of_none, of_sizes, of_run, of_fact, of_cell, of_step, family}
use Rattle.taskformat.proofs.Fitting.{Fitted, fitted_known, slot_of, record_rank, record_bytes, run_bytes, fact_bytes, cell_bytes, step_bytes}
use Rattle.taskformat.proofs.OneMore.{task_after}
use Rattle.taskformat.proofs.RecordsAfter.{piece_after}
use Rattle.taskformat.proofs.Standing.{Standing, last_rank, good_next}
use Rattle.taskformat.proofs.FirstRecord.{bare_task, bare_rank, seen_first, stands_first, first_kind}

-- ---- the bytes of a record

-- n bytes of the body of the record at a place, from the i-th on.
abbrev body_bytes : List ℕ → ℕ → ℕ → ℕ → List ℕ
body_bytes s at i zero = []
body_bytes s at i (suc n) = byte_at s at i ∷ body_bytes s at (suc i) n

body_taken : (s : List ℕ) (at i n : ℕ) → at + 1 + i + n ≤ length s → take n (drop (at + 1 + i) s) ≡ body_bytes s at i n
body_taken s at i zero l = refl
body_taken s at i (suc n) l =
    rw (drop-cons s (at + 1 + i) 0 (omega arith), ← add-suc (at + 1) i)
    (ap (λ (b : List ℕ). byte_at s at i ∷ b) (body_taken s at (suc i) n (omega arith)))

-- The bytes up to the next place: those so far, the kind and the body.
next_taken : (s : List ℕ) (at n : ℕ) → at + 1 + n ≤ length s → take (at + 1 + n) s ≡ take at s ++ kind_at s at ∷ body_bytes s at 0 n
next_taken s at n l =
    let next : at + 1 + n ≡ at + suc n = omega arith in
    let after : suc at ≡ at + 1 + 0 = omega arith in
    ap (λ (m : ℕ). take m s) next ∙ take-add at (suc n) s
    ∙ ap (λ (b : List ℕ). take at s ++ b)
    (rw (drop-cons s at 0 (omega arith), after) (ap (λ (b : List ℕ). kind_at s at ∷ b) (body_taken s at 0 n (omega arith))))

-- A good record after the first is its bytes.
record_taken : (s : List ℕ) (at : ℕ) (t : Task) → Fitted t (kind_at s at) (byte_at s at 0) (byte_at s at 1)
    → kind_at s at ∷ body_bytes s at 0 (body_length (kind_at s at)) ≡ record_bytes (kind_at s at) (byte_at s at 0) (byte_at s at 1)
unfolding body_length is_cell_kind
record_taken s at t tells = by (family (kind_at s at))
  where
    by : Family (kind_at s at)
        → kind_at s at ∷ body_bytes s at 0 (body_length (kind_at s at)) ≡ record_bytes (kind_at s at) (byte_at s at 0) (byte_at s at 1)
    by (of_none out nothing) = absurd (apart (kind_at s at) end_kind tells.last (sym (out (fitted_known tells))))
    by (of_sizes is) = absurd (apart sizes_kind (kind_at s at) tells.later is)
    by (of_run is) = rw (is, run_bytes (byte_at s at 0) (byte_at s at 1))
    by (of_fact kind) = rw (kind.length, fact_bytes kind (byte_at s at 0) (byte_at s at 1))
    by (of_cell kind) = rw (kind.length, cell_bytes kind (byte_at s at 0) (byte_at s at 1))
    by (of_step is) = rw (is, step_bytes (byte_at s at 0) (byte_at s at 1))

-- ---- the records so far

gather_after : (seen : Seen) (slot k x y z : ℕ) → Standing seen slot → Fitted seen.task k x y
    → last_rank seen slot < record_rank seen.task k x y
    → gather (piece_at (task_after seen.task k x y z)) (suc (record_rank seen.task k x y)) ≡
    gather (piece_at seen.task) (suc (last_rank seen slot)) ++ record_bytes k x y
gather_after seen slot k x y z stands tells later =
    let after = piece_after seen.task k x y z stands.formed tells in
    let here = record_rank seen.task k x y in
    gather_next (piece_at (task_after seen.task k x y z)) here
    ∙ ap₂ ◌++◌
    (gather_same (piece_at (task_after seen.task k x y z)) (piece_at seen.task) here (λ r l. after r ∙ rw (ne_eqb r here (omega arith)))
    ∙ gather_up_to (piece_at seen.task) (suc (last_rank seen slot)) here later (λ r l. stands.above r l))
    (after here ∙ rw (eq-eqb here here refl))

-- What the bytes before a place are.
pub data Sofar (s : List ℕ) : ℕ → Seen → Type 0 where
  begun : Sofar s 0 nothing_seen
  going : {at : ℕ} {seen : Seen} → (slot : ℕ) → Standing seen slot → at ≤ length s
      → take at s ≡ gather (piece_at seen.task) (suc (last_rank seen slot)) → Sofar s at seen

bare_sizes : (f a l : ℕ) → sizes_record (bare_task f a l).table ≡ sizes_kind ∷ f ∷ a ∷ l ∷ []
unfolding bare_task task_after table_after
bare_sizes f a l = refl

first_sofar : (s : List ℕ) → Clear s 0 nothing_seen → Sofar s (next_at s 0) (seen_after s 0 nothing_seen)
unfolding body_length is_cell_kind
first_sofar s clear =
    let is = first_kind (kind_at s 0) clear.placed in
    let x = byte_at s 0 0 in
    let y = byte_at s 0 1 in
    let z = byte_at s 0 2 in
    going 0 (stands_first s clear) clear.whole
    (next_taken s 0 (body_length (kind_at s 0)) clear.whole ∙ rw (seen_first s is, is)
    (sym (ap (λ (r : ℕ). gather (piece_at (bare_task x y z)) (suc r)) (bare_rank x y z (body_at s 0)) ∙ sizes_first (bare_task x y z) ∙ bare_sizes x y z)))

next_sofar : (s : List ℕ) (at : ℕ) (seen : Seen) (slot : ℕ) → Standing seen slot → Clear s at seen → (kind_at s at ≡ end_kind → ⊥)
    → take at s ≡ gather (piece_at seen.task) (suc (last_rank seen slot)) → Sofar s (next_at s at) (seen_after s at seen)
unfolding seen_after task_after
next_sofar s at seen slot stands clear more bytes =
    let next = good_next s at seen slot stands clear more in
    going (slot_of seen.task (kind_at s at) (byte_at s at 0) (byte_at s at 1)) next.stands clear.whole
    (next_taken s at (body_length (kind_at s at)) clear.whole
    ∙ ap₂ ◌++◌ bytes (record_taken s at seen.task next.tells)
    ∙ sym (rw next.rank (gather_after seen slot (kind_at s at) (byte_at s at 0) (byte_at s at 1) (byte_at s at 2) stands next.tells next.later)))

pub sofar_next : {s : List ℕ} {at : ℕ} {seen : Seen} → Sofar s at seen → (fault_at s at seen).number ≡ 0 → (kind_at s at ≡ end_kind → ⊥)
    → Sofar s (next_at s at) (seen_after s at seen)
sofar_next {s} begun c more = first_sofar s (clear s 0 nothing_seen c)
sofar_next {s} (going {at} {seen} slot stands fits bytes) c more = next_sofar s at seen slot stands (clear s at seen c) more bytes

-- ---- the end

last_byte : (s : List ℕ) (at : ℕ) → at + 1 ≡ length s → s ≡ take at s ++ kind_at s at ∷ []
last_byte s at last =
    sym (take-append-drop at s)
    ∙ ap (λ (b : List ℕ). take at s ++ b) (rw (drop-cons s at 0 (omega arith), drop_of_length-le s {i = suc at} (omega arith)))

file_ended : {s : List ℕ} {at : ℕ} {seen : Seen} → Sofar s at seen → (fault_at s at seen).number ≡ 0 → kind_at s at ≡ end_kind
    → at + 1 ≡ length s → WellFormed seen.task × (s ≡ file_of seen.task)
file_ended {s} begun c is last =
    let first = first_kind (kind_at s 0) (clear s 0 nothing_seen c).placed in absurd (omega arith)
file_ended {s} (going {at} {seen} slot stands fits bytes) c is last = (
  stands.formed,
  last_byte s at last
      ∙ ap₂ (λ (b : List ℕ) (k : ℕ). b ++ k ∷ [])
      (bytes ∙ sym (gather_up_to (piece_at seen.task) (suc (last_rank seen slot)) ranks (omega (arith, order)) (λ r l. stands.above r l)))
      is
      ∙ sym (file_by_rank seen.task stands.formed),
)

accepted_from : {s : List ℕ} {r : TaskReply} {at : ℕ} {seen : Seen} → Reads s r at seen → Sofar s at seen → r.number ≡ 0
    → WellFormed r.task × (s ≡ file_of r.task)
accepted_from (faulty f e) sofar ok = let n = ap (λ (q : TaskReply). q.number) e in absurd (omega arith)
accepted_from (good c more rest) sofar ok = accepted_from rest (sofar_next sofar c more) ok
accepted_from (ended c is last e) sofar ok = rw e (file_ended sofar c is last)
accepted_from (trailing c is more e) sofar ok = let n = ap (λ (q : TaskReply). q.number) e in absurd (omega arith)

-- What is accepted is the file of the well-formed task that is read: demand 2's first sentence, one way.
pub accepted_file : {s : List ℕ} {r : TaskReply} → ReadsFile s r → r.number ≡ 0 → WellFormed r.task × (s ≡ file_of r.task)
accepted_file reads ok = accepted_from reads begun ok
