-- The first 28,000 bytes of any input decide what reading gives. Assumes nothing.
use mathlib.Core.Bool.{Bool, true, false, cond, ◌||◌}
use mathlib.Core.List.{List}
use mathlib.Core.Logic.{◌↔◌}
use mathlib.Core.Path.{◌≡◌, sym, ap, ◌∙◌, subst, subst₂}
use Prim.Native.Nat.{ℕ, suc, ◌+◌, ◌<◌, ◌≤◌}
use native.Mathlib.Omega.{arith}
use lib.ListN.{length, take, length-take}
use lib.Seq.{get_or-take}
use lib.Dec.{eqb, leb, ltb}
use borrow.Author.Tests.{lt-leb, le-ltb}
use Rattle.table.specs.Refusals.{first_of}
use Rattle.table.specs.declared.TaskReply.{TaskReply}
use Rattle.taskformat.specs.Format.{sizes_kind, end_kind, run_kind, is_cell_kind, body_length}
use Rattle.taskformat.specs.Reading.{Seen, kind_at, byte_at, body_at, next_at, seen_after, wrong_byte, place_of, faults_at, fault_at, Reads, ReadsFile, faulty, good, ended, trailing}
use Rattle.taskformat.specs.Lengths.{longest_file, program_room}
use Rattle.taskformat.proofs.Unique.{reads_unique}
use Rattle.taskformat.proofs.Function.{reads_total}
use Rattle.taskformat.proofs.PositionLaws.{order}
use Rattle.taskformat.proofs.Standing.{last_rank}
use Rattle.taskformat.proofs.AcceptedIsFile.{Sofar, begun, going, sofar_next}
use Rattle.taskformat.proofs.FileLength.{records_length}

-- A record that has been come to starts within the longest file.
sofar_early : {s : List ℕ} {at : ℕ} {seen : Seen} → Sofar s at seen → at < longest_file
sofar_early begun = omega arith
sofar_early {s} (going {at} {seen} slot stands fits bytes) =
    let short = records_length seen.task stands.formed (suc (last_rank seen slot)) (omega (arith, order)) in
    let long = ap length bytes in
    let taken = length-take at s in omega arith

bodies_short : (k : ℕ) → body_length k ≤ 3
unfolding body_length
bodies_short k = at (eqb k sizes_kind) (is_cell_kind k) (eqb k end_kind || eqb k run_kind)
  where
    at : (b c d : Bool) → cond b 3 (cond c 2 (cond d 0 1)) ≤ 3
    at true c d = omega arith
    at false true d = omega arith
    at false false true = omega arith
    at false false false = omega arith

-- ---- what is judged at a record depends on its kind and three bytes, and on whether it is there

record SameAt (s q : List ℕ) (at : ℕ) : Type 0 where
  kind : kind_at s at ≡ kind_at q at
  first : byte_at s at 0 ≡ byte_at q at 0
  second : byte_at s at 1 ≡ byte_at q at 1
  third : byte_at s at 2 ≡ byte_at q at 2

same_body : (s q : List ℕ) (at : ℕ) → SameAt s q at → body_at s at ≡ body_at q at
unfolding body_at
same_body s q at same = rw (same.kind, same.first, same.second)

same_faults : (s q : List ℕ) (at : ℕ) (seen : Seen) → SameAt s q at → leb (length s) at ≡ leb (length q) at
    → ltb (length s) (at + 1 + body_length (kind_at s at)) ≡ ltb (length q) (at + 1 + body_length (kind_at q at))
    → faults_at s at seen ≡ faults_at q at seen
unfolding faults_at wrong_byte place_of
same_faults s q at seen same there whole =
    rw (whole, there, same_body s q at same, same.kind, same.first, same.second, same.third)

same_seen : (s q : List ℕ) (at : ℕ) (seen : Seen) → SameAt s q at → seen_after s at seen ≡ seen_after q at seen
unfolding seen_after
same_seen s q at seen same = rw (same_body s q at same, same.kind, same.first, same.second, same.third)

module _ (s : List ℕ) (at : ℕ) (full : program_room ≤ length s) (early : at < longest_file) where
  cut_length : length (take program_room s) ≡ program_room
  cut_length = let taken = length-take program_room s in omega arith

  cut_same : SameAt (take program_room s) s at
  cut_same = record {
    kind = get_or-take program_room s at 0 (omega arith);
    first = get_or-take program_room s (at + 1 + 0) 0 (omega arith);
    second = get_or-take program_room s (at + 1 + 1) 0 (omega arith);
    third = get_or-take program_room s (at + 1 + 2) 0 (omega arith);
  }

  cut_fault : (seen : Seen) → fault_at (take program_room s) at seen ≡ fault_at s at seen
  cut_fault seen =
      let cut = cut_length in
      let k = kind_at (take program_room s) at in
      let there = lt-leb (length (take program_room s)) at (omega arith) ∙ sym (lt-leb (length s) at (omega arith)) in
      let short = bodies_short k in
      let also = bodies_short (kind_at s at) in
      let whole =
      le-ltb (length (take program_room s)) (at + 1 + body_length k) (omega arith)
      ∙ sym (le-ltb (length s) (at + 1 + body_length (kind_at s at)) (omega arith)) in
      ap first_of (same_faults (take program_room s) s at seen cut_same there whole)

cut_from : {s : List ℕ} {r : TaskReply} {at : ℕ} {seen : Seen} → program_room ≤ length s → Sofar s at seen → Reads s r at seen
    → Reads (take program_room s) r at seen
cut_from {s} {r} full sofar (faulty {at} {seen} f e) =
    let fault = cut_fault s at full (sofar_early sofar) seen in
    faulty {at = at} {seen = seen} (rw fault f) (rw fault e)
cut_from {s} {r} full sofar (good {at} {seen} c more rest) =
    let early = sofar_early sofar in
    let fault = cut_fault s at full early seen in
    let same = cut_same s at full early in
    let next : next_at s at ≡ next_at (take program_room s) at = rw same.kind in
    good {at = at} {seen = seen} (rw fault c) (λ is. more (sym same.kind ∙ is))
    (subst₂ (Reads (take program_room s) r) next (sym (same_seen (take program_room s) s at seen same))
    (cut_from full (sofar_next sofar c more) rest))
cut_from {s} full sofar (ended {at} {seen} c is last e) = let early = sofar_early sofar in absurd (omega arith)
cut_from {s} full sofar (trailing {at} {seen} c is more e) =
    let early = sofar_early sofar in
    let fault = cut_fault s at full early seen in
    let cut = cut_length s at full early in
    trailing {at = at} {seen = seen} (rw fault c) ((cut_same s at full early).kind ∙ is) (omega arith) e

-- "later bytes can't alter its answer": reading the cut input and reading the whole give the same.
pub cut_reads : (s : List ℕ) (r : TaskReply) → program_room ≤ length s → ReadsFile (take program_room s) r ↔ ReadsFile s r
cut_reads s r full = (
  λ reads. subst (ReadsFile s) (reads_unique (cut_from full begun (reads_total s)) reads) (reads_total s),
  λ reads. cut_from full begun reads,
)
