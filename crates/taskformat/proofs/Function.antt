-- Reading is total: the function `read_from` gives what `Reads` says. Assumes nothing.
use mathlib.Core.Bool.{Bool, true, false}
use mathlib.Core.List.{List}
use mathlib.Core.Logic.{◌≢◌}
use mathlib.Core.Path.{◌≡◌, refl}
use Prim.Native.Nat.{ℕ, zero, suc, ◌+◌, ◌<◌, ◌≤◌}
use native.Mathlib.Omega.{arith}
use lib.Dec.{eqb, ltb}
use lib.ListN.{length}
use borrow.Author.Tests.{eq-eqb, eqb-true, eqb-false, ltb-true, ltb-false, le-leb}
use Rattle.table.specs.Refusals.{first_of}
use Rattle.taskformat.specs.Format.{end_kind}
use Rattle.taskformat.specs.Reading.{Seen, Reads, faulty, good, ended, trailing, kind_at, next_at, seen_after, wrong_byte, place_of, faults_at, fault_at, nothing_seen, ReadsFile}
use Rattle.taskformat.specs.Computed.{read_from, read_file}
use Rattle.taskformat.proofs.Clear.{clear}

-- At or past the end the first fault is that there is no end record.
reads_past : (s : List ℕ) (at : ℕ) (seen : Seen) → length s ≤ at → Reads s (read_from zero s at seen) at seen
unfolding read_from faults_at wrong_byte place_of first_of
reads_past s at seen l =
    let start : at + 0 ≡ at = omega arith in
    faulty {at = at} {seen = seen} (rw (le-leb (length s) at l) (omega arith)) (rw (le-leb (length s) at l, start))

-- One record, where the reading from the next place on is known.
module _ (n : ℕ) (s : List ℕ) (at : ℕ) (seen : Seen) where
  reads_end : (b : Bool) → ltb (at + 1) (length s) ≡ b → (fault_at s at seen).number ≡ 0 → eqb (kind_at s at) end_kind ≡ true
      → Reads s (read_from (suc n) s at seen) at seen
  unfolding read_from
  reads_end true e c k =
      trailing {at = at} {seen = seen} c (eqb-true (kind_at s at) end_kind k) (ltb-true (at + 1) (length s) e) (rw (eq-eqb (fault_at s at seen).number 0 c, k, e))
  reads_end false e c k =
      let whole : at < length s = (clear s at seen c).begun in
      let last : length s ≤ at + 1 = ltb-false (at + 1) (length s) e in
      ended {at = at} {seen = seen} c (eqb-true (kind_at s at) end_kind k) (omega arith) (rw (eq-eqb (fault_at s at seen).number 0 c, k, e))

  reads_clear : (b : Bool) → eqb (kind_at s at) end_kind ≡ b → (fault_at s at seen).number ≡ 0
      → Reads s (read_from n s (next_at s at) (seen_after s at seen)) (next_at s at) (seen_after s at seen)
      → Reads s (read_from (suc n) s at seen) at seen
  unfolding read_from
  reads_clear true k c more = reads_end (ltb (at + 1) (length s)) refl c k
  reads_clear false k c more = good {at = at} {seen = seen} c (eqb-false (kind_at s at) end_kind k) (rw (eq-eqb (fault_at s at seen).number 0 c, k) more)

  reads_one : (b : Bool) → eqb (fault_at s at seen).number 0 ≡ b
      → ((fault_at s at seen).number ≡ 0 → Reads s (read_from n s (next_at s at) (seen_after s at seen)) (next_at s at) (seen_after s at seen))
      → Reads s (read_from (suc n) s at seen) at seen
  unfolding read_from
  reads_one false e more =
      let fault : (fault_at s at seen).number ≢ 0 = eqb-false (fault_at s at seen).number 0 e in
      faulty {at = at} {seen = seen} (omega arith) (rw e)
  reads_one true e more =
      let c = eqb-true (fault_at s at seen).number 0 e in
      reads_clear (eqb (kind_at s at) end_kind) refl c (more c)

-- With n records to come, where at most n bytes are left.
pub reads_from : (n : ℕ) (s : List ℕ) (at : ℕ) (seen : Seen) → length s ≤ at + n → Reads s (read_from n s at seen) at seen
reads_from zero s at seen l = reads_past s at seen (omega arith)
reads_from (suc n) s at seen l =
    reads_one n s at seen (eqb (fault_at s at seen).number 0) refl
    (λ c. reads_from n s (next_at s at) (seen_after s at seen) (omega arith))

-- Every byte string is read, and as `read_file` computes it.
pub reads_total : (s : List ℕ) → ReadsFile s (read_file s)
unfolding read_file
reads_total s = reads_from (length s) s 0 nothing_seen (omega arith)
