-- What the first fault of a record is, check by check in 01's order, and at which byte. Assumes nothing.
use mathlib.Core.Bool.{Bool, true, false, cond, ◌||◌, ◌&&◌}
use mathlib.Core.List.{List, [], ◌∷◌}
use mathlib.Core.Path.{◌≡◌, refl, ap, ◌∙◌}
use Prim.Native.Nat.{ℕ, ◌+◌, ◌-◌, ◌<◌, ◌≤◌}
use borrow.Author.Tests.{le-leb, lt-leb, lt-ltb, le-ltb}
use lib.Dec.{eqb, leb}
use lib.ListN.{length, take, drop, get_or}
use Rattle.std.proofs.lemmas.List.{get_or-drop, length-drop}
use Rattle.std.proofs.Math.Seq.{take-length}
use native.Mathlib.Nat.{add-zero}
use Rattle.table.specs.declared.Table.{Table}
use Rattle.table.specs.Refusals.{refuse_at, first_of, no_end, unknown_kind, sizes_misplaced, size_outside, number_outside, not_ascending, too_many_runs, lock_without_need, too_many_steps}
use Rattle.table.specs.Sizes.{max_runs}
use Rattle.taskformat.specs.Format.{sizes_kind, run_kind, is_kind, body_length}
use Rattle.taskformat.specs.Reading.{Seen, kind_at, byte_at, body_at, next_at, misplaced, sizes_wrong, first_outside, outside, kind_disordered, disordered, lock_stray, wrong_byte, place_of, faults_at, fault_at}
use Rattle.records.specs.declared.kinds.Kind.{Kind}
use Rattle.records.specs.declared.parts.Parts.{Parts}
use Rattle.records.specs.Kinds.{kind_number}
use Rattle.records.specs.Records.{second_outside, body_disordered, full, body_checks, Says}
use Rattle.records.proofs.RecordLaws.{number_known}

-- 5 and 6 are two checks each, by the byte that is wrong; n + 0 is n.
by_byte : (at n : ℕ) (a b c d e f g h : Bool) → n ≡ at
    → first_of
    (refuse_at at a size_outside ∷
    refuse_at (at + 1) b number_outside ∷
    refuse_at (at + 2) c number_outside ∷
    refuse_at at d not_ascending ∷
    refuse_at (at + 1) e not_ascending ∷
    refuse_at at f too_many_runs ∷
    refuse_at at g lock_without_need ∷
    refuse_at at h too_many_steps ∷
    []) ≡
    first_of
    (refuse_at n a size_outside ∷
    refuse_at (at + cond b 1 2) (b || c) number_outside ∷
    refuse_at (at + cond d 0 1) (d || e) not_ascending ∷
    refuse_at n f too_many_runs ∷
    refuse_at n g lock_without_need ∷
    refuse_at n h too_many_steps ∷
    [])
unfolding first_of
by_byte at n true b c d e f g h same = rw same
by_byte at n false true c d e f g h same = refl
by_byte at n false false true d e f g h same = refl
by_byte at n false false false true e f g h same = rw add-zero
by_byte at n false false false false true f g h same = refl
by_byte at n false false false false false f g h same = rw same

module _ (s : List ℕ) (at : ℕ) (seen : Seen) where
  abbrev Fault : ℕ → Type 0
  Fault n = record { number = n; place = at } ≡ fault_at s at seen

  pub past_the_end : length s ≤ at → Fault no_end
  unfolding faults_at first_of place_of wrong_byte
  past_the_end h = rw (le-leb (length s) at h, add-zero)

  module _ (begun : at < length s) where
    pub unknown : is_kind (kind_at s at) ≡ false → Fault unknown_kind
    unfolding faults_at first_of place_of wrong_byte
    unknown k = rw (lt-leb (length s) at begun, k, add-zero)

    module _ (k : Kind) (is : kind_number k ≡ kind_at s at) where
      known : is_kind (kind_at s at) ≡ true
      known = rw (← is) (number_known k)

      pub placed_wrong : misplaced seen (kind_number k) ≡ true → Fault sizes_misplaced
      unfolding faults_at first_of place_of wrong_byte
      placed_wrong m = rw (lt-leb (length s) at begun, known, ← is, m, add-zero)

      module _ (placed : misplaced seen (kind_number k) ≡ false) where
        pub cut_short : length s < at + 1 + body_length (kind_number k) → Fault no_end
        unfolding faults_at first_of place_of wrong_byte
        cut_short h = rw (lt-leb (length s) at begun, known, ← is, placed, lt-ltb (length s) (at + 1 + body_length (kind_number k)) h, add-zero)

        pub whole : (p : Parts) → Says s at p → at + 1 + body_length (kind_number k) ≤ length s
            → first_of (body_checks at seen (kind_number p.kind) p.first p.second p.third) ≡ fault_at s at seen
        unfolding faults_at first_of place_of wrong_byte body_checks outside disordered body_at
        whole p said h =
            let kind : ℕ = kind_at s at in
            let x : ℕ = byte_at s at 0 in
            let y : ℕ = byte_at s at 1 in
            let table : Table = seen.task.table in
            let here : misplaced seen (kind) ≡ false = rw (← is) placed in
            let fits : at + 1 + body_length (kind) ≤ length s = rw (← is) h in
            rw (said.kind, said.first, said.second, said.third, lt-leb (length s) at begun, known, here, le-ltb (length s) (next_at s at) (fits))
            (by_byte at (at + 0) (eqb (kind) sizes_kind && sizes_wrong (x) (y) (byte_at s at 2)) (first_outside (table) (kind) (x)) (second_outside (table) (kind) (y))
            (kind_disordered seen (kind)) (body_disordered seen (kind) (x) (y)) (eqb (kind) run_kind && leb max_runs seen.task.runs.many)
            (lock_stray (table).needs (kind) (x) (y)) (full seen (kind)) (add-zero at))

-- What stands behind the kind byte, and what the code read of a record: its kind, and its body from there.
module _ (s : List ℕ) (at : ℕ) where
  abbrev behind : List ℕ
  behind = take (length s - (at + 1)) (drop (at + 1) s)

  is_rest : behind ≡ drop (at + 1) s
  is_rest = rw (← length-drop (at + 1) s) (take-length (drop (at + 1) s))

  pub left : length behind ≡ length s - (at + 1)
  left = ap (λ (l : List ℕ). length l) is_rest ∙ length-drop (at + 1) s

  byte : (i : ℕ) → get_or behind i 0 ≡ byte_at s at i
  byte i = ap (λ (l : List ℕ). get_or l i 0) is_rest ∙ get_or-drop (at + 1) s i 0

  pub says : (k : Kind) (p : Parts) → kind_number k ≡ kind_at s at
      → p ≡ record { kind = k; first = get_or behind 0 0; second = get_or behind 1 0; third = get_or behind 2 0 } → Says s at p
  says k p is read = rw read (record { kind = is; first = byte 0; second = byte 1; third = byte 2 })
