-- What the record at a place is, case by case in 01's order, and that its body lies within the file.
use mathlib.Core.Bool.{Bool, true, false}
use mathlib.Core.List.{List}
use mathlib.Core.Path.{◌≡◌, refl}
use Prim.Native.Nat.{ℕ, ◌+◌, ◌<◌, ◌≤◌, zero-le}
use borrow.Author.Tests.{le-leb, lt-leb, lt-ltb, le-ltb, leb-true, leb-false, ltb-true, ltb-false}
use lib.Dec.{leb, ltb}
use lib.ListN.{length}
use Rattle.table.specs.Refusals.{first_of, accepted, no_end, unknown_kind}
use Rattle.taskformat.specs.Format.{is_kind, body_length}
use Rattle.taskformat.specs.Reading.{kind_at, next_at}
use Rattle.records.specs.declared.kinds.Kind.{Kind}
use Rattle.records.specs.declared.kinds.Kind.TheVariants.{Sizes, Start, Goal, Need, Add, Delete, Step, End, Run, Lock}
use Rattle.records.specs.Kinds.{kind_number}
use Rattle.records.specs.Records.{record_fault, record_at, refused_record, whole_record}
use Rattle.records.specs.declared.record.RecordReply.{RecordReply}

pub number_known : (k : Kind) → is_kind (kind_number k) ≡ true
unfolding is_kind
number_known Sizes = refl
number_known Start = refl
number_known Goal = refl
number_known Need = refl
number_known Add = refl
number_known Delete = refl
number_known Step = refl
number_known End = refl
number_known Run = refl
number_known Lock = refl

module _ (s : List ℕ) (at : ℕ) where
  pub past_the_end : length s ≤ at → record_at s at ≡ refused_record no_end at
  unfolding record_at record_fault first_of
  past_the_end h = rw (le-leb (length s) at h)

  module _ (within : at < length s) where
    pub unknown : is_kind (kind_at s at) ≡ false → record_at s at ≡ refused_record unknown_kind at
    unfolding record_at record_fault first_of
    unknown k = rw (lt-leb (length s) at within, k)

    module _ (known : is_kind (kind_at s at) ≡ true) where
      short_lem : length s < next_at s at → record_at s at ≡ refused_record no_end at
      unfolding record_at record_fault first_of
      short_lem h = rw (lt-leb (length s) at within, known, lt-ltb (length s) (next_at s at) h)

      whole_lem : next_at s at ≤ length s → record_at s at ≡ whole_record s at
      unfolding record_at record_fault first_of
      whole_lem h = rw (lt-leb (length s) at within, known, le-ltb (length s) (next_at s at) h)

    -- The same of a kind that the code read.
    module _ (k : Kind) (is : kind_number k ≡ kind_at s at) where
      known_lem : is_kind (kind_at s at) ≡ true
      known_lem = rw (← is) (number_known k)

      pub cut_short : length s < at + 1 + body_length (kind_number k) → record_at s at ≡ refused_record no_end at
      cut_short h = short_lem (known_lem) (rw is at h)

      pub whole : at + 1 + body_length (kind_number k) ≤ length s → record_at s at ≡
          record { number = accepted; place = 0; kind = kind_number k; start = at + 1; length = body_length (kind_number k); next = at + 1 + body_length (kind_number k) }
      whole h = rw is (whole_lem (known_lem) (rw is at h))

-- Where a record stands: its body ends at the next place, which is within the file. Of a refused one all is 0.
pub record Placed (s : List ℕ) (r : RecordReply) : Type 0 where
  pub ends : r.start + r.length ≡ r.next
  pub within : r.next ≤ length s

module _ (s : List ℕ) (at : ℕ) where
  nowhere : (n : ℕ) → Placed s (refused_record n at)
  nowhere n = record { ends = refl; within = zero-le }

  pub placed : Placed s (record_at s at)
  placed = by_place (leb (length s) at) refl
    where
      by_end : at < length s → is_kind (kind_at s at) ≡ true → (b : Bool) → ltb (length s) (next_at s at) ≡ b → Placed s (record_at s at)
      by_end h k true e = rw (short_lem s at h k (ltb-true _ _ e)) (nowhere no_end)
      by_end h k false e = rw (whole_lem s at h k (ltb-false _ _ e)) (record { ends = refl; within = ltb-false _ _ e })

      by_kind_lem : at < length s → (b : Bool) → is_kind (kind_at s at) ≡ b → Placed s (record_at s at)
      by_kind_lem h true e = by_end h e (ltb (length s) (next_at s at)) refl
      by_kind_lem h false e = rw (unknown s at h e) (nowhere unknown_kind)

      by_place : (b : Bool) → leb (length s) at ≡ b → Placed s (record_at s at)
      by_place true e = rw (past_the_end s at (leb-true _ _ e)) (nowhere no_end)
      by_place false e = by_kind_lem (leb-false _ _ e) (is_kind (kind_at s at)) refl
