-- Where a reader stands after it moved on, from a record that was handed out; and file and place tell a reader. Assumes nothing.
use mathlib.Core.List.{List}
use mathlib.Core.Path.{◌≡◌}
use Prim.Native.Nat.{ℕ}
use borrow.Author.Tests.{eq-eqb, ne_eqb}
use Rattle.table.specs.Refusals.{accepted}
use Rattle.records.specs.Records.{record_at}
use Rattle.records.specs.declared.record.RecordReply.{RecordReply}
use Rattle.recordreader.specs.Places.{place_after}
use Rattle.recordreader.specs.declared.Reader.{Reader}

pub good_record_next : (s : List ℕ) (at : ℕ) (f : RecordReply) → f ≡ record_at s at → f.number ≡ accepted → f.next ≡ place_after s at
unfolding place_after
good_record_next s at f e good = rw (← e, eq-eqb f.number accepted good)

pub refused_record_stays : (s : List ℕ) (at : ℕ) (f : RecordReply) → f ≡ record_at s at → (f.number ≡ accepted → ⊥) → at ≡ place_after s at
unfolding place_after
refused_record_stays s at f e refused = rw (← e, ne_eqb f.number accepted refused)

-- so what `new` and `moved_on` promise, file and place, is met by one reader only
pub file_and_place_tell : (r q : Reader) → r.file ≡ q.file → r.at ≡ q.at → r ≡ q
file_and_place_tell r q same-file same_place = λ i. record { file = same-file i; at = same_place i }
