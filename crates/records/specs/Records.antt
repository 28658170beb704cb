-- What the record reader gives at any place: document 01, "The task file": "Asked at any place, it gives the kind, the
-- body and the next place, or 1 or 2 at that place (1 also where the place is at or past the end)".
use Rattle.std.specs.Prelude.{Result, Ok, Err, Bool, cond, not, ◌||◌, ◌&&◌, List, [], ◌∷◌, ◌≡◌, ℕ, ◌+◌, ◌*◌, eqb, leb, ltb, length, take, drop}
use Rattle.table.specs.Refusals.{Check, Refusal, refuse_at, first_of, none, accepted, no_end, unknown_kind, size_outside, number_outside, not_ascending, too_many_runs, lock_without_need, too_many_steps, number_of}
use Rattle.table.specs.Sizes.{max_runs, max_steps}
use Rattle.table.specs.Tasks.{count_of}
use Rattle.taskformat.specs.Format.{sizes_kind, step_kind, run_kind, is_kind, is_cell_kind, is_fact_kind, body_length}
use Rattle.taskformat.specs.Reading.{kind_at, byte_at, next_at, byte_room, Seen, last_run, sizes_wrong, first_outside, kind_disordered, lock_stray, fault_at}
use Rattle.table.specs.declared.Table.{Table}
use Rattle.records.specs.declared.record.Record.{Record}
use Rattle.records.specs.declared.record.RecordReply.{RecordReply}
use Rattle.table.specs.declared.refusals.Refusal as code
use Rattle.records.specs.declared.parts.Parts.{Parts}
use Rattle.records.specs.declared.seen.Seen as told
use Rattle.records.specs.Kinds.{kind_number, last_kind}

-- 01's order: 1 (no kind byte), 2, 1 (short body), each at the place asked.
unfoldable pub record_fault : List ℕ → ℕ → Refusal
record_fault s at =
    first_of
    (refuse_at at (leb (length s) at) no_end ∷
    refuse_at at (not (is_kind (kind_at s at))) unknown_kind ∷
    refuse_at at (ltb (length s) (next_at s at)) no_end ∷
    [])

-- Beside its number and place a refused record is zeros.
abbrev pub refused_record : ℕ → ℕ → RecordReply
refused_record n p = record { number = n; place = p; kind = 0; start = 0; length = 0; next = 0 }

-- What the code answers, in 01's numbers.
abbrev pub record_told : Result Record code.Refusal → RecordReply
record_told (Ok r) = record { number = accepted; place = 0; kind = kind_number r.kind; start = r.start; length = r.length; next = r.next }
record_told (Err e) = refused_record (number_of e.why) e.place

abbrev pub whole_record : List ℕ → ℕ → RecordReply
whole_record s at = record {
  number = accepted;
  place = 0;
  kind = kind_at s at;
  start = at + 1;
  length = body_length (kind_at s at);
  next = next_at s at;
}

unfoldable pub record_at : List ℕ → ℕ → RecordReply
record_at s at =
    cond {A = RecordReply} (eqb (record_fault s at).number accepted)
    (whole_record s at)
    (refused_record (record_fault s at).number (record_fault s at).place)

-- The body, as that part of the file; the record reader's empty body where refused.
unfoldable pub body_of : List ℕ → ℕ → List ℕ
body_of s at = take (record_at s at).length (drop (record_at s at).start s)

-- What has been seen, with the last kind as its number.
abbrev pub seen_of : told.Seen → Seen
seen_of seen = record { task = seen.task; kind = last_kind seen.kind; body = seen.body }

-- A body of one or two bytes as one number.
abbrev pub number_of_body : ℕ → ℕ → ℕ → ℕ
number_of_body kind x y = cond (is_cell_kind kind) (byte_room * x + y) x

-- 5: the second number is outside: only a cell has one, its fact.
abbrev pub second_outside : Table → ℕ → ℕ → Bool
second_outside t kind y = is_cell_kind kind && leb t.facts y

-- 6: the body does not ascend.
abbrev pub body_disordered : Seen → ℕ → ℕ → ℕ → Bool
body_disordered seen kind x y = eqb kind seen.kind && (is_fact_kind kind || is_cell_kind kind) && leb (number_of_body kind x y) seen.body

-- 7: "a 65th step".
abbrev pub full : Seen → ℕ → Bool
full seen kind = eqb kind step_kind && leb max_steps (count_of seen.task.runs (last_run seen.task.runs))

-- The checks of a record behind 1, 2, 3 and 1: those of a body that is there, 4, 5, 6, 16, 18 and 7, each at the byte that is wrong.
unfoldable pub body_checks : ℕ → Seen → (kind x y z : ℕ) → List Check
body_checks at seen kind x y z =
    refuse_at at (eqb kind sizes_kind && sizes_wrong x y z) size_outside ∷
    refuse_at (at + 1) (first_outside seen.task.table kind x) number_outside ∷
    refuse_at (at + 2) (second_outside seen.task.table kind y) number_outside ∷
    refuse_at at (kind_disordered seen kind) not_ascending ∷
    refuse_at (at + 1) (body_disordered seen kind x y) not_ascending ∷
    refuse_at at (eqb kind run_kind && leb max_runs seen.task.runs.many) too_many_runs ∷
    refuse_at at (lock_stray seen.task.table.needs kind x y) lock_without_need ∷
    refuse_at at (full seen kind) too_many_steps ∷ []

-- The record at a place, by its kind and the bytes of its body.
pub record Says (s : List ℕ) (at : ℕ) (p : Parts) : Type 0 where
  pub kind : kind_number p.kind ≡ kind_at s at
  pub first : p.first ≡ byte_at s at 0
  pub second : p.second ≡ byte_at s at 1
  pub third : p.third ≡ byte_at s at 2

-- A record is given if it has no fault, and else the first of its faults.
abbrev pub Checks : List ℕ → ℕ → Seen → Result Parts code.Refusal → Type 0
Checks s at seen (Ok p) = (none ≡ fault_at s at seen) × Says s at p
Checks s at seen (Err e) = record { number = number_of e.why; place = e.place } ≡ fault_at s at seen
