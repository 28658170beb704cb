-- When a record is good: one that fits and comes later than the last, the end, and the first. Assumes nothing.
use mathlib.Core.Bool.{Bool, true, false, not, ◌&&◌, ◌||◌, true≢false}
use mathlib.Core.List.{List}
use mathlib.Core.Path.{◌≡◌, refl, sym, ap, ◌∙◌}
use Prim.Native.Nat.{ℕ, ◌+◌, ◌<◌, ◌≤◌}
use native.Mathlib.Omega.{arith}
use lib.Dec.{eqb, leb, ltb}
use lib.ListN.{length, get_or}
use borrow.Author.Tests.{eqb-true, eqb-false, ne_eqb, le-leb, lt-leb, lt-ltb, le-ltb}
use Rattle.facts.specs.Sets.{has}
use Rattle.table.specs.Sizes.{max_facts, max_actions, max_runs, max_steps, max_limit}
use Rattle.table.specs.Tasks.{count_of, WellFormed}
use Rattle.table.specs.declared.Task.{Task}
use Rattle.taskformat.specs.Format.{sizes_kind, run_kind, start_kind, lock_kind, step_kind, end_kind, no_kind, is_kind, is_cell_kind, is_fact_kind, body_length, position_of}
use Rattle.taskformat.specs.Reading.{Seen, last_run, nothing_seen, kind_at, byte_at, body_at, misplaced, sizes_wrong, outside, disordered, lock_stray}
use Rattle.taskformat.proofs.Clear.{Clear}
use Rattle.taskformat.proofs.PositionLaws.{order, apart}
use Rattle.taskformat.proofs.Fitting.{OnNeed, on_need, Fits, opens_run, fact_fits, cell_fits, step_fits, Fitted, fitted, in_last_run, slot_of, record_rank}
use Rattle.taskformat.proofs.GoodFits.{some_kind}
use Rattle.taskformat.proofs.Standing.{Standing, last_rank, body_slot}

fits_inside : (t : Task) (k x y : ℕ) → Fits t k x y → outside t.table k x y ≡ false
unfolding outside is_fact_kind is_cell_kind
fits_inside t k x y (opens_run is l) = rw is
fits_inside t k x y (fact_fits kind l) =
    rw (kind.fact, kind.not_cell, kind.not_step, lt-leb t.table.facts x l)
fits_inside t k x y (cell_fits kind l m first need) =
    rw (kind.not_fact, kind.cell, lt-leb t.table.actions x l, lt-leb t.table.facts y m)
fits_inside t k x y (step_fits is l m) = rw (is, lt-leb t.table.actions x l)

fits_known : (t : Task) (k x y : ℕ) → Fits t k x y → is_kind k ≡ true
unfolding is_kind
fits_known t k x y (opens_run is l) = rw is
fits_known t k x y (fact_fits kind l) = kind.known
fits_known t k x y (cell_fits kind l m first need) = kind.known
fits_known t k x y (step_fits is l m) = rw is

ordered_range : (t : Task) (k x y : ℕ) → Fits t k x y → (is_fact_kind k || is_cell_kind k) ≡ true
    → (position_of start_kind ≤ position_of k) × (position_of k ≤ position_of lock_kind)
unfolding is_fact_kind is_cell_kind
ordered_range t k x y (opens_run is l) e = absurd (true≢false (sym e ∙ rw is))
ordered_range t k x y (fact_fits kind l) e = (kind.low, omega (arith, order))
ordered_range t k x y (cell_fits kind l m first need) e = (omega (arith, order), kind.high)
ordered_range t k x y (step_fits is l m) e = absurd (true≢false (sym e ∙ rw is))

-- The three parts of the order: a kind that opens no run does not go down, a cell is of the first run, bodies ascend.
not_down : (seen : Seen) (slot k x y : ℕ) → Standing seen slot → Fitted seen.task k x y → last_rank seen slot < record_rank seen.task k x y
    → (b : Bool) → eqb k run_kind ≡ b → (not b && ltb (position_of k) (position_of seen.kind)) ≡ false
not_down seen slot k x y stands tells later true e = refl
not_down seen slot k x y stands tells later false e =
    let run = in_last_run seen.task k x y tells (eqb-false k run_kind e) in
    let small = stands.small in
    let also = tells.small in le-ltb (position_of k) (position_of seen.kind) (omega arith)

not_stray : (t : Task) (k x y : ℕ) → Fits t k x y → (is_cell_kind k && ltb 0 (last_run t.runs)) ≡ false
unfolding is_cell_kind
not_stray t k x y (opens_run is l) = rw is
not_stray t k x y (fact_fits kind l) = rw kind.not_cell
not_stray t k x y (cell_fits kind l m first need) = rw (kind.cell, first)
not_stray t k x y (step_fits is l m) = rw is

in_order : (seen : Seen) (slot k x y b : ℕ) → Standing seen slot → Fits seen.task k x y → Fitted seen.task k x y
    → last_rank seen slot < record_rank seen.task k x y
    → (position_of start_kind ≤ position_of k → position_of k ≤ position_of lock_kind → slot_of seen.task k x y ≡ b) → disordered seen k b ≡ false
unfolding disordered
in_order seen slot k x y b stands fit tells later same =
    rw (not_down seen slot k x y stands tells later (eqb k run_kind) refl, not_stray seen.task k x y fit)
    (by (eqb k seen.kind) (is_fact_kind k || is_cell_kind k) refl refl)
  where
    by : (c d : Bool) → eqb k seen.kind ≡ c → (is_fact_kind k || is_cell_kind k) ≡ d → (c && d && leb b seen.body) ≡ false
    by false d e p = refl
    by true false e p = refl
    by true true e p =
        let is = ap position_of (eqb-true k seen.kind e) in
        let range = ordered_range seen.task k x y fit p in
        let run = tells.same_run (omega (arith, order)) in
        let last = stands.ordered (omega arith) (omega arith) in
        let here = same range.0 range.1 in
        lt-leb b seen.body (omega arith)

pub clear_later : (s : List ℕ) (at : ℕ) (seen : Seen) (slot : ℕ) → Standing seen slot
    → Fits seen.task (kind_at s at) (byte_at s at 0) (byte_at s at 1) → at + 1 + body_length (kind_at s at) ≤ length s
    → last_rank seen slot < record_rank seen.task (kind_at s at) (byte_at s at 0) (byte_at s at 1) → Clear s at seen
unfolding misplaced lock_stray
clear_later s at seen slot stands fit whole later =
    let k = kind_at s at in
    let x = byte_at s at 0 in
    let y = byte_at s at 1 in
    let tells = fitted seen.task k x y stands.formed fit in
    let not-sizes : eqb k sizes_kind ≡ false = ne_eqb k sizes_kind (apart sizes_kind k tells.later) in
    record {
      begun = omega arith;
      known = fits_known seen.task k x y fit;
      placed = rw (some_kind seen stands.low) not-sizes;
      whole = whole;
      sized = rw not-sizes;
      inside = fits_inside seen.task k x y fit;
      ordered = in_order seen slot k x y (body_at s at) stands fit tells later (body_slot s at seen.task tells);
      runs = runs (eqb k run_kind) refl tells;
      locked = on_needs (eqb k lock_kind) refl (on_need seen.task k x y fit);
      room = room (eqb k step_kind) refl tells;
    }
  where
    runs : (b : Bool) → eqb (kind_at s at) run_kind ≡ b → Fitted seen.task (kind_at s at) (byte_at s at 0) (byte_at s at 1)
        → (b && leb max_runs seen.task.runs.many) ≡ false
    runs true e tells = lt-leb max_runs seen.task.runs.many (tells.opens (ap position_of (eqb-true (kind_at s at) run_kind e)))
    runs false e tells = refl

    on_needs : (b : Bool) → eqb (kind_at s at) lock_kind ≡ b → OnNeed seen.task (kind_at s at) (byte_at s at 0) (byte_at s at 1)
        → (b && not (has (get_or seen.task.table.needs (byte_at s at 0) 0) (byte_at s at 1))) ≡ false
    on_needs true e need = rw (need (eqb-true (kind_at s at) lock_kind e))
    on_needs false e need = refl

    room : (b : Bool) → eqb (kind_at s at) step_kind ≡ b → Fitted seen.task (kind_at s at) (byte_at s at 0) (byte_at s at 1)
        → (b && leb max_steps (count_of seen.task.runs (last_run seen.task.runs))) ≡ false
    room true e tells =
        lt-leb max_steps (count_of seen.task.runs (last_run seen.task.runs)) (tells.room (ap position_of (eqb-true (kind_at s at) step_kind e)))
    room false e tells = refl

-- A good end.
pub clear_end : (s : List ℕ) (at : ℕ) (seen : Seen) (slot : ℕ) → Standing seen slot → kind_at s at ≡ end_kind → at + 1 ≡ length s → Clear s at seen
unfolding misplaced is_kind is_fact_kind is_cell_kind body_length outside disordered lock_stray
clear_end s at seen slot stands is last = record {
  begun = omega arith;
  known = rw is;
  placed = rw (is, some_kind seen stands.low);
  whole = rw is (omega arith);
  sized = rw is;
  inside = rw is;
  ordered = rw (is, le-ltb (position_of end_kind) (position_of seen.kind) (omega arith), ne_eqb end_kind seen.kind (apart seen.kind end_kind stands.high));
  runs = rw is;
  locked = rw is;
  room = rw is;
}

-- A good first record.
sizes_right : (f a l : ℕ) → 0 < f → f ≤ max_facts → 0 < a → a ≤ max_actions → l ≤ max_limit → sizes_wrong f a l ≡ false
unfolding sizes_wrong
sizes_right f a l p q u v w = rw (lt-ltb 0 f p, le-leb f max_facts q, lt-ltb 0 a u, le-leb a max_actions v, le-leb l max_limit w)

pub clear_first : (t : Task) → WellFormed t → (s : List ℕ) → kind_at s 0 ≡ sizes_kind → byte_at s 0 0 ≡ t.table.facts
    → byte_at s 0 1 ≡ t.table.actions → byte_at s 0 2 ≡ t.table.limit → 4 ≤ length s → Clear s 0 nothing_seen
unfolding misplaced is_kind is_fact_kind is_cell_kind body_length outside disordered lock_stray
clear_first t formed s is x y z four = record {
  begun = omega arith;
  known = rw is;
  placed = rw is;
  whole = rw is four;
  sized = rw (is, x, y, z)
      (sizes_right t.table.facts t.table.actions t.table.limit formed.facts_low formed.facts_high formed.actions_low
      formed.actions_high formed.limit_high);
  inside = rw is;
  ordered = rw (is, le-ltb (position_of sizes_kind) (position_of no_kind) (omega (arith, order)));
  runs = rw is;
  locked = rw is;
  room = rw is;
}
