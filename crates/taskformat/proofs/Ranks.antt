-- The records of a task by rank: one number for the run, the kind's position and the place within the kind, in the order of the file.
-- Assumes nothing.
use mathlib.Core.Bool.{true, cond, ◌&&◌}
use mathlib.Core.List.{List, [], ◌∷◌}
use mathlib.Core.Path.{◌≡◌, refl, ap, ◌∙◌}
use Prim.Native.Nat.{ℕ, suc, ◌+◌, ◌-◌, ◌*◌, ◌/◌, ◌%◌, ◌<◌, ◌≤◌}
use native.Mathlib.Omega.{arith}
use lib.Dec.{eqb, ltb}
use lib.ListN.{get_or}
use borrow.Author.Tests.{eqb-true, ltb-true, lt-ltb, le-ltb}
use Rattle.facts.specs.Sets.{has}
use Rattle.table.specs.Lists.{gather, piece}
use Rattle.table.specs.Sizes.{max_actions, max_runs}
use Rattle.table.specs.Tasks.{count_of, step_of}
use Rattle.table.specs.declared.Runs.{Runs}
use Rattle.table.specs.declared.Table.{Table}
use Rattle.table.specs.declared.Task.{Task}
use Rattle.taskformat.specs.Format.{sizes_kind, run_kind, start_kind, need_kind, add_kind, delete_kind, step_kind, end_kind, is_kind, is_cell_kind, is_fact_kind, position_of, kind_in}
use Rattle.taskformat.specs.Reading.{byte_room}
use Rattle.table.proofs.FlagLaws.{both, is_false}
use Rattle.table.proofs.GatherLaws.{gather_none, gather_next, gather_zero}
use Rattle.taskformat.proofs.PositionLaws.{positions, order, kind_position, position_kind, none_first}

-- The places of one kind, enough for an action and a byte.
abbrev pub slots : ℕ
slots = max_actions * byte_room

-- The record of one run and kind at one place, if the task has it: i is the run, k the kind, j the place. The sizes and the cells are read
-- with the first run; what opens a run is in each further one.
abbrev pub sizes_record : Table → List ℕ
sizes_record t = sizes_kind ∷ t.facts ∷ t.actions ∷ t.limit ∷ []

abbrev pub fact_sets : Runs → ℕ → List ℕ
fact_sets r k = cond (eqb k start_kind) r.starts r.goals

abbrev pub fact_set : Runs → ℕ → ℕ → ℕ
fact_set r k i = get_or (fact_sets r k) i 0

abbrev pub cell_sets : Table → ℕ → List ℕ
cell_sets t k = cond (eqb k need_kind) t.needs (cond (eqb k add_kind) t.adds (cond (eqb k delete_kind) t.deletes t.locks))

abbrev pub cell_set : Table → ℕ → ℕ → ℕ
cell_set t k a = get_or (cell_sets t k) a 0

unfoldable pub sizes_piece : Task → ℕ → ℕ → List ℕ
sizes_piece t i j = piece (eqb i 0 && eqb j 0) (sizes_record t.table)

unfoldable pub run_piece : Task → ℕ → ℕ → List ℕ
run_piece t i j = piece (ltb 0 i && ltb i t.runs.many && eqb j 0) (run_kind ∷ [])

unfoldable pub fact_piece : Task → ℕ → ℕ → ℕ → List ℕ
fact_piece t i k j = piece (has (fact_set t.runs k i) j) (k ∷ j ∷ [])

unfoldable pub cell_piece : Task → ℕ → ℕ → ℕ → List ℕ
cell_piece t i k j =
    piece (eqb i 0 && has (cell_set t.table k (j / byte_room)) (j % byte_room)) (k ∷ j / byte_room ∷ j % byte_room ∷ [])

unfoldable pub step_piece : Task → ℕ → ℕ → List ℕ
step_piece t i j = piece (ltb j (count_of t.runs i)) (step_kind ∷ step_of t.runs i j ∷ [])

unfoldable pub slot_piece : Task → ℕ → ℕ → ℕ → List ℕ
slot_piece t i k j =
    cond (eqb k sizes_kind) (sizes_piece t i j)
    (cond (eqb k run_kind) (run_piece t i j)
    (cond (is_fact_kind k) (fact_piece t i k j) (cond (is_cell_kind k) (cell_piece t i k j) (cond (eqb k step_kind) (step_piece t i j) []))))

-- The rank of a place; how many ranks are before the end; the run and the kind of a rank; and its record, if the task has it.
abbrev pub rank : ℕ → ℕ → ℕ → ℕ
rank i k j = (i * positions + position_of k) * slots + j

abbrev pub ranks : ℕ
ranks = max_runs * positions * slots

abbrev pub run_at_rank : ℕ → ℕ
run_at_rank r = r / slots / positions

abbrev pub kind_at_rank : ℕ → ℕ
kind_at_rank r = kind_in (r / slots % positions)

abbrev pub piece_at : Task → ℕ → List ℕ
piece_at t r = slot_piece t (run_at_rank r) (kind_at_rank r) (r % slots)

pub at_rank : (t : Task) (i k j : ℕ) → is_kind k ≡ true → position_of k < position_of end_kind → j < slots → piece_at t (rank i k j) ≡ slot_piece t i k j
at_rank t i k j known last l =
    let run : run_at_rank (rank i k j) ≡ i = omega (arith, order) in
    let position : rank i k j / slots % positions ≡ position_of k = omega (arith, order) in
    let place : rank i k j % slots ≡ j = omega arith in rw (run, position, place, kind_position k known)

-- A rank is that of its run, its kind and its place, where it has a kind; and it has that run alone, that kind and that place.
rank_position : (r : ℕ) → is_kind (kind_at_rank r) ≡ true → position_of (kind_at_rank r) ≡ r / slots % positions
rank_position r known = position_kind (r / slots % positions) known

pub rank_whole : (r i k j : ℕ) → is_kind (kind_at_rank r) ≡ true → run_at_rank r ≡ i → kind_at_rank r ≡ k → r % slots ≡ j → r ≡ rank i k j
rank_whole r i k j known run kind place =
    let position = rank_position r known in
    let same = ap position_of kind in omega arith

pub record Digits (r i k j : ℕ) : Type 0 where
  pub run : run_at_rank r ≡ i
  pub kind : kind_at_rank r ≡ k
  pub place : r % slots ≡ j

pub digits : (r i k j : ℕ) → is_kind k ≡ true → position_of k < position_of end_kind → j < slots → r ≡ rank i k j → Digits r i k j
digits r i k j known last l e =
    let position : r / slots % positions ≡ position_of k = omega (arith, order) in
    record { run = omega (arith, order); kind = ap kind_in position ∙ kind_position k known; place = omega arith }

-- Nothing from m on, where n is not below m.
pub gather_up_to : (p : ℕ → List ℕ) (m n : ℕ) → m ≤ n → ((i : ℕ) → m ≤ i → p i ≡ []) → gather p n ≡ gather p m
gather_up_to p m n l none =
    let e : n ≡ m + (n - m) = omega arith in
    ap (gather p) e ∙ gather_none p m (n - m) (λ i h _. none i h)

-- The sizes come first.
pub no_piece : (t : Task) (r : ℕ) → r < rank 0 sizes_kind 0 → piece_at t r ≡ []
unfolding slot_piece is_fact_kind is_cell_kind
no_piece t r l = rw (none_first (r / slots % positions) (omega (arith, order)))

pub first_piece : (t : Task) → piece_at t (rank 0 sizes_kind 0) ≡ sizes_record t.table
unfolding slot_piece sizes_piece is_kind
first_piece t = at_rank t 0 sizes_kind 0 refl (omega (arith, order)) (omega arith)

pub none_before : (t : Task) → gather (piece_at t) (rank 0 sizes_kind 0) ≡ []
none_before t =
    let e : rank 0 sizes_kind 0 ≡ 0 + rank 0 sizes_kind 0 = omega arith in
    ap (gather (piece_at t)) e ∙ gather_none (piece_at t) 0 (rank 0 sizes_kind 0) (λ r _ l. no_piece t r (omega arith)) ∙ gather_zero (piece_at t)

pub sizes_first : (t : Task) → gather (piece_at t) (suc (rank 0 sizes_kind 0)) ≡ sizes_record t.table
sizes_first t = gather_next (piece_at t) (rank 0 sizes_kind 0) ∙ rw (none_before t) (first_piece t)

-- The sizes come once; the steps come by their number; the runs are opened one after the other.
pub sizes_once : (t : Task) (r : ℕ) → kind_at_rank r ≡ sizes_kind → (r ≡ rank 0 sizes_kind 0 → ⊥) → piece_at t r ≡ []
unfolding slot_piece sizes_piece is_kind
sizes_once t r is other =
    rw (
      is,
      is_false (eqb (run_at_rank r) 0 && eqb (r % slots) 0) (λ e.
          let tests = both (eqb (run_at_rank r) 0) (eqb (r % slots) 0) e in
          other (rank_whole r 0 sizes_kind 0 (rw is) (eqb-true (run_at_rank r) 0 tests.0) is (eqb-true (r % slots) 0 tests.1))),
    )

pub step_here : (t : Task) (r : ℕ) → kind_at_rank r ≡ step_kind → piece_at t r ≡ step_piece t (run_at_rank r) (r % slots)
unfolding slot_piece is_fact_kind is_cell_kind
step_here t r is = rw is

pub step_shape : (t : Task) (r i j : ℕ) → r ≡ rank i step_kind j → j < slots → piece_at t r ≡ step_piece t i j
unfolding slot_piece is_kind is_fact_kind is_cell_kind
step_shape t r i j e l = rw e (at_rank t i step_kind j refl order.end l)

pub some_step : (t : Task) (i j : ℕ) → j < count_of t.runs i → step_piece t i j ≡ step_kind ∷ step_of t.runs i j ∷ []
unfolding step_piece
some_step t i j l = rw (lt-ltb j (count_of t.runs i) l)

pub no_step : (t : Task) (i j : ℕ) → count_of t.runs i ≤ j → step_piece t i j ≡ []
unfolding step_piece
no_step t i j l = rw (le-ltb j (count_of t.runs i) l)

pub run_here : (t : Task) (r : ℕ) → kind_at_rank r ≡ run_kind → piece_at t r ≡ run_piece t (run_at_rank r) (r % slots)
unfolding slot_piece
run_here t r is = rw is

pub run_shape : (t : Task) (r i : ℕ) → r ≡ rank i run_kind 0 → piece_at t r ≡ run_piece t i 0
unfolding slot_piece is_kind
run_shape t r i e = rw e (at_rank t i run_kind 0 refl (omega (arith, order)) (omega arith))

pub some_run : (t : Task) (i : ℕ) → 0 < i → i < t.runs.many → run_piece t i 0 ≡ run_kind ∷ []
unfolding run_piece
some_run t i low l = rw (lt-ltb 0 i low, lt-ltb i t.runs.many l)

pub no_run : (t : Task) (i j : ℕ) → (0 < i → t.runs.many ≤ i) → run_piece t i j ≡ []
unfolding run_piece
no_run t i j none =
    rw (is_false (ltb 0 i && ltb i t.runs.many) (λ e.
    let tests = both (ltb 0 i) (ltb i t.runs.many) e in
    let low = ltb-true 0 i tests.0 in
    let l = ltb-true i t.runs.many tests.1 in
    let past = none low in omega arith))
