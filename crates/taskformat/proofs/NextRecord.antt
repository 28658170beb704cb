-- What a task has at a rank, seen from a state that holds the task's records below it: nothing, or the record that comes next.
-- Assumes nothing.
use mathlib.Core.Bool.{Bool, true, false, cond, ◌&&◌, true≢false}
use mathlib.Core.List.{[], ◌∷◌}
use mathlib.Core.Path.{◌≡◌, refl, sym, ap, ◌∙◌}
use Prim.Native.Nat.{ℕ, suc, ◌+◌, ◌-◌, ◌*◌, ◌/◌, ◌%◌, ◌<◌, ◌≤◌}
use native.Mathlib.Omega.{arith}
use lib.Dec.{eqb, ltb}
use lib.ListN.{length, get_or}
use borrow.Author.Tests.{ltb-true, ltb-false, eqb-true}
use Rattle.facts.specs.Sets.{has}
use Rattle.facts.proofs.Laws.{has_empty}
use Rattle.table.specs.Sizes.{max_actions}
use Rattle.table.specs.Tasks.{cells_of, count_of, step_of, WellFormed}
use Rattle.table.specs.declared.Task.{Task}
use Rattle.taskformat.specs.Format.{is_kind, run_kind, start_kind, need_kind, step_kind, end_kind, position_of}
use Rattle.taskformat.specs.Reading.{byte_room, Seen, last_run}
use Rattle.taskformat.proofs.Ranks.{slots, rank, fact_set, cell_set, run_piece, fact_piece, cell_piece, run_at_rank, kind_at_rank, piece_at, rank_whole, sizes_once, step_here, step_shape, some_step, no_step, run_here, run_shape, some_run, no_run}
use Rattle.taskformat.proofs.PositionLaws.{order}
use Rattle.taskformat.proofs.Families.{FactKind, CellKind, need_kind_lem, Family, of_none, of_sizes, of_run, of_fact, of_cell, of_step, family}
use Rattle.taskformat.proofs.Fitting.{OnNeed, Fits, opens_run, fact_fits, cell_fits, step_fits, fitted, record_rank, record_bytes, run_bytes, fact_bytes, cell_bytes, step_bytes}
use Rattle.table.proofs.FlagLaws.{both, by_order}
use Rattle.taskformat.proofs.Standing.{Standing, last_rank}
use Rattle.taskformat.proofs.SameTask.{SameSizes, same_cell}

-- The sizes are the task's, and so are the records below rank r.
pub record Agrees (t : Task) (seen : Seen) (r : ℕ) : Type 0 where
  pub sizes : SameSizes seen.task.table t.table
  pub pieces : (q : ℕ) → q < r → piece_at seen.task q ≡ piece_at t q

-- The record of rank r, with these bytes, is the next of the task.
pub record Here (t : Task) (seen : Seen) (r k x y : ℕ) : Type 0 where
  pub fit : Fits seen.task k x y
  pub place : record_rank seen.task k x y ≡ r
  pub bytes : record_bytes k x y ≡ piece_at t r

-- What the task has at rank r: nothing, a record of one byte or of two (whatever bytes come after it), or one of three.
pub data Look (t : Task) (seen : Seen) (r : ℕ) : Type 0 where
  absent : piece_at t r ≡ [] → Look t seen r
  bare : (k : ℕ) → piece_at t r ≡ k ∷ [] → ((x y : ℕ) → Here t seen r k x y) → Look t seen r
  short : (k x : ℕ) → piece_at t r ≡ k ∷ x ∷ [] → ((y : ℕ) → Here t seen r k x y) → Look t seen r
  long : (k x y : ℕ) → piece_at t r ≡ k ∷ x ∷ y ∷ [] → Here t seen r k x y → Look t seen r

-- What a set of a well-formed task has is inside the task's sizes, and of one of its runs.
fact_inside : (t : Task) → WellFormed t → (k i f : ℕ) → has (fact_set t.runs k i) f ≡ true → (i < t.runs.many) × (f < t.table.facts)
fact_inside t formed k i f e = (
  by_order i t.runs.many (λ l. l) (λ l. absurd (true≢false (sym e ∙ ap (λ (m : ℕ). has m f) (none (eqb k start_kind) l) ∙ has_empty f))),
  by_order f t.table.facts (λ l. l) (λ l. absurd (true≢false (sym e ∙ out (eqb k start_kind) l))),
)
  where
    none : (b : Bool) → t.runs.many ≤ i → get_or (cond b t.runs.starts t.runs.goals) i 0 ≡ 0
    none true l = formed.start_unused i l
    none false l = formed.goal_unused i l

    out : (b : Bool) → t.table.facts ≤ f → has (get_or (cond b t.runs.starts t.runs.goals) i 0) f ≡ false
    out true l = formed.start_inside i f l
    out false l = formed.goal_inside i f l

cell_inside : (t : Task) → WellFormed t → (k a f : ℕ) → CellKind k → has (cell_set t.table k a) f ≡ true
    → (a < t.table.actions) × (f < t.table.facts)
cell_inside t formed k a f kind e = (
  by_order a t.table.actions (λ l. l)
      (λ l. absurd (true≢false (sym e ∙ ap (λ (m : ℕ). has m f) (kind.sets.unused t formed a l) ∙ has_empty f))),
  by_order f t.table.facts (λ l. l) (λ l. absurd (true≢false (sym e ∙ kind.sets.inside t formed a f l))),
)

step_inside : (t : Task) → WellFormed t → (i j : ℕ) → j < count_of t.runs i → i < t.runs.many
step_inside t formed i j l = by_order i t.runs.many (λ h. h) (λ h. let none = formed.count_unused i h in absurd (omega arith))

module _ (t : Task) (formed : WellFormed t) (seen : Seen) (slot r : ℕ) (stands : Standing seen slot)
    (later : last_rank seen slot < r) (agrees : Agrees t seen r) where
  -- A run that is opened below this rank has been seen; one that is opened from it on has not.
  run_seen : (i : ℕ) → i < t.runs.many → (0 < i → rank i run_kind 0 < r) → i < seen.task.runs.many
  run_seen i l below =
      by_order i seen.task.runs.many (λ h. h)
      (λ h.
      by_order 0 i
      (λ low.
      let longer =
      ap length (sym (no_run seen.task i 0 (λ _. h)) ∙ sym (run_shape seen.task (rank i run_kind 0) i refl)
      ∙ agrees.pieces (rank i run_kind 0) (below low) ∙ run_shape t (rank i run_kind 0) i refl ∙ some_run t i low l) in absurd (omega arith))
      (λ first. let some = stands.formed.many_low in absurd (omega arith)))

  run_unseen : (i : ℕ) → 0 < i → r ≤ rank i run_kind 0 → seen.task.runs.many ≤ i
  run_unseen i low above =
      by_order i seen.task.runs.many
      (λ l.
      let none = stands.above (rank i run_kind 0) (omega arith) in
      let longer = ap length (sym (some_run seen.task i low l) ∙ sym (run_shape seen.task (rank i run_kind 0) i refl) ∙ none) in
      absurd (omega arith))
      (λ h. h)

  -- The run of this rank is the one that was opened last, if the rank is not its opening.
  within_run : (i k j : ℕ) → position_of run_kind < position_of k → position_of k < position_of end_kind → j < slots → r ≡ rank i k j
      → i < t.runs.many → last_run seen.task.runs ≡ i
  within_run i k j low high small e used =
      let opened = run_seen i used (λ _. omega arith) in
      let not-next = run_unseen (suc i) (omega arith) (omega (arith, order)) in omega arith

  look_fact : FactKind (kind_at_rank r) → (b : Bool) → has (fact_set t.runs (kind_at_rank r) (run_at_rank r)) (r % slots) ≡ b → Look t seen r
  unfolding fact_piece
  look_fact kind false e = absent (kind.shape t (run_at_rank r) (r % slots) ∙ rw e)
  look_fact kind true e =
      let i = run_at_rank r in
      let k = kind_at_rank r in
      let j = r % slots in
      let whole = rank_whole r i k j kind.known refl refl refl in
      let piece_is : piece_at t r ≡ k ∷ j ∷ [] = kind.shape t i j ∙ rw e in
      let less = fact_inside t formed k i j e in
      let size = agrees.sizes.facts in
      let run = within_run i k j (omega (arith, order)) (omega (arith, order)) (omega arith) whole less.0 in
      let fit : (y : ℕ) → Fits seen.task k j y = λ y. fact_fits kind (omega arith) in
      short k j piece_is (λ y.
      let tells = fitted seen.task k j y stands.formed (fit y) in
      let place = tells.fact_slot kind.low kind.high in
      let here = tells.same_run (omega (arith, order)) in
      record { fit = fit y; place = omega arith; bytes = fact_bytes kind j y ∙ sym piece_is })

  -- The need under a lock of this rank has been seen: it is below.
  need_seen : (k a f : ℕ) → r ≡ rank 0 k (byte_room * a + f) → a < max_actions → f < byte_room → has (cell_set t.table k a) f ≡ true
      → OnNeed seen.task k a f
  unfolding cells_of
  need_seen k a f whole l h e lock =
      let need = formed.locks_needs a f (rw lock at e) in
      let position = ap position_of lock in
      same_cell seen.task t need_kind a f need_kind_lem l h (agrees.pieces (rank 0 need_kind (byte_room * a + f)) (omega (arith, order))) ∙ need

  look_cell : CellKind (kind_at_rank r) → (b : Bool)
      → (eqb (run_at_rank r) 0 && has (cell_set t.table (kind_at_rank r) (r % slots / byte_room)) (r % slots % byte_room)) ≡ b → Look t seen r
  unfolding cell_piece
  look_cell kind false e = absent (kind.shape t (run_at_rank r) (r % slots) ∙ rw e)
  look_cell kind true e =
      let i = run_at_rank r in
      let k = kind_at_rank r in
      let a = r % slots / byte_room in
      let f = r % slots % byte_room in
      let whole = rank_whole r i k (r % slots) kind.known refl refl refl in
      let piece_is : piece_at t r ≡ k ∷ a ∷ f ∷ [] = kind.shape t i (r % slots) ∙ rw e in
      let tests = both (eqb i 0) (has (cell_set t.table k a) f) e in
      let first = eqb-true i 0 tests.0 in
      let less = cell_inside t formed k a f kind tests.1 in
      let actions = agrees.sizes.actions in
      let facts = agrees.sizes.facts in
      let run = within_run i k (r % slots) (omega (arith, order)) (omega (arith, order)) (omega arith) whole (omega (arith, formed.many_low)) in
      let fit : Fits seen.task k a f = cell_fits kind (omega arith) (omega arith) (omega arith) (need_seen k a f (omega arith) (omega arith) (omega arith) tests.1) in
      let tells = fitted seen.task k a f stands.formed fit in
      let place = tells.cell_slot kind.low kind.high in
      let here = tells.same_run (omega (arith, order)) in
      long k a f piece_is (record { fit = fit; place = omega arith; bytes = cell_bytes kind a f ∙ sym piece_is })

  -- As many steps of this rank's run have been seen as the task has below this rank.
  steps_seen : (i j : ℕ) → r ≡ rank i step_kind j → j < count_of t.runs i → count_of seen.task.runs i ≡ j
  steps_seen i j e l =
      let most = formed.count_high i in
      let n = count_of seen.task.runs i in
      by_order j n
      (λ more.
      let none = stands.above r later in
      let longer = ap length (sym (some_step seen.task i j more) ∙ sym (step_shape seen.task r i j e (omega arith)) ∙ none) in
      absurd (omega arith))
      (λ most-seen.
      by_order n j
      (λ fewer.
      let longer =
      ap length (sym (no_step seen.task i n (omega arith)) ∙ sym (step_shape seen.task (rank i step_kind n) i n refl (omega arith))
      ∙ agrees.pieces (rank i step_kind n) (omega arith)
      ∙ step_shape t (rank i step_kind n) i n refl (omega arith) ∙ some_step t i n (omega arith)) in absurd (omega arith))
      (λ all. omega arith))

  look_step : kind_at_rank r ≡ step_kind → (b : Bool) → ltb (r % slots) (count_of t.runs (run_at_rank r)) ≡ b → Look t seen r
  unfolding is_kind
  look_step is false e =
      absent (step_here t r is ∙ no_step t (run_at_rank r) (r % slots) (ltb-false (r % slots) (count_of t.runs (run_at_rank r)) e))
  look_step is true e =
      let i = run_at_rank r in
      let j = r % slots in
      let x = step_of t.runs i j in
      let whole = rank_whole r i step_kind j (rw is) refl is refl in
      let l = ltb-true j (count_of t.runs i) e in
      let piece_is : piece_at t r ≡ step_kind ∷ x ∷ [] = step_here t r is ∙ some_step t i j l in
      let less = formed.steps_below i j l in
      let most = formed.count_high i in
      let actions = agrees.sizes.actions in
      let count = steps_seen i j whole l in
      let run = within_run i step_kind j (omega (arith, order)) order.end (omega arith) whole (step_inside t formed i j l) in
      let same = ap (count_of seen.task.runs) run in
      let fit : (y : ℕ) → Fits seen.task step_kind x y = λ y. step_fits refl (omega arith) (omega arith) in
      short step_kind x piece_is (λ y.
      let tells = fitted seen.task step_kind x y stands.formed (fit y) in
      let place = tells.step_slot refl in
      let here = tells.same_run (omega (arith, order)) in
      record { fit = fit y; place = omega arith; bytes = step_bytes x y ∙ sym piece_is })

  look_run : kind_at_rank r ≡ run_kind → (b : Bool) → (ltb 0 (run_at_rank r) && ltb (run_at_rank r) t.runs.many && eqb (r % slots) 0) ≡ b → Look t seen r
  unfolding is_kind run_piece
  look_run is false e = absent (run_here t r is ∙ rw e)
  look_run is true e =
      let i = run_at_rank r in
      let tests = both (ltb 0 i && ltb i t.runs.many) (eqb (r % slots) 0) e in
      let firsts = both (ltb 0 i) (ltb i t.runs.many) tests.0 in
      let low = ltb-true 0 i firsts.0 in
      let used = ltb-true i t.runs.many firsts.1 in
      let whole = rank_whole r i run_kind 0 (rw is) refl is (eqb-true (r % slots) 0 tests.1) in
      let piece_is : piece_at t r ≡ run_kind ∷ [] = run_here t r is ∙ rw e in
      let most = formed.many_high in
      let before = run_seen (i - 1) (omega arith) (λ _. omega arith) in
      let not_yet = run_unseen i low (omega arith) in
      let fit : (x y : ℕ) → Fits seen.task run_kind x y = λ x y. opens_run refl (omega arith) in
      bare run_kind piece_is (λ x y.
      let tells = fitted seen.task run_kind x y stands.formed (fit x y) in
      let opened = tells.opened refl in
      let place = tells.run_slot refl in
      record { fit = fit x y; place = omega arith; bytes = run_bytes x y ∙ sym piece_is })

  pub look : Look t seen r
  look = by (family (kind_at_rank r))
    where
      by : Family (kind_at_rank r) → Look t seen r
      by (of_none out nothing) = absent (nothing t (run_at_rank r) (r % slots))
      by (of_sizes is) = let low = stands.low in absent (sizes_once t r is (λ e. omega arith))
      by (of_run is) = look_run is (ltb 0 (run_at_rank r) && ltb (run_at_rank r) t.runs.many && eqb (r % slots) 0) refl
      by (of_fact kind) = look_fact kind (has (fact_set t.runs (kind_at_rank r) (run_at_rank r)) (r % slots)) refl
      by (of_cell kind) =
          look_cell kind (eqb (run_at_rank r) 0 && has (cell_set t.table (kind_at_rank r) (r % slots / byte_room)) (r % slots % byte_room)) refl
      by (of_step is) = look_step is (ltb (r % slots) (count_of t.runs (run_at_rank r))) refl
