-- The records of a task with one record more: those it had, and the new one at its rank. Assumes nothing.
use mathlib.Core.Bool.{Bool, true, cond, ◌&&◌}
use mathlib.Core.List.{[], ◌∷◌}
use mathlib.Core.Path.{◌≡◌, refl, sym, ap, ◌∙◌}
use Prim.Native.Nat.{ℕ, ◌%◌, ◌<◌, ◌≤◌}
use native.Mathlib.Omega.{arith}
use lib.Dec.{eqb, ltb}
use borrow.Author.Tests.{eqb-true, eq-eqb, ne_eqb, lt-ltb}
use Rattle.table.proofs.FlagLaws.{both, and_both, by_order}
use Rattle.table.specs.Sizes.{max_steps}
use Rattle.table.specs.Tasks.{count_of, step_of, WellFormed}
use Rattle.table.specs.declared.Task.{Task}
use Rattle.taskformat.specs.Format.{sizes_kind, run_kind, step_kind, end_kind, is_fact_kind, is_cell_kind, position_of}
use Rattle.taskformat.specs.Reading.{last_run, table_after}
use Rattle.taskformat.proofs.Ranks.{slots, sizes_piece, run_piece, step_piece, slot_piece, run_at_rank, kind_at_rank, no_step}
use Rattle.taskformat.proofs.Families.{Family, of_none, of_sizes, of_run, of_fact, of_cell, of_step, family}
use Rattle.taskformat.proofs.PositionLaws.{order, apart}
use Rattle.taskformat.proofs.Fitting.{Fitted, fitted_known, rank_there, is_rank, record_rank, record_bytes, run_bytes, step_bytes}
use Rattle.taskformat.proofs.Grown.{grown_piece, more_below, or_opened}
use Rattle.taskformat.proofs.RunsAfter.{same_sizes, many_after, counts_after, steps_after, runs_formed}
use Rattle.taskformat.proofs.OneMore.{task_after}
use Rattle.taskformat.proofs.SetsAfter.{After, fact_after, cell_after}

module _ (t : Task) (k x y z : ℕ) (formed : WellFormed t) (fitted : Fitted t k x y) where
  abbrev new : ℕ
  new = record_rank t k x y

  abbrev last : ℕ
  last = last_run t.runs

  step_after : (r : ℕ) → kind_at_rank r ≡ step_kind → r % slots < max_steps → After t k x y z formed fitted r
  unfolding task_after slot_piece step_piece is_fact_kind is_cell_kind
  step_after r is small =
      rw (is, step_piece, counts_after t k x y formed fitted i, more_below (eqb k step_kind && eqb i last) j count, steps_after t k x y formed fitted i j small)
      (grown_piece (ltb j count) now (step_kind ∷ cond now x (step_of t.runs i j) ∷ [])
      (record_bytes k x y) (step_piece t i j) r new here back (λ e. rw e))
    where
      i : ℕ
      i = run_at_rank r

      j : ℕ
      j = r % slots

      count : ℕ
      count = count_of t.runs i

      now : Bool
      now = eqb k step_kind && eqb i last && eqb j count

      here : now ≡ true → (step_kind ∷ cond now x (step_of t.runs i j) ∷ [] ≡ record_bytes k x y) × (r ≡ new)
      here e =
          let tests = both (eqb k step_kind && eqb i last) (eqb j count) e in
          let firsts = both (eqb k step_kind) (eqb i last) tests.0 in
          let same = eqb-true k step_kind firsts.0 in
          let run = eqb-true i last firsts.1 in
          let steps = ap (count_of t.runs) run in
          let place = eqb-true j count tests.1 in
          let position = ap position_of same in
          let slot = fitted.step_slot position in
          let within = fitted.same_run (omega (arith, order)) in
          (rw (e, same, step_bytes x y), is_rank fitted r (same ∙ sym is) (omega arith) (omega arith))

      back : r ≡ new → now ≡ true
      back e =
          let d = rank_there fitted r e in
          let same = sym d.kind ∙ is in
          let position = ap position_of same in
          let slot = fitted.step_slot position in
          let within = fitted.same_run (omega (arith, order)) in
          let run : i ≡ last = omega (arith, d.run) in
          let steps = ap (count_of t.runs) run in
          and_both _ _ (and_both _ _ (eq-eqb k step_kind same) (eq-eqb i last run)) (eq-eqb j count (omega (arith, d.place)))

  -- From place 64 on no run has a step.
  no_step_after : (r : ℕ) → kind_at_rank r ≡ step_kind → max_steps ≤ r % slots → After t k x y z formed fitted r
  unfolding task_after slot_piece is_fact_kind is_cell_kind
  no_step_after r is past =
      let most = formed.count_high (run_at_rank r) in
      let also = (runs_formed t k x y formed fitted).count_high (run_at_rank r) in
      rw (is, ne_eqb r new other)
      (no_step (task_after t k x y z) (run_at_rank r) (r % slots) (omega arith) ∙ sym (no_step t (run_at_rank r) (r % slots) (omega arith)))
    where
      other : r ≡ new → ⊥
      other e =
          let d = rank_there fitted r e in
          let position = ap position_of (sym d.kind ∙ is) in
          let slot = fitted.step_slot position in
          let room = fitted.room position in
          let place = d.place in omega arith

  run_after : (r : ℕ) → kind_at_rank r ≡ run_kind → After t k x y z formed fitted r
  unfolding task_after slot_piece run_piece
  run_after r is =
      rw (
        is,
        many_after t k x y formed fitted,
        more_below (eqb k run_kind) i t.runs.many,
        or_opened (ltb 0 i) (ltb i t.runs.many) (eqb k run_kind && eqb i t.runs.many) (eqb j 0) further,
      )
      (grown_piece (ltb 0 i && ltb i t.runs.many && eqb j 0) (eqb k run_kind && eqb i t.runs.many && eqb j 0) (run_kind ∷ [])
      (record_bytes k x y) (run_piece t i j) r new here back (λ _. refl))
    where
      i : ℕ
      i = run_at_rank r

      j : ℕ
      j = r % slots

      further : (eqb k run_kind && eqb i t.runs.many) ≡ true → ltb 0 i ≡ true
      further e =
          let run = eqb-true i t.runs.many (both (eqb k run_kind) (eqb i t.runs.many) e).1 in
          lt-ltb 0 i (omega (arith, formed.many_low))

      here : (eqb k run_kind && eqb i t.runs.many && eqb j 0) ≡ true → (run_kind ∷ [] ≡ record_bytes k x y) × (r ≡ new)
      here e =
          let tests = both (eqb k run_kind && eqb i t.runs.many) (eqb j 0) e in
          let firsts = both (eqb k run_kind) (eqb i t.runs.many) tests.0 in
          let same = eqb-true k run_kind firsts.0 in
          let run = eqb-true i t.runs.many firsts.1 in
          let place = eqb-true j 0 tests.1 in
          let position = ap position_of same in
          let opened = fitted.opened position in
          let slot = fitted.run_slot position in
          (rw (same, run_bytes x y), is_rank fitted r (same ∙ sym is) (omega arith) (omega arith))

      back : r ≡ new → (eqb k run_kind && eqb i t.runs.many && eqb j 0) ≡ true
      back e =
          let d = rank_there fitted r e in
          let same = sym d.kind ∙ is in
          let position = ap position_of same in
          let opened = fitted.opened position in
          let slot = fitted.run_slot position in
          and_both _ _ (and_both _ _ (eq-eqb k run_kind same) (eq-eqb i t.runs.many (omega (arith, d.run)))) (eq-eqb j 0 (omega (arith, d.place)))

  sizes_after : (r : ℕ) → kind_at_rank r ≡ sizes_kind → After t k x y z formed fitted r
  unfolding task_after table_after slot_piece sizes_piece
  sizes_after r is =
      rw (is, same_sizes t k x y formed fitted, ne_eqb r new (λ e. apart sizes_kind k fitted.later (sym (rank_there fitted r e).kind ∙ is)))

  pub piece_after : (r : ℕ) → After t k x y z formed fitted r
  piece_after r = at (family (kind_at_rank r))
    where
      at : Family (kind_at_rank r) → After t k x y z formed fitted r
      at (of_none out nothing) =
          let other : r ≡ new → ⊥ =
          λ e.
          let same = sym (rank_there fitted r e).kind in
          apart k end_kind fitted.last (sym (same ∙ out (rw same at (fitted_known fitted)))) in
          nothing (task_after t k x y z) (run_at_rank r) (r % slots) ∙ sym (rw (ne_eqb r new other) (nothing t (run_at_rank r) (r % slots)))
      at (of_sizes is) = sizes_after r is
      at (of_run is) = run_after r is
      at (of_fact kind) = fact_after t k x y z formed fitted r kind
      at (of_cell kind) = cell_after t k x y z formed fitted r kind
      at (of_step is) = by_order (r % slots) max_steps (step_after r is) (no_step_after r is)
