-- The facts and cells of a task with one record more: those it had, and the new one at its rank. Assumes nothing.
use mathlib.Core.Bool.{true, cond, ◌&&◌}
use mathlib.Core.List.{[], ◌∷◌}
use mathlib.Core.Path.{◌≡◌, sym, ap, ◌∙◌}
use Prim.Native.Nat.{ℕ, ◌/◌, ◌%◌, ◌<◌, ◌≤◌}
use native.Mathlib.Omega.{arith}
use lib.Dec.{eqb}
use borrow.Author.Tests.{eqb-true, eq-eqb}
use Rattle.facts.specs.Sets.{width, has}
use Rattle.table.proofs.FlagLaws.{both, and_both}
use Rattle.table.specs.Tasks.{WellFormed}
use Rattle.table.specs.declared.Task.{Task}
use Rattle.taskformat.specs.Format.{need_kind, lock_kind, position_of}
use Rattle.taskformat.specs.Reading.{byte_room, last_run}
use Rattle.taskformat.proofs.Ranks.{slots, fact_set, cell_set, fact_piece, cell_piece, run_at_rank, kind_at_rank, piece_at}
use Rattle.taskformat.proofs.Families.{FactKind, CellKind}
use Rattle.taskformat.proofs.PositionLaws.{order}
use Rattle.taskformat.proofs.Fitting.{Fitted, rank_there, is_rank, record_rank, record_bytes, fact_bytes, cell_bytes}
use Rattle.taskformat.proofs.Grown.{has_grown, grown_piece, and_or}
use Rattle.taskformat.proofs.RunsAfter.{sets_after}
use Rattle.taskformat.proofs.OneMore.{task_after, has_after}

module _ (t : Task) (k x y z : ℕ) (formed : WellFormed t) (fitted : Fitted t k x y) where
  abbrev new : ℕ
  new = record_rank t k x y

  abbrev last : ℕ
  last = last_run t.runs

  -- At its rank the new record, elsewhere what was there.
  abbrev pub After : ℕ → Type 0
  After r = piece_at (task_after t k x y z) r ≡ cond (eqb r new) (record_bytes k x y) (piece_at t r)

  pub fact_after : (r : ℕ) → FactKind (kind_at_rank r) → After r
  unfolding task_after fact_piece
  fact_after r kind =
      kind.shape (task_after t k x y z) i f
      ∙ rw (sets_after t k x y formed fitted (kind_at_rank r) i kind, has_grown (eqb k (kind_at_rank r) && eqb i last) (fact_set t.runs (kind_at_rank r) i) x f small)
      (grown_piece (has (fact_set t.runs (kind_at_rank r) i) f) (eqb k (kind_at_rank r) && eqb i last && eqb f x) (kind_at_rank r ∷ f ∷ [])
      (record_bytes k x y) (piece_at t r) r new here back (λ _. sym (kind.shape t i f)))
    where
      i : ℕ
      i = run_at_rank r

      f : ℕ
      f = r % slots

      small : (eqb k (kind_at_rank r) && eqb i last) ≡ true → x < width
      small e =
          let same = ap position_of (eqb-true k (kind_at_rank r) (both (eqb k (kind_at_rank r)) (eqb i last) e).0) in
          let less = fitted.fact (omega arith) (omega arith) in
          let most = formed.facts_high in omega arith

      here : (eqb k (kind_at_rank r) && eqb i last && eqb f x) ≡ true → (kind_at_rank r ∷ f ∷ [] ≡ record_bytes k x y) × (r ≡ new)
      here e =
          let tests = both (eqb k (kind_at_rank r) && eqb i last) (eqb f x) e in
          let firsts = both (eqb k (kind_at_rank r)) (eqb i last) tests.0 in
          let same = eqb-true k (kind_at_rank r) firsts.0 in
          let position = ap position_of same in
          let run = eqb-true i last firsts.1 in
          let place = eqb-true f x tests.1 in
          let slot = fitted.fact_slot (omega arith) (omega arith) in
          let within = fitted.same_run (omega (arith, order)) in
          (rw (same, ← place, fact_bytes kind f y), is_rank fitted r same (omega arith) (omega arith))

      back : r ≡ new → (eqb k (kind_at_rank r) && eqb i last && eqb f x) ≡ true
      back e =
          let d = rank_there fitted r e in
          let same = sym d.kind in
          let position = ap position_of same in
          let slot = fitted.fact_slot (omega arith) (omega arith) in
          let within = fitted.same_run (omega (arith, order)) in
          and_both _ _ (and_both _ _ (eq-eqb k (kind_at_rank r) same) (eq-eqb i last (omega (arith, d.run)))) (eq-eqb f x (omega (arith, d.place)))

  pub cell_after : (r : ℕ) → CellKind (kind_at_rank r) → After r
  unfolding task_after cell_piece
  cell_after r kind =
      kind.shape (task_after t k x y z) i (r % slots)
      ∙ rw (
        has_after t k x y z formed fitted (kind_at_rank r) a f kind,
        and_or (eqb i 0) (has (cell_set t.table (kind_at_rank r) a) f) (eqb k (kind_at_rank r) && eqb a x && eqb f y),
      )
      (grown_piece (eqb i 0 && has (cell_set t.table (kind_at_rank r) a) f) (eqb i 0 && (eqb k (kind_at_rank r) && eqb a x && eqb f y))
      (kind_at_rank r ∷ a ∷ f ∷ []) (record_bytes k x y) (piece_at t r) r new here back (λ _. sym (kind.shape t i (r % slots))))
    where
      i : ℕ
      i = run_at_rank r

      a : ℕ
      a = r % slots / byte_room

      f : ℕ
      f = r % slots % byte_room

      here : (eqb i 0 && (eqb k (kind_at_rank r) && eqb a x && eqb f y)) ≡ true → (kind_at_rank r ∷ a ∷ f ∷ [] ≡ record_bytes k x y) × (r ≡ new)
      here e =
          let all = both (eqb i 0) (eqb k (kind_at_rank r) && eqb a x && eqb f y) e in
          let tests = both (eqb k (kind_at_rank r) && eqb a x) (eqb f y) all.1 in
          let firsts = both (eqb k (kind_at_rank r)) (eqb a x) tests.0 in
          let same = eqb-true k (kind_at_rank r) firsts.0 in
          let position = ap position_of same in
          let run = eqb-true i 0 all.0 in
          let action = eqb-true a x firsts.1 in
          let fact = eqb-true f y tests.1 in
          let low : position_of need_kind ≤ position_of k = omega arith in
          let high : position_of k ≤ position_of lock_kind = omega arith in
          let slot = fitted.cell_slot low high in
          let first = fitted.first low high in
          let within = fitted.same_run (omega (arith, order)) in
          (rw (same, ← action, ← fact, cell_bytes kind a f), is_rank fitted r same (omega arith) (omega arith))

      back : r ≡ new → (eqb i 0 && (eqb k (kind_at_rank r) && eqb a x && eqb f y)) ≡ true
      back e =
          let d = rank_there fitted r e in
          let same = sym d.kind in
          let position = ap position_of same in
          let low : position_of need_kind ≤ position_of k = omega arith in
          let high : position_of k ≤ position_of lock_kind = omega arith in
          let slot = fitted.cell_slot low high in
          let first = fitted.first low high in
          let within = fitted.same_run (omega (arith, order)) in
          let place = d.place in
          let less = fitted.cell low high in
          let most = formed.facts_high in
          and_both _ _ (eq-eqb i 0 (omega (arith, d.run)))
          (and_both _ _ (and_both _ _ (eq-eqb k (kind_at_rank r) same) (eq-eqb a x (omega arith))) (eq-eqb f y (omega arith)))
