-- The invariant of every loop that writes: the first i of n pieces have been placed, and the place past all of them can be
-- counted. Assumes nothing.
use mathlib.Core.List.{List, [], ◌∷◌, ◌++◌, append_assoc, append-nil}
use mathlib.Core.Path.{◌≡◌, refl, sym, ap, ◌∙◌}
use Prim.Native.Nat.{ℕ, zero, suc, ◌+◌, ◌≤◌, ◌<◌}
use native.Mathlib.Omega.{arith}
use lib.ListN.{length, get_or}
use Rattle.table.specs.Lists.{gather}
use Rattle.table.proofs.GatherLaws.{gather_zero, gather_step, gather_part, gather_step_length}
use Rattle.room.specs.Placing.{last_place, Placed}
use Rattle.room.proofs.PlacingLaws.{placed_none, placed_more, placed_length}

pub record Gathering (p : ℕ → List ℕ) (n : ℕ) (before room : List ℕ) (at next i : ℕ) : Type 0 where
  pub inside : i ≤ n
  pub fits : at + length (gather p n) ≤ last_place
  pub so_far : Placed before room at next (gather p i)

pub begun : (p : ℕ → List ℕ) (n : ℕ) (room : List ℕ) (at : ℕ) → at + length (gather p n) ≤ last_place
    → Gathering p n room room at at 0
begun p n room at h = record { inside = omega arith; fits = h; so_far = rw (gather_zero p) (placed_none room at) }

module _ {p : ℕ → List ℕ} {n : ℕ} {before room : List ℕ} {at next i : ℕ} (g : Gathering p n before room at next i) where
  -- The place past the next piece can be counted.
  pub next_fits : i < n → next + length (p i) ≤ last_place
  next_fits h =
      omega (arith, g.fits, g.so_far.next_is, gather_step_length p i, gather_part p (i + 1) n (omega arith))

  pub one_more : {room' : List ℕ} {next' : ℕ} → i < n → Placed room room' next next' (p i)
      → Gathering p n before room' at next' (i + 1)
  one_more h q = record {
    inside = omega arith;
    fits = g.fits;
    so_far = rw (gather_step p i) (placed_more g.so_far q);
  }

  pub all_placed : n ≤ i → Placed before room at next (gather p n)
  all_placed h = let e : n ≡ i = omega (arith, g.inside) in rw e g.so_far

  pub length_kept : length room ≡ length before
  length_kept = placed_length g.so_far

-- The first piece, and then those after it.
pub gather_first : (p : ℕ → List ℕ) (n : ℕ) → gather p (suc n) ≡ p 0 ++ gather (λ i. p (suc i)) n
unfolding gather
gather_first p zero = sym (append-nil (p 0))
gather_first p (suc n) =
    ap (λ (l : List ℕ). l ++ p (suc n)) (gather_first p n) ∙ append_assoc (p 0) (gather (λ i. p (suc i)) n) (p (suc n))

-- A list is its own numbers, one after another.
pub gather_itself : (xs : List ℕ) → gather (λ i. get_or xs i 0 ∷ []) (length xs) ≡ xs
unfolding gather
gather_itself [] = refl
gather_itself (x ∷ xs) =
    gather_first (λ i. get_or (x ∷ xs) i 0 ∷ []) (length xs) ∙ ap (λ (l : List ℕ). x ∷ l) (gather_itself xs)
