-- Laws of `each`: it gathers a piece for each number of the list, and how long it can be. Assumes nothing.
use mathlib.Core.List.{List, [], ◌∷◌, ◌++◌}
use mathlib.Core.Path.{◌≡◌, refl, ap, ◌∙◌}
use Prim.Native.Nat.{ℕ, ◌*◌, ◌≤◌}
use lib.ListN.{length, get_or}
use Rattle.table.specs.Lists.{gather}
use Rattle.table.proofs.GatherLaws.{gather_most}
use Rattle.room.proofs.Gathering.{gather_first}
use Rattle.text.specs.Text.{each}

module _ (p : ℕ → List ℕ) where
  pub each_gathered : (xs : List ℕ) → gather (λ i. p (get_or xs i 0)) (length xs) ≡ each p xs
  unfolding gather each
  each_gathered [] = refl
  each_gathered (x ∷ xs) =
      gather_first (λ i. p (get_or (x ∷ xs) i 0)) (length xs) ∙ ap (λ (l : List ℕ). p x ++ l) (each_gathered xs)

  pub each_most : (k : ℕ) → ((x : ℕ) → length (p x) ≤ k) → (xs : List ℕ) → length (each p xs) ≤ k * length xs
  each_most k h xs =
      rw (each_gathered xs) at (gather_most (λ i. p (get_or xs i 0)) k (length xs) (λ i. h (get_or xs i 0)))
