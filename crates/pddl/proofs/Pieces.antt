-- Pieces from a number on, first one first: how the trees have the texts that `gather` puts together. Assumes nothing.
use mathlib.Core.List.{List, [], ◌++◌, append_assoc, append-nil}
use mathlib.Core.Path.{◌≡◌, sym, ap, ◌∙◌}
use Prim.Native.Nat.{ℕ, zero, suc, ◌+◌}
use native.Mathlib.Nat.{add-zero}
use native.Mathlib.Omega.{arith}
use Rattle.table.specs.Lists.{gather}
use Rattle.table.proofs.GatherLaws.{gather_next, gather_zero}

-- The pieces p f, p (f + 1), .. , n of them.
unfoldable pub from : (ℕ → List ℕ) → ℕ → ℕ → List ℕ
from p zero f = []
from p (suc n) f = p f ++ from p n (suc f)

-- The pieces below f, and then n from f on.
pub from_after : (p : ℕ → List ℕ) (n f : ℕ) → gather p f ++ from p n f ≡ gather p (f + n)
unfolding from
from_after p zero f = append-nil (gather p f) ∙ ap (gather p) (sym (add-zero f))
from_after p (suc n) f =
    let e : suc f + n ≡ f + suc n = omega arith in
    sym (append_assoc (gather p f) (p f) (from p n (suc f))) ∙
    ap (λ (l : List ℕ). l ++ from p n (suc f)) (sym (gather_next p f)) ∙ from_after p n (suc f) ∙ ap (gather p) e

-- All of them, from the first on.
pub from_first : (p : ℕ → List ℕ) (n : ℕ) → from p n 0 ≡ gather p n
from_first p n =
    let e : 0 + n ≡ n = omega arith in
    ap (λ (l : List ℕ). l ++ from p n 0) (sym (gather_zero p)) ∙ from_after p n 0 ∙ ap (gather p) e
