-- Laws of the beginning that two texts share. Assumes nothing.
use mathlib.Core.Bool.{Bool, true, false, cond}
use mathlib.Core.List.{List, [], ◌∷◌, ◌++◌, append-nil}
use mathlib.Core.Path.{◌≡◌, refl, sym, ap, ◌∙◌}
use Prim.Native.Nat.{ℕ, suc, ◌+◌, ◌≤◌, ◌<◌}
use native.Mathlib.Omega.{arith}
use lib.Dec.{eqb}
use lib.ListN.{length, drop}
use borrow.Author.Tests.{eq-eqb, ne_eqb, eqb-true, eqb-false}
use Rattle.layout.specs.Beginnings.{alike}

-- Two texts share no more than the first has.
pub alike_left : (s t : List ℕ) → alike s t ≤ length s
unfolding alike
alike_left [] t = omega arith
alike_left (x ∷ s) [] = omega arith
alike_left (x ∷ s) (y ∷ t) = at (eqb x y) (alike_left s t)
  where
    at : (b : Bool) → alike s t ≤ length s → cond b (suc (alike s t)) 0 ≤ suc (length s)
    at true h = omega arith
    at false h = omega arith

-- Two bytes are equal whichever stands first.
eqb_sym : (x y : ℕ) → eqb x y ≡ eqb y x
eqb_sym x y = at (eqb x y) refl
  where
    at : (b : Bool) → eqb x y ≡ b → eqb x y ≡ eqb y x
    at true e = e ∙ sym (eq-eqb y x (sym (eqb-true x y e)))
    at false e = e ∙ sym (ne_eqb y x (λ same. eqb-false x y e (sym same)))

-- What two texts share is the same whichever stands first.
pub alike_sym : (s t : List ℕ) → alike s t ≡ alike t s
unfolding alike
alike_sym [] [] = refl
alike_sym [] (y ∷ t) = refl
alike_sym (x ∷ s) [] = refl
alike_sym (x ∷ s) (y ∷ t) = rw (eqb_sym x y, alike_sym s t)

-- Nor more than the second has.
pub alike_right : (s t : List ℕ) → alike s t ≤ length t
alike_right s t = let least = alike_left t s in let turned = alike_sym s t in omega arith

-- What two texts share that begin alike is that beginning, and what the rests share.
pub alike_prefix : (p x y : List ℕ) → alike (p ++ x) (p ++ y) ≡ length p + alike x y
unfolding alike
alike_prefix [] x y = omega arith
alike_prefix (a ∷ p) x y = let more = alike_prefix p x y in rw (eq-eqb a a refl) (omega arith)

-- A text shares with one that begins with it all of itself.
pub alike_begun : (w u : List ℕ) → alike w (w ++ u) ≡ length w
unfolding alike
alike_begun w u = let all = rw (append-nil w) at (alike_prefix w [] u) in omega arith

-- A text that leaves a word inside it leaves there whatever goes on after the word.
pub alike_short : (u w t : List ℕ) → alike u w < length w → alike u (w ++ t) ≡ alike u w
unfolding alike
alike_short [] w t h = refl
alike_short (x ∷ u) [] t h = absurd (omega arith)
alike_short (x ∷ u) (y ∷ w) t h = at (eqb x y) (alike_short u w t) h
  where
    at : (b : Bool) → (alike u w < length w → alike u (w ++ t) ≡ alike u w) → cond b (suc (alike u w)) 0 < suc (length w)
        → cond b (suc (alike u (w ++ t))) 0 ≡ cond b (suc (alike u w)) 0
    at true same k = ap suc (same (omega arith))
    at false same k = refl

-- The same for a text that goes on after the word.
pub short_alike : (w u t : List ℕ) → alike w t < length w → alike (w ++ u) t ≡ alike w t
short_alike w u t h =
    let turned = alike_sym w t in
    alike_sym (w ++ u) t ∙ alike_short t w u (omega arith) ∙ alike_sym t w

-- A text that shares a whole word begins with it.
pub alike_whole : (u w : List ℕ) → alike u w ≡ length w → u ≡ w ++ drop (length w) u
unfolding alike
alike_whole u [] h = refl
alike_whole [] (y ∷ w) h = absurd (omega arith)
alike_whole (x ∷ u) (y ∷ w) h = at (eqb x y) refl (alike_whole u w) h
  where
    at : (b : Bool) → eqb x y ≡ b → (alike u w ≡ length w → u ≡ w ++ drop (length w) u) → cond b (suc (alike u w)) 0 ≡ suc (length w)
        → x ∷ u ≡ y ∷ (w ++ drop (length w) u)
    at true e same k = let more = same (omega arith) in let first = eqb-true x y e in cc
    at false e same k = absurd (omega arith)
