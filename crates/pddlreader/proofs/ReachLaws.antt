-- How far a text goes with a word, as the code compares them: up to the first place where two bytes differ, or to where one of both ends.
-- Assumes nothing.
use mathlib.Core.Bool.{Bool, true, false, cond, not}
use mathlib.Core.List.{List, [], ◌∷◌}
use mathlib.Core.Logic.{◌⊎◌, inl, inr}
use mathlib.Core.Path.{◌≡◌, refl, sym, ◌∙◌}
use Prim.Native.Nat.{ℕ, suc, ◌+◌, ◌-◌, ◌≤◌, ◌<◌, min}
use native.Mathlib.Omega.{arith}
use denote.Ref.{Bor}
use borrow.Author.Tests.{ltb-false}
use lib.Dec.{eqb, ltb}
use lib.ListN.{length, drop, length-drop}
use Rattle.std.specs.Prelude.{Option, Some, None}
use Rattle.std.specs.Option.{unwrap_or, MatchOption}
use Rattle.std.specs.List.{zip, position_or_len, slice_range}
use Rattle.std.proofs.lemmas.List.{drop_all, take_all}
use Rattle.std.proofs.lemmas.Slice.Zip.{length-zip}
use Rattle.layout.specs.Beginnings.{alike}
use Rattle.layout.specs.Walking.{reach}
use Rattle.layout.proofs.AlikeLaws.{alike_left, alike_right}

-- No more than the text has from there on.
pub reach_fits : (s : List ℕ) (at : ℕ) (w : List ℕ) → reach s at w ≤ length s - at
reach_fits s at w = omega (arith, alike_left (drop at s) w, length-drop at s)

-- What is left of the text from a place on, also where the place is past its end.
pub left_of : (s : List ℕ) (at : ℕ) (got : Option (Bor (List ℕ))) (none left : Bor (List ℕ)) → none.now ≡ [] → left ≡ unwrap_or got none
    → MatchOption got ((length s < at) ⊎ (length s < length s)) (λ x. (at ≤ length s) × (length s ≤ length s) × (x.now ≡ slice_range s at (length s)) × (length x.now + at ≡ length s))
    → left.now ≡ drop at s
left_of s at None none left empty e (inl h) = rw e (empty ∙ sym (drop_all at s (omega arith)))
left_of s at None none left empty e (inr h) = absurd (omega arith)
left_of s at (Some x) none left empty e h = rw e (h.2 ∙ take_all (length s - at) (drop at s) (omega (arith, length-drop at s)))

-- Two bytes that differ.
abbrev pub differ : ℕ × ℕ → Bool
differ p = not (eqb p.0 p.1)

differ_first : (u w : List ℕ) → position_or_len differ (zip u w) ≡ alike u w
unfolding alike
differ_first [] w = refl
differ_first (x ∷ u) [] = refl
differ_first (x ∷ u) (y ∷ w) = pick (eqb x y) (differ_first u w)
  where
    pick : (b : Bool) → position_or_len differ (zip u w) ≡ alike u w
        → cond (not (not b)) (1 + position_or_len differ (zip u w)) 0 ≡ cond b (suc (alike u w)) 0
    pick true e = omega (arith, e)
    pick false e = refl

-- The first place where they differ, or else the length of the shorter.
pub stands_up_to : (u w : List ℕ) (r : Option ℕ)
    → r ≡ cond (ltb (position_or_len differ (zip u w)) (length (zip u w))) (Some (position_or_len differ (zip u w))) None
    → unwrap_or r (min (length u) (length w)) ≡ alike u w
stands_up_to u w r e = rw e (pick (ltb (position_or_len differ (zip u w)) (length (zip u w))) refl)
  where
    pick : (b : Bool) → ltb (position_or_len differ (zip u w)) (length (zip u w)) ≡ b
        → unwrap_or (cond b (Some (position_or_len differ (zip u w))) None) (min (length u) (length w)) ≡ alike u w
    pick true h = differ_first u w
    pick false h =
        omega (arith, ltb-false _ _ h, differ_first u w, length-zip u w, alike_left u w, alike_right u w)
