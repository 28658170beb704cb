-- Laws of the split: where a text ends, and that the next begins behind it. Assumes nothing.
use mathlib.Core.Bool.{Bool, true, false, ◌&&◌}
use mathlib.Core.List.{List, [], ◌∷◌}
use mathlib.Core.Path.{◌≡◌, refl, sym, ◌∙◌, subst}
use Prim.Native.Nat.{ℕ, ◌+◌, ◌-◌, ◌<◌, ◌≤◌}
use native.Mathlib.Omega.{arith}
use borrow.Author.Tests.{eqb-true, eqb-false, eq-eqb, ne_eqb}
use lib.Dec.{eqb}
use lib.ListN.{length, get_or, take, drop, length-drop, get_or-eq_default}
use lib.Seq.{take_all}
use Rattle.std.specs.List.{starts_with}
use Rattle.std.specs.Prelude.{Option, Some, None, MatchOption}
use Rattle.std.proofs.lemmas.List.{get_or-drop}
use Rattle.table.proofs.CountingLaws.{first_where_found, first_where_none}
use Rattle.table.proofs.FlagLaws.{and_right, is_false, by_order}
use Rattle.frompddl.specs.Splitting.{closing, text_end, is_text, TextsEnd, here, further}

-- a byte that is not 0 stands in the input
there : (s : List ℕ) (at b : ℕ) → 0 < b → eqb (get_or s at 0) b ≡ true → at < length s
there s at b some h =
    let e = eqb-true (get_or s at 0) b h in
    by_order at (length s) (λ l. l) (λ l. absurd (omega (arith, get_or-eq_default s 0 l)))

pub text_there : (s : List ℕ) (at : ℕ) → is_text s at ≡ true → at < length s
unfolding is_text
text_there s at = there s at 40 (omega arith)

pub no_text : (s : List ℕ) (at : ℕ) → length s ≤ at → is_text s at ≡ false
no_text s at h = is_false (is_text s at) (λ e. omega (arith, text_there s at e))

-- ---- a closing line

pub closing_there : (s : List ℕ) (at : ℕ) → closing s at ≡ true → at + 3 ≤ length s
unfolding closing
closing_there s at h =
    omega (arith, there s (at + 2) 10 (omega arith) (and_right (eqb (get_or s at 0) 10 && eqb (get_or s (at + 1) 0) 41) (eqb (get_or s (at + 2) 0) 10) h))

pub no_closing : (s : List ℕ) (at : ℕ) → length s < at + 3 → closing s at ≡ false
no_closing s at h = is_false (closing s at) (λ e. omega (arith, closing_there s at e))

-- so it begins what is left of the input
swap : (x y : ℕ) → eqb x y ≡ eqb y x
swap x y = pick (eqb x y) refl
  where
    pick : (b : Bool) → eqb x y ≡ b → eqb x y ≡ eqb y x
    pick true h = h ∙ sym (eq-eqb y x (sym (eqb-true x y h)))
    pick false h = h ∙ sym (ne_eqb y x (λ e. eqb-false x y h (sym e)))

both : (x y z : Bool) → (x && (y && (z && true))) ≡ (x && y && z)
both true true true = refl
both true true false = refl
both true false z = refl
both false y z = refl

neither : (x y : Bool) → (x && (y && false)) ≡ (x && y && false)
neither true true = refl
neither true false = refl
neither false y = refl

begins : (xs : List ℕ) → starts_with eqb xs (10 ∷ 41 ∷ 10 ∷ []) ≡ (eqb 10 (get_or xs 0 0) && eqb 41 (get_or xs 1 0) && eqb 10 (get_or xs 2 0))
begins [] = refl
begins (a ∷ []) = neither (eqb 10 a) false
begins (a ∷ b ∷ []) = neither (eqb 10 a) (eqb 41 b)
begins (a ∷ b ∷ c ∷ xs) = both (eqb 10 a) (eqb 41 b) (eqb 10 c)

pub all_behind : (s : List ℕ) (at : ℕ) → take (length s - at) (drop at s) ≡ drop at s
all_behind s at = take_all (length s - at) (drop at s) (omega (arith, length-drop at s))

pub closing_begins : (s : List ℕ) (at : ℕ) → starts_with eqb (take (length s - at) (drop at s)) (10 ∷ 41 ∷ 10 ∷ []) ≡ closing s at
unfolding closing
closing_begins s at =
    let here : at + 0 ≡ at = omega arith in
    rw (
      all_behind s at,
      begins (drop at s),
      get_or-drop at s 0 0,
      get_or-drop at s 1 0,
      get_or-drop at s 2 0,
      swap 10 (get_or s (at + 0) 0),
      swap 41 (get_or s (at + 1) 0),
      swap 10 (get_or s (at + 2) 0),
      here,
    )
    refl

-- ---- the first of them

module _ (s : List ℕ) (from : ℕ) where
  abbrev closes_from : ℕ → Bool
  closes_from i = closing s (from + i)

  -- as it is searched for
  pub text_end_searched : (r : Option ℕ)
      → MatchOption r ((k : ℕ) → from ≤ k → k < length s → closing s k ≡ false)
      (λ i. (from ≤ i) × (i < length s) × (closing s i ≡ true) × ((k : ℕ) → from ≤ k → k < i → closing s k ≡ false))
      → MatchOption r (length s ≡ text_end s from) (λ i. (i + 3 ≤ length s) × (i + 3 ≡ text_end s from))
  unfolding text_end
  text_end_searched None none =
      let no = first_where_none closes_from (length s - from) (λ i l. none (from + i) (omega arith) (omega arith)) in
      omega (arith, no)
  text_end_searched (Some at) h =
      let k = at - from in
      let is : at ≡ from + k = omega (arith, h.0) in
      let in-text = closing_there s at h.2 in
      let found = first_where_found closes_from (length s - from) k (omega (arith, h.0, h.1)) (subst (λ (q : ℕ). closing s q ≡ true) is h.2)
      (λ i l. h.3 (from + i) (omega arith) (omega arith)) in
      (in-text, omega (arith, found, in-text))

  -- ---- a text ends in the input, and behind its beginning

  pub end_inside : text_end s from ≤ length s
  unfolding text_end
  end_inside = omega arith

  pub end_further : from < length s → from < text_end s from
  unfolding text_end
  end_further h = omega arith

-- ---- so the task file begins in the input

pub behind_inside : {s : List ℕ} {end at : ℕ} → TextsEnd s end at → at ≤ length s → end ≤ length s
behind_inside (here h e) l = omega arith
behind_inside {s} (further {at} h rest) l = behind_inside rest (end_inside s at)
