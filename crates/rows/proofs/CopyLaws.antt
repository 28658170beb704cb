-- Laws of a list with part of another one copied into it: what stands where.
-- Assumes nothing.
use mathlib.Core.List.{List, ◌++◌}
use mathlib.Core.Path.{◌≡◌, sym, ap, ◌∙◌}
use Prim.Native.Nat.{ℕ, ◌+◌, ◌-◌, ◌<◌, ◌≤◌}
use native.Mathlib.Omega.{arith}
use lib.ListN.{length, get_or, take, drop, get_or-append}
use lib.Seq.{length-paste, length_paste_head, drop-paste, get_or-take, get_or-drop, length-take-le, get_or-append-add}
use Rattle.rows.specs.Copies.{pasted}

module _ (s : List ℕ) (at : ℕ) (l : List ℕ) where
  module _ (n : ℕ) (fits : at + n ≤ length s) (enough : n ≤ length l) where
    pub pasted_length : length (pasted s at l n) ≡ length s
    unfolding pasted
    pasted_length = length-paste s at l n fits enough

    pub pasted_before : (i : ℕ) → i < at → get_or (pasted s at l n) i 0 ≡ get_or s i 0
    unfolding pasted
    pasted_before i h =
        let short : i < length (take at s) = omega (arith, length-take-le at s (omega arith)) in
        let shorter : i < length (take at s ++ take n l) = omega (arith, length_paste_head s at l n (omega arith) enough) in
        get_or-append (take at s ++ take n l) (drop (at + n) s) 0 i shorter ∙ get_or-append (take at s) (take n l) 0 i short ∙
        get_or-take at s i 0 h

    pub pasted_after : (i : ℕ) → at + n ≤ i → get_or (pasted s at l n) i 0 ≡ get_or s i 0
    unfolding pasted
    pasted_after i h =
        let e : at + n + (i - (at + n)) ≡ i = omega arith in
        ap (λ (j : ℕ). get_or (pasted s at l n) j 0) (sym e) ∙
        sym (get_or-drop (at + n) (pasted s at l n) (i - (at + n)) 0) ∙
        ap (λ (x : List ℕ). get_or x (i - (at + n)) 0) (drop-paste s at l n (omega arith) enough) ∙
        get_or-drop (at + n) s (i - (at + n)) 0 ∙ ap (λ (j : ℕ). get_or s j 0) e

    pub pasted_at : (i : ℕ) → i < n → get_or (pasted s at l n) (at + i) 0 ≡ get_or l i 0
    unfolding pasted
    pasted_at i h =
        let head = length_paste_head s at l n (omega arith) enough in
        let short : at + i < length (take at s ++ take n l) = omega arith in
        let e : length (take at s) ≡ at = length-take-le at s (omega arith) in
        get_or-append (take at s ++ take n l) (drop (at + n) s) 0 (at + i) short ∙
        ap (λ (j : ℕ). get_or (take at s ++ take n l) (j + i) 0) (sym e) ∙ get_or-append-add (take at s) (take n l) i 0 ∙
        get_or-take n l i 0 h
