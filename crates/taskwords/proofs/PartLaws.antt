-- A part of the words, as it stands there and with each word read as a step.
use mathlib.Core.List.{List, map}
use mathlib.Core.Bool.{true}
use mathlib.Core.Path.{◌≡◌, ◌∙◌, sym, ap, subst}
use Prim.Native.Nat.{ℕ, ◌+◌, ◌-◌, ◌^◌, ◌≤◌, ◌<◌}
use native.Mathlib.Omega.{arith}
use lib.ListN.{length, get_or, take, drop, length-take, length-drop, length-map, get_or-map}
use lib.Seq.{get_or-take, get_or-drop, take_all}
use borrow.Author.Tests.{ltb-true}
use Rattle.facts.specs.Sets.{joined, within}
use Rattle.facts.proofs.Laws.{within_joined}
use Rattle.table.proofs.FlagLaws.{both, by_order}
use Rattle.taskwords.specs.Words.{Zeros, step_in}

module _ (ws : List ℕ) (at n : ℕ) (h : at + n ≤ length ws) where
  pub part_length : length (take n (drop at ws)) ≡ n
  part_length = simp (length-take, length-drop) (omega arith)

  pub part_at : (k : ℕ) → k < n → get_or (take n (drop at ws)) k 0 ≡ get_or ws (at + k) 0
  part_at k below = rw (get_or-take, get_or-drop)

  pub steps_length : length (map step_in (take n (drop at ws))) ≡ n
  steps_length = length-map (take n (drop at ws)) step_in ∙ part_length

  pub steps_at_lem : (k : ℕ) → k < n → get_or (map step_in (take n (drop at ws))) k 0 ≡ step_in (get_or ws (at + k) 0)
  unfolding step_in
  steps_at_lem k below = get_or-map step_in (take n (drop at ws)) k 0 ∙ ap step_in (part_at k below)

-- ---- words that are all zero: joined, they have nothing

within_none : (m : ℕ) → within m 0 ≡ true → m ≡ 0
unfolding within
within_none m e = omega (arith, ltb-true m (2 ^ 0) e)

module _ (ws : List ℕ) (from : ℕ) where
  pub zeros_more : (i every next : ℕ) → next ≡ joined every (get_or ws i 0) → (within every 0 ≡ true → Zeros ws from i)
      → within next 0 ≡ true → Zeros ws from (i + 1)
  zeros_more i every next e so_far h =
      let two = both (within every 0) (within (get_or ws i 0) 0) (sym (within_joined every (get_or ws i 0) 0) ∙ ap (λ (m : ℕ). within m 0) (sym e) ∙ h) in
      λ k low l. by_order k i (so_far two.0 k low) (λ past.
      let same : i ≡ k = omega arith in
      subst (λ (j : ℕ). get_or ws j 0 ≡ 0) same (within_none (get_or ws i 0) two.1))

-- Of the words from a place on, as they are lent.
pub zeros_from : (ws : List ℕ) (at : ℕ) → Zeros (take (length ws - at) (drop at ws)) 0 (length (take (length ws - at) (drop at ws)))
    → Zeros ws at (length ws)
zeros_from ws at z i low l =
    let all : take (length ws - at) (drop at ws) ≡ drop at ws = take_all (length ws - at) (drop at ws) (omega (arith, length-drop at ws)) in
    let rest : Zeros (drop at ws) 0 (length (drop at ws)) = subst (λ (t : List ℕ). Zeros t 0 (length t)) all z in
    let same : at + (i - at) ≡ i = omega arith in
    subst (λ (k : ℕ). get_or ws k 0 ≡ 0) same (sym (get_or-drop at ws (i - at) 0) ∙ rest (i - at) (omega arith) (omega (arith, length-drop at ws)))
