-- Laws of the wrong facts that are left to be searched: they are facts of the task, and the lowest of them is taken out. Assumes nothing.
use mathlib.Core.Bool.{Bool, true, false, not, ◌&&◌, and-true, true≢false}
use mathlib.Core.Path.{◌≡◌, sym, ap, ◌∙◌}
use Prim.Native.Nat.{ℕ, ◌^◌, ◌<◌, ◌≤◌}
use native.Mathlib.Omega.{arith}
use lib.Dec.{eqb}
use borrow.Author.Tests.{not-true, eqb-false, ne_eqb}
use Rattle.facts.specs.Sets.{width, has, only, removed, lowest}
use Rattle.facts.proofs.Counting.{lowest_has}
use Rattle.facts.proofs.Laws.{has_without, has_within, within_lt}
use Rattle.table.specs.Repairs.{drop_need}
use Rattle.table.specs.Strips.{AllRight}
use Rattle.table.specs.Tasks.{cells_of, step_of, course_of, courses_of, WellFormed}
use Rattle.table.specs.declared.Task.{Task}
use Rattle.table.proofs.DecidingLaws.{all_right_is}
use Rattle.table.proofs.FlagLaws.{both, is_false, by_order}
use Rattle.rows.specs.Wrong.{WrongFacts}

module _ (t : Task) (well : WellFormed t) where
  -- A fact from F up is right, so a wrong one is below.
  outside_right : (f : ℕ) → t.table.facts ≤ f → AllRight (cells_of t.table) (courses_of t) f
  unfolding cells_of course_of
  outside_right f h i low = record {
    needed = λ j k n. absurd (true≢false (sym n ∙ well.inside drop_need (step_of t.runs i j) f h));
    wanted = λ g. absurd (true≢false (sym g ∙ well.goal_inside i f h));
  }

  pub wrong_low : (wrong : ℕ) → WrongFacts t wrong → (f : ℕ) → has wrong f ≡ true → f < t.table.facts
  wrong_low wrong e f h =
      by_order f t.table.facts (λ low. low) (λ high.
      let right = all_right_is (cells_of t.table) (courses_of t) f (outside_right f high) in
      absurd (true≢false (sym h ∙ e f ∙ ap not right)))

  -- The lowest fact that is left, and the mask without it.
  module _ (m : ℕ) (some : 0 < m) (low : (g : ℕ) → has m g ≡ true → g < t.table.facts) (f : ℕ) (e : f ≡ lowest m) where
    small : m < 2 ^ width
    small = within_lt m width (has_within m width (λ g h. is_false (has m g) (λ k. omega (arith, low g k, well.facts_high))))

    pub lowest_in : has m f ≡ true
    lowest_in = ap (has m) e ∙ lowest_has m some small

    pub lowest_inside : f < t.table.facts
    lowest_inside = low f lowest_in

    wide : f < width
    wide = omega (arith, lowest_inside, well.facts_high)

    module _ (next : ℕ) (n : next ≡ removed m (only f)) where
      left_of : (g : ℕ) → has next g ≡ (has m g && not (eqb g f))
      left_of g = ap (λ (x : ℕ). has x g) n ∙ has_without m f g wide

      -- What is in it was in the mask, and is another fact; what is not in it was not, or is that fact.
      pub without_in : (g : ℕ) → has next g ≡ true → (has m g ≡ true) × (g ≡ f → ⊥)
      without_in g h =
          let q = both (has m g) (not (eqb g f)) (sym (left_of g) ∙ h) in
          (q.0, eqb-false g f (not-true (eqb g f) q.1))

      pub without_out : (g : ℕ) → has next g ≡ false → (g ≡ f → ⊥) → has m g ≡ false
      without_out g h ne =
          sym (and-true (has m g)) ∙ ap (λ (b : Bool). has m g && not b) (sym (ne_eqb g f ne)) ∙ sym (left_of g) ∙ h
