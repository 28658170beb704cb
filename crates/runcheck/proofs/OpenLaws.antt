-- What is open, in any states: when nothing is, and that a step may run exactly if it has nothing open. Assumes nothing.
use mathlib.Core.Bool.{Bool, true, false, not, ◌&&◌, ◌||◌, true≢false}
use mathlib.Core.Path.{◌≡◌, refl, sym, ap, ◌∙◌}
use Prim.Native.Nat.{ℕ, ◌+◌, ◌<◌, ◌≤◌}
use native.Mathlib.Nat.{le_refl}
use native.Mathlib.Omega.{arith}
use lib.Dec.{eqb}
use borrow.Author.Tests.{lt-ltb, le-ltb, eq-eqb, eqb-true, not-false}
use Rattle.table.specs.Counting.{every_below}
use Rattle.table.specs.Strips.{Cells, Course}
use Rattle.table.proofs.FlagLaws.{by_order, same_flag}
use Rattle.table.proofs.CountingLaws.{sum_below_zero, zero_sum_below, count_below_zero, zero_count_below, every_below_all, all_every_below}
use Rattle.runcheck.specs.OpenNeeds.{States, is_open, open_at, total_open, may_run}

-- ---- a need and a state, as flags

absent : (a b : Bool) → (a && not b) ≡ not (not a || b)
absent true b = refl
absent false b = refl

pub present : (a b : Bool) → (a && not b) ≡ false → a ≡ true → b ≡ true
present true true e h = refl
present true false e h = sym e
present false b e h = absurd (true≢false (sym h))

pub not_open : (a b : Bool) → (a ≡ true → b ≡ true) → (a && not b) ≡ false
not_open true b grows = rw (grows refl)
not_open false b grows = refl

-- ---- of a table, a run and any states

module _ (c : Cells) (r : Course) (states : States) where
  total_none : total_open c r states ≡ 0 → (i f : ℕ) → i ≤ r.count → f < c.facts → is_open c r states i f ≡ false
  unfolding total_open open_at
  total_none e i f h l =
      count_below_zero (is_open c r states i) c.facts (sum_below_zero (open_at c r states) (r.count + 1) e i (omega arith)) f l

  -- where no need and no goal is at F or above, no fact is open at all
  pub total_open_lem : ((a f : ℕ) → c.facts ≤ f → c.needs a f ≡ false) → ((f : ℕ) → c.facts ≤ f → r.goal f ≡ false)
      → total_open c r states ≡ 0 → (i f : ℕ) → i ≤ r.count → is_open c r states i f ≡ false
  unfolding is_open
  total_open_lem needs goal e i f h =
      by_order f c.facts (total_none e i f h) (λ l.
      by_order i r.count (λ k. rw (lt-ltb i r.count k, needs (r.step i) f l)) (λ k. rw (le-ltb i r.count k, goal f l)))

  pub open_total : ((i f : ℕ) → i ≤ r.count → is_open c r states i f ≡ false) → total_open c r states ≡ 0
  unfolding total_open open_at
  open_total none =
      zero_sum_below (open_at c r states) (r.count + 1) (λ i h. zero_count_below (is_open c r states i) c.facts (λ f l. none i f (omega arith)))

  -- what is open at a step, and at the end
  pub open_step : (i f : ℕ) → i < r.count → is_open c r states i f ≡ (c.needs (r.step i) f && not (states i f))
  unfolding is_open
  open_step i f h = rw (lt-ltb i r.count h)

  pub open_goal : (f : ℕ) → is_open c r states r.count f ≡ (r.goal f && not (states r.count f))
  unfolding is_open
  open_goal f = rw (le-ltb r.count r.count (le_refl r.count))

  -- a step may run exactly if it has nothing open
  pub may_run_lem : (i : ℕ) → i < r.count → may_run c (r.step i) (states i) ≡ eqb (open_at c r states i) 0
  unfolding may_run open_at
  may_run_lem i h =
      let a = r.step i in
      let needed : ℕ → Bool = λ f. not (c.needs a f) || states i f in
      let same : (f : ℕ) → is_open c r states i f ≡ not (needed f) = λ f. open_step i f h ∙ absent (c.needs a f) (states i f) in
      same_flag (every_below needed c.facts) (eqb (open_at c r states i) 0)
      (λ e.
      eq-eqb (open_at c r states i) 0
      (zero_count_below (is_open c r states i) c.facts (λ f l. same f ∙ ap not (every_below_all needed c.facts e f l))))
      (λ e.
      let none = count_below_zero (is_open c r states i) c.facts (eqb-true (open_at c r states i) 0 e) in
      all_every_below needed c.facts (λ f l. not-false (needed f) (sym (same f) ∙ none f l)))
