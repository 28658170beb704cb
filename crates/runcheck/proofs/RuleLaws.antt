-- The two rules for a run's states, the old one's `state_at` and the controller's (02, request 3). Both begin with the start, and a step with
-- nothing open takes its effects; only of a step with open needs do they say different things. So they agree up to the first such step, and
-- what is open there is the same. Assumes nothing.
use mathlib.Core.Bool.{not, ◌&&◌, ◌||◌, cond}
use mathlib.Core.Path.{◌≡◌, refl, sym, ap, ◌∙◌}
use Prim.Native.Nat.{ℕ, zero, suc, ◌+◌, ◌<◌, ◌≤◌}
use native.Mathlib.Numerals.{add-one}
use native.Mathlib.Omega.{arith}
use lib.Dec.{eqb, ltb}
use borrow.Author.Tests.{eq-eqb, ne_eqb, ltb-false}
use Rattle.table.specs.Counting.{first_where}
use Rattle.table.specs.Strips.{Cells, Course, after_step, state_at}
use Rattle.table.proofs.FlagLaws.{by_order}
use Rattle.table.proofs.CountingLaws.{sum_below_zero, sum_below_some, zero_sum_below, count_below_same, FirstAt, first_where_at, first_where_is, first_where_same}
use Rattle.table.proofs.RunLaws.{state_at_first, state_at_next}
use Rattle.runcheck.specs.OpenNeeds.{
  States,
  is_open,
  open_at,
  total_open,
  first_open,
  lowest_open,
  open_needs,
  open_report,
  controller_at,
}
use Rattle.runcheck.specs.declared.Checked.{Checked}
use Rattle.runcheck.proofs.OpenLaws.{may_run_lem}

module _ (c : Cells) (r : Course) where
  -- What both rules keep to.
  pub record Ruled (states : States) : Type 0 where
    pub begins : (f : ℕ) → states 0 f ≡ r.start f
    pub takes : (i : ℕ) → i < r.count → open_at c r states i ≡ 0 → (f : ℕ)
        → states (i + 1) f ≡ after_step (states i) (c.adds (r.step i)) (c.deletes (r.step i)) f

  pub old_ruled : Ruled (state_at c r)
  old_ruled = record { begins = state_at_first c r; takes = λ i h e. state_at_next c r i }

  -- the controller's state after one step more
  pub controller_at_first : (f : ℕ) → controller_at c r 0 f ≡ r.start f
  unfolding controller_at
  controller_at_first f = refl

  pub controller_at_next : (i f : ℕ) → i < r.count
      → controller_at c r (i + 1) f ≡
      cond (eqb (open_at c r (controller_at c r) i) 0)
      (after_step (controller_at c r i) (c.adds (r.step i)) (c.deletes (r.step i)) f)
      (controller_at c r i f)
  unfolding controller_at
  controller_at_next i f h = rw (add-one i, may_run_lem c r (controller_at c r) i h)

  pub new_ruled : Ruled (controller_at c r)
  new_ruled = record {
    begins = controller_at_first;
    takes = λ i h e f. controller_at_next i f h ∙ rw (eq-eqb (open_at c r (controller_at c r) i) 0 e);
  }

  -- ---- what is reported

  report_none : (states : States) → total_open c r states ≡ 0 → open_report c r states ≡ open_needs 0 0 0
  unfolding open_report
  report_none states e = rw (eq-eqb (total_open c r states) 0 e)

  report_some : (states : States) → 0 < total_open c r states
      → open_report c r states ≡ open_needs (total_open c r states) (first_open c r states + 1) (lowest_open c r states)
  unfolding open_report
  report_some states h = rw (ne_eqb (total_open c r states) 0 (λ e. omega arith))

  -- ---- two rules

  module _ (a b : States) (p : Ruled a) (q : Ruled b) where
    open_same : (i : ℕ) → ((f : ℕ) → a i f ≡ b i f) → (f : ℕ) → is_open c r a i f ≡ is_open c r b i f
    unfolding is_open
    open_same i same f = ap (λ s. cond (ltb i r.count) (c.needs (r.step i) f) (r.goal f) && not s) (same f)

    count_same : (i : ℕ) → ((f : ℕ) → a i f ≡ b i f) → open_at c r a i ≡ open_at c r b i
    unfolding open_at
    count_same i same = count_below_same (is_open c r a i) (is_open c r b i) c.facts (λ f l. open_same i same f)

    -- up to the first step with open needs the states are the same
    pub agree : (i : ℕ) → i ≤ r.count → ((j : ℕ) → j < i → open_at c r a j ≡ 0) → (f : ℕ) → a i f ≡ b i f
    agree zero h none f = p.begins f ∙ sym (q.begins f)
    agree (suc i) h none f =
        let before = agree i (omega arith) (λ j l. none j (omega arith)) in
        let quiet = none i (omega arith) in
        ap (λ k. a k f) (sym (add-one i)) ∙ p.takes i (omega arith) quiet f ∙
        ap (λ s. (s && not (c.deletes (r.step i) f)) || c.adds (r.step i) f) (before f) ∙
        sym (q.takes i (omega arith) (sym (count_same i before) ∙ quiet) f) ∙ ap (λ k. b k f) (add-one i)

    -- and so is how many needs are open there
    agree_count : (i : ℕ) → i ≤ r.count → ((j : ℕ) → j < i → open_at c r a j ≡ 0) → open_at c r a i ≡ open_at c r b i
    agree_count i h none = count_same i (agree i h none)

    pub zero_same : total_open c r a ≡ 0 → total_open c r b ≡ 0
    unfolding total_open
    zero_same e =
        let none = sum_below_zero (open_at c r a) (r.count + 1) e in
        zero_sum_below (open_at c r b) (r.count + 1)
        (λ i l. sym (agree_count i (omega arith) (λ j k. none j (omega arith))) ∙ none i l)

    -- before the first step that has an open need there is none
    first_at : FirstAt (λ i. ltb 0 (open_at c r a i)) (r.count + 1) (first_open c r a)
    unfolding first_open
    first_at = first_where_at (λ i. ltb 0 (open_at c r a i)) (r.count + 1)

    quiet_before : (i : ℕ) → i ≤ first_open c r a → (j : ℕ) → j < i → open_at c r a j ≡ 0
    quiet_before i h j l = omega (arith, ltb-false 0 (open_at c r a j) (first_at.before j (omega arith)))

    first_same : first_open c r a ≡ first_open c r b
    unfolding first_open
    first_same =
        let k = first_open c r a in
        sym
        (first_where_is (λ i. ltb 0 (open_at c r b i)) (r.count + 1) k
        (record {
          inside = first_at.inside;
          before = λ i l.
              ap (ltb 0) (sym (agree_count i (omega (arith, first_at.inside)) (quiet_before i (omega arith)))) ∙ first_at.before i l;
          holds = λ h. ap (ltb 0) (sym (agree_count k (omega arith) (quiet_before k (omega arith)))) ∙ first_at.holds h;
        }))

    lowest_same : 0 < total_open c r a → lowest_open c r a ≡ lowest_open c r b
    unfolding total_open first_open lowest_open
    lowest_same h =
        let k = first_open c r a in
        let inside = sum_below_some (open_at c r a) (r.count + 1) h in
        let same = agree k (omega arith) (quiet_before k (omega arith)) in
        first_where_same (is_open c r a k) (is_open c r b k) c.facts (λ f l. open_same k same f) ∙
        ap (λ (i : ℕ). first_where (is_open c r b i) c.facts) first_same

  -- only the total moves: of what is reported, the step and its lowest fact are the same by both
  module _ (a b : States) (p : Ruled a) (q : Ruled b) where
    some_same : 0 < total_open c r a → 0 < total_open c r b
    some_same h = by_order 0 (total_open c r b) (λ l. l) (λ l. absurd (omega (arith, zero_same b a q p (omega arith))))

    pub report_same : open_report c r a ≡ open_needs (total_open c r a) (open_report c r b).step (open_report c r b).fact
    report_same =
        let of-b : Checked → Checked = λ x. open_needs (total_open c r a) x.step x.fact in
        by_order 0 (total_open c r a)
        (λ h.
        report_some a h ∙ (λ j. open_needs (total_open c r a) (first_same a b p q j + 1) (lowest_same a b p q h j)) ∙
        sym (ap of-b (report_some b (some_same h))))
        (λ l.
        let e : total_open c r a ≡ 0 = omega arith in
        report_none a e ∙ ap (λ (n : ℕ). open_needs n 0 0) (sym e) ∙ sym (ap of-b (report_none b (zero_same a b p q e))))
