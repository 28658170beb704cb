-- The tally of a run, in any states: how large it is, what one step more makes of it, and that the tally of all steps and the goals is the
-- report. Which states the run check takes is not looked at here (StateLaws). Assumes nothing.
use mathlib.Core.Bool.{Bool, true, false, not, ◌&&◌, cond}
use mathlib.Core.Path.{◌≡◌, refl, sym, ap, ◌∙◌}
use Prim.Native.Nat.{ℕ, ◌+◌, ◌*◌, ◌^◌, ◌<◌, ◌≤◌}
use native.Mathlib.Omega.{arith}
use lib.Dec.{eqb, ltb}
use lib.ListN.{get_or}
use borrow.Author.Tests.{lt-ltb, le-ltb, eq-eqb, ne_eqb}
use Rattle.facts.specs.Sets.{width, has, removed, count, lowest}
use Rattle.facts.proofs.Counting.{count_none, count_empty}
use Rattle.facts.proofs.Laws.{has_removed, has_within, within_lt, removed_lt}
use Rattle.table.specs.Counting.{sum_below, first_where}
use Rattle.table.specs.Refusals.{accepted}
use Rattle.table.specs.Repairs.{drop_need}
use Rattle.table.specs.Sizes.{max_facts}
use Rattle.table.specs.Strips.{Cells, Course}
use Rattle.table.specs.Tasks.{WellFormed, cells_of, goal_of, count_of, step_of, course_of, mask_of}
use Rattle.table.specs.declared.Task.{Task}
use Rattle.table.proofs.FlagLaws.{by_order}
use Rattle.table.proofs.CountingLaws.{
  sum_below_next,
  sum_below_zero,
  sum_below_le,
  sum_below_some,
  count_below_same,
  count_below_le,
  count_below_mask,
  first_where_found,
  first_where_stays,
  first_where_same,
  first_where_mask,
}
use Rattle.runcheck.specs.OpenNeeds.{States, is_open, open_at, total_open, first_open, lowest_open, open_report}
use Rattle.runcheck.specs.Tallies.{nothing, first_below, tally_at, noted}
use Rattle.runcheck.specs.declared.Checked.{Checked}
use Rattle.runcheck.specs.declared.OpenNeeds.{OpenNeeds}

-- ---- how one step is noted

noted_none : (step : ℕ) → noted nothing 0 step ≡ nothing
unfolding noted
noted_none step = rw count_empty

noted_first : (absent step : ℕ) → 0 < absent → noted nothing absent step ≡ record { total = count absent; step = step; fact = lowest absent }
unfolding noted
noted_first absent step h =
    let sum : 0 + count absent ≡ count absent = omega arith in
    rw (ne_eqb absent 0 (λ e. omega arith), sum)

noted_later : (s : OpenNeeds) (absent step : ℕ) → 0 < s.total
    → noted s absent step ≡ record { total = s.total + count absent; step = s.step; fact = s.fact }
unfolding noted
noted_later s absent step h = rw (ne_eqb s.total 0 (λ e. omega arith))

-- ---- the tally of the first n steps

module _ (c : Cells) (r : Course) (states : States) where
  -- how many needs the first n steps have open
  abbrev sum : ℕ → ℕ
  sum = sum_below (open_at c r states)

  abbrev tally : ℕ → OpenNeeds
  tally = tally_at c r states

  tally_none : (n : ℕ) → sum n ≡ 0 → tally n ≡ nothing
  unfolding tally_at
  tally_none n e = rw (eq-eqb (sum n) 0 e)

  tally_some : (n k m : ℕ) → sum n ≡ m → 0 < m → first_below c r states n ≡ k
      → tally n ≡ record { total = m; step = k + 1; fact = first_where (is_open c r states k) c.facts }
  unfolding tally_at
  tally_some n k m s h e = rw (s, e, ne_eqb m 0 (λ z. omega arith))

  pub tally_start : tally 0 ≡ nothing
  unfolding sum_below
  tally_start = tally_none 0 refl

  pub tally_total : (n : ℕ) → (tally n).total ≡ sum n
  unfolding tally_at
  tally_total n =
      by_order 0 (sum n) (λ l. rw (ne_eqb (sum n) 0 (λ e. omega arith))) (λ l.
      let e : sum n ≡ 0 = omega arith in
      rw e)

  pub tally_le : (n : ℕ) → c.facts ≤ max_facts → (tally n).total ≤ n * max_facts
  unfolding open_at
  tally_le n h =
      omega (arith, tally_total n, sum_below_le (open_at c r states) n max_facts (λ i l. omega (arith, count_below_le (is_open c r states i) c.facts)))

  -- one step more, whose open needs are the mask `absent`
  module _ (n absent : ℕ) (fits : c.facts ≤ width) (small : absent < 2 ^ c.facts) (same : (f : ℕ) → has absent f ≡ is_open c r states n f) where
    open_count : open_at c r states n ≡ count absent
    unfolding open_at
    open_count =
        count_below_same (is_open c r states n) (has absent) c.facts (λ f h. sym (same f)) ∙ count_below_mask absent c.facts fits small

    open_lowest : 0 < absent → first_where (is_open c r states n) c.facts ≡ lowest absent
    open_lowest h =
        first_where_same (is_open c r states n) (has absent) c.facts (λ f l. sym (same f)) ∙ first_where_mask absent c.facts fits h small

    next_sum : sum (n + 1) ≡ sum n + count absent
    next_sum = sum_below_next (open_at c r states) n ∙ ap (λ x. sum n + x) open_count

    later : 0 < sum n → noted (tally n) absent (n + 1) ≡ tally (n + 1)
    unfolding first_below
    later h =
        let k = first_below c r states n in
        let stays = first_where_stays (λ i. ltb 0 (open_at c r states i)) n (sum_below_some (open_at c r states) n h) in
        ap (λ s. noted s absent (n + 1)) (tally_some n k (sum n) refl h refl) ∙
        noted_later (record { total = sum n; step = k + 1; fact = first_where (is_open c r states k) c.facts }) absent (n + 1) h ∙
        sym (tally_some (n + 1) k (sum n + count absent) next_sum (omega arith) stays)

    first : sum n ≡ 0 → 0 < absent → noted (tally n) absent (n + 1) ≡ tally (n + 1)
    unfolding first_below
    first e h =
        let some : 0 < count absent = by_order 0 (count absent) (λ l. l) (λ l. absurd (omega (arith, count_none absent (omega arith)))) in
        let here =
        first_where_found (λ i. ltb 0 (open_at c r states i)) (n + 1) n (omega arith) (lt-ltb 0 (open_at c r states n) (omega (arith, open_count)))
        (λ i l. le-ltb 0 (open_at c r states i) (omega (arith, sum_below_zero (open_at c r states) n e i l))) in
        ap (λ s. noted s absent (n + 1)) (tally_none n e) ∙ noted_first absent (n + 1) h ∙
        ap (λ f. record { total = count absent; step = n + 1; fact = f }) (sym (open_lowest h)) ∙
        sym (tally_some (n + 1) n (count absent) (omega (arith, next_sum)) some here)

    none : sum n ≡ 0 → absent ≡ 0 → noted (tally n) absent (n + 1) ≡ tally (n + 1)
    none e z =
        let zero-sum : sum (n + 1) ≡ 0 = omega (arith, next_sum, ap count z, count_empty) in
        (λ j. noted (tally_none n e j) (z j) (n + 1)) ∙ noted_none (n + 1) ∙ sym (tally_none (n + 1) zero-sum)

    pub tally_next : noted (tally n) absent (n + 1) ≡ tally (n + 1)
    tally_next =
        by_order 0 (sum n) later (λ l. by_order 0 absent (first (omega arith)) (λ z. none (omega arith) (omega arith)))

-- ---- the same for a run of a task: masks for sets

count_zero : (m : ℕ) → eqb (count m) 0 ≡ eqb m 0
count_zero m =
    by_order 0 m (λ h. ne_eqb (count m) 0 (λ e. absurd (omega (arith, count_none m e))) ∙ sym (ne_eqb m 0 (λ e. omega arith))) (λ h.
    let e : m ≡ 0 = omega arith in
    ap (λ (n : ℕ). eqb (count n) 0) e ∙ ap (λ (n : ℕ). eqb n 0) count_empty ∙ ap (λ (n : ℕ). eqb n 0) (sym e))

abbrev pub tally_of : Task → ℕ → States → ℕ → OpenNeeds
tally_of t run = tally_at (cells_of t.table) (course_of t.runs run)

-- The mask `state` has the facts that are present before step i.
abbrev pub IsState : States → ℕ → ℕ → Type 0
IsState states i state = (f : ℕ) → has state f ≡ states i f

pub tally_of_le : (t : Task) → WellFormed t → (run : ℕ) (states : States) (i : ℕ) → (tally_of t run states i).total ≤ i * max_facts
unfolding cells_of
tally_of_le t w run states i = tally_le (cells_of t.table) (course_of t.runs run) states i w.facts_high

module _ (t : Task) (w : WellFormed t) (run : ℕ) (states : States) (i state : ℕ) (is_state : IsState states i state) where
  -- the mask m has what step i wants, or the goals, and "no set has a fact at or above F"
  module _ (m : ℕ) (inside : (f : ℕ) → t.table.facts ≤ f → has m f ≡ false)
      (wanted : (f : ℕ) → has m f ≡ cond (ltb i (count_of t.runs run)) (has (mask_of t.table drop_need (step_of t.runs run i)) f) (has (goal_of t.runs run) f)) where
    small : removed m state < 2 ^ t.table.facts
    small = removed_lt t.table.facts m state (within_lt m t.table.facts (has_within m t.table.facts inside))

    same : (f : ℕ) → has (removed m state) f ≡ is_open (cells_of t.table) (course_of t.runs run) states i f
    unfolding is_open cells_of course_of
    same f = has_removed m state f ∙ (λ j. wanted f j && not (is_state f j))

    wanted_next : noted (tally_of t run states i) (removed m state) (i + 1) ≡ tally_of t run states (i + 1)
    unfolding cells_of
    wanted_next = tally_next (cells_of t.table) (course_of t.runs run) states i (removed m state) w.facts_high small same

    wanted_count : open_at (cells_of t.table) (course_of t.runs run) states i ≡ count (removed m state)
    unfolding cells_of
    wanted_count = open_count (cells_of t.table) (course_of t.runs run) states i (removed m state) w.facts_high small same

  module _ (h : i < count_of t.runs run) where
    abbrev needed : ℕ
    needed = get_or t.table.needs (step_of t.runs run i) 0

    wanted_needed : (f : ℕ) → has needed f ≡ cond (ltb i (count_of t.runs run)) (has needed f) (has (goal_of t.runs run) f)
    wanted_needed f = rw (lt-ltb i (count_of t.runs run) h)

    pub needs_next : noted (tally_of t run states i) (removed needed state) (i + 1) ≡ tally_of t run states (i + 1)
    needs_next = wanted_next needed (w.inside drop_need (step_of t.runs run i)) wanted_needed

    -- the step has nothing open exactly if its mask is empty
    pub needs_none : eqb (removed needed state) 0 ≡ eqb (open_at (cells_of t.table) (course_of t.runs run) states i) 0
    needs_none =
        let absent = removed needed state in
        let counted = wanted_count needed (w.inside drop_need (step_of t.runs run i)) wanted_needed in
        sym (ap (λ (n : ℕ). eqb n 0) counted ∙ count_zero absent)

  pub goals_next : i ≡ count_of t.runs run
      → noted (tally_of t run states i) (removed (goal_of t.runs run) state) (count_of t.runs run + 1) ≡
      tally_of t run states (count_of t.runs run + 1)
  goals_next e =
      let next = wanted_next (goal_of t.runs run) (w.goal_inside run) (λ f. rw (le-ltb i (count_of t.runs run) (omega arith))) in
      (λ j. noted (tally_of t run states i) (removed (goal_of t.runs run) state) (sym e j + 1)) ∙ next ∙
      ap (λ (k : ℕ). tally_of t run states (k + 1)) e

-- ---- the tally of all is the report

-- what is answered for a well-formed task, of its tally
abbrev pub answer : OpenNeeds → Checked
answer s = record { number = accepted; place = 0; total = s.total; step = s.step; fact = s.fact }

choose : (b : Bool) (s : OpenNeeds) → cond {A = Checked} b (answer nothing) (answer s) ≡ answer (cond {A = OpenNeeds} b nothing s)
choose true s = refl
choose false s = refl

module _ (c : Cells) (r : Course) (states : States) where
  pub report_tally : open_report c r states ≡ answer (tally_at c r states (r.count + 1))
  unfolding open_report total_open first_open lowest_open first_below tally_at
  report_tally =
      let n = r.count + 1 in
      let k = first_below c r states n in
      choose (eqb (sum c r states n) 0) (record { total = sum c r states n; step = k + 1; fact = first_where (is_open c r states k) c.facts })

  -- the answer's total is the sum over the steps
  pub report_total : (open_report c r states).total ≡ total_open c r states
  unfolding total_open
  report_total = ap (λ (x : Checked). x.total) report_tally ∙ tally_total c r states (r.count + 1)
