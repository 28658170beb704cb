-- Laws of a conflict (document 01, "A conflict"; source document 000): what looking back and gathering actions keep while
-- they run, and that the repairs so found are a conflict of the candidate, without locked needs (02, request 6). Assumes nothing.
use mathlib.Core.Bool.{Bool, true, false, not, ◌&&◌, ◌||◌, and-false, false≢true, true≢false}
use mathlib.Core.List.{List}
use mathlib.Core.Logic.{◌⊎◌, inl, inr, ⊎_elim}
use mathlib.Core.Path.{◌≡◌, refl, sym, ap, subst, ◌∙◌}
use Prim.Native.Nat.{ℕ, zero, suc, ◌+◌, ◌-◌, ◌<◌, ◌≤◌, min, max}
use native.Mathlib.Nat.{eq-or-lt_of_le, le_of_suc-le-suc, lt_of_lt_of_le}
use native.Mathlib.Numerals.{add-one}
use native.Mathlib.Omega.{arith}
use lib.Dec.{eqb, ltb}
use borrow.Author.Tests.{eq-eqb, eqb-true, not-true}
use Rattle.facts.specs.Sets.{width, has, joined, removed, only}
use Rattle.facts.proofs.Laws.{has_empty, has_joined, has_removed, has_only}
use Rattle.table.specs.Sizes.{max_actions, kinds, per_fact}
use Rattle.table.specs.Strips.{Cells, Course, one, state_at, Right}
use Rattle.table.specs.Order.{is_in}
use Rattle.table.specs.Repairs.{by_kind, number_of, drop_delete, add_effect, drop_need, repairable, chosen, repaired, permits}
use Rattle.table.proofs.FlagLaws.{or_cases, or_left, or_right, and_left, and_right, and_both, is_false, by_order}
use Rattle.table.proofs.LockLaws.{locked_stands}
use Rattle.table.proofs.RepairNumbers.{inside_permits, permitted_number}
use Rattle.table.proofs.RepairLaws.{repairable_delete, repairable_add, repairable_need, repaired_repairable}
use Rattle.table.proofs.RunLaws.{state_at_first, state_at_next}
use Rattle.choices.specs.declared.Choice.{Choice}
use Rattle.choices.specs.Choices.{in_choice, code_of, code_kind, code_action, code_number, numbers_in, Apart}
use Rattle.search.specs.declared.Column.{Column}
use Rattle.search.specs.Columns.{cells_in, KeepsIn, RunFormed}
use Rattle.search.specs.Gaps.{LastDelete, Named, need_at, that_delete, add_between, ConflictAt, ActionsOf}
use Rattle.search.specs.Searching.{cells_with, NeededAt, by_step, by_goal, Missing, Allowed}
use Rattle.choices.specs.Trying.{mask_in}
use Rattle.choices.proofs.ChoiceLaws.{find_code}
use Rattle.choices.proofs.MaskLaws.{chosen_has, in_choice_has}

-- ---- looking back

-- No step from place i on and before j deletes the fact.
abbrev pub NoDelete : Column → Course → Choice → ℕ → ℕ → Type 0
NoDelete col r s j i = (k : ℕ) → i ≤ k → k < j → (cells_with col s).deletes (r.step k) col.fact ≡ false

pub no_delete_none : (col : Column) (r : Course) (s : Choice) (j : ℕ) → NoDelete col r s j j
no_delete_none col r s j k low high = absurd (omega arith)

pub no_delete_more : (col : Column) (r : Course) (s : Choice) (j i : ℕ) → NoDelete col r s j i
    → (cells_with col s).deletes (r.step (i - 1)) col.fact ≡ false → NoDelete col r s j (i - 1)
no_delete_more col r s j i since here k low high = ⊎_elim
    (λ e. subst (λ (p : ℕ). (cells_with col s).deletes (r.step p) col.fact ≡ false) e here)
    (λ l. since k (omega arith) high) (eq-or-lt_of_le low)

-- Looking back has one end.
last_later : (col : Column) (r : Course) (s : Choice) (j i k : ℕ) → LastDelete col r.step s j i → LastDelete col r.step s j k → k ≤ i
last_later col r s j i k here there = by_order i k
    (λ h. absurd (true≢false (sym (there.deleted (omega arith)) ∙ here.since (k - 1) (omega arith) (omega (arith, there.within)))))
    (λ h. h)

last_unique : (col : Column) (r : Course) (s : Choice) (j i k : ℕ) → LastDelete col r.step s j i → LastDelete col r.step s j k → i ≡ k
last_unique col r s j i k here there = omega (arith, last_later col r s j i k here there, last_later col r s j k i there here)

-- ---- gathering actions

module _ (step : ℕ → ℕ) (start : ℕ) where
  pub actions_none : ActionsOf step start start 0
  actions_none = record {
    each = λ i low high. absurd (omega arith);
    only = λ a h. absurd (false≢true (sym (has_empty a) ∙ h));
  }

  pub actions_more : (i m : ℕ) → start ≤ i → step i < width → ActionsOf step start i m
      → ActionsOf step start (i + 1) (joined m (only (step i)))
  actions_more i m low room found = record { each = each; only = gathered }
    where
      a : ℕ
      a = step i

      both : (b : ℕ) → has (joined m (only a)) b ≡ (has m b || eqb b a)
      both b = has_joined m (only a) b ∙ ap (λ (t : Bool). has m b || t) (has_only a b room)

      each : (k : ℕ) → start ≤ k → k < i + 1 → has (joined m (only a)) (step k) ≡ true
      each k from to = both (step k) ∙ ⊎_elim
          (λ e. or_right (has m (step k)) _ (eq-eqb _ a (ap step e)))
          (λ l. or_left (has m (step k)) _ (found.each k from l))
          (eq-or-lt_of_le (le_of_suc-le-suc (subst (λ (n : ℕ). k < n) (add-one i) to)))

      gathered : (b : ℕ) → has (joined m (only a)) b ≡ true → (k : ℕ) × (start ≤ k) × (k < i + 1) × (step k ≡ b)
      gathered b h = ⊎_elim
          (λ old. let w = found.only b old in (w.0, w.1, omega (arith, w.2), w.3))
          (λ new. (i, low, omega arith, sym (eqb-true b a new)))
          (or_cases (has m b) (eqb b a) (sym (both b) ∙ h))

  pub actions_end : (i end m : ℕ) → end ≤ i → i ≤ max start end → ActionsOf step start i m → ActionsOf step start end m
  actions_end i end m low high found = record {
    each = λ k from to. found.each k from (omega arith);
    only = λ a h. let w = found.only a h in (w.0, w.1, omega (arith, w.1, w.2), w.3);
  }

-- ---- a fact's state over some steps

module _ (c : Cells) (r : Course) (f : ℕ) where
  -- one step: what it leaves, from the state before, the delete and the add
  next_added : (k : ℕ) → c.adds (r.step k) f ≡ true → state_at c r (k + 1) f ≡ true
  next_added k a = state_at_next c r k f ∙ or_right (state_at c r k f && not (c.deletes (r.step k) f)) (c.adds (r.step k) f) a

  next_kept : (k : ℕ) → state_at c r k f ≡ true → c.deletes (r.step k) f ≡ false → state_at c r (k + 1) f ≡ true
  next_kept k p d = state_at_next c r k f ∙ rw (p, d)

  next_absent : (k : ℕ) → state_at c r k f ≡ false → c.adds (r.step k) f ≡ false → state_at c r (k + 1) f ≡ false
  next_absent k p a = state_at_next c r k f ∙ rw (p, a)

  next_deleted : (k : ℕ) → c.deletes (r.step k) f ≡ true → c.adds (r.step k) f ≡ false → state_at c r (k + 1) f ≡ false
  next_deleted k d a = state_at_next c r k f ∙ rw (d, a, and-false (state_at c r k f))

  -- A state that each step from i to j keeps is the state at j.
  carries : (b : Bool) (i j : ℕ) → i ≤ j → state_at c r i f ≡ b
      → ((k : ℕ) → i ≤ k → k < j → state_at c r k f ≡ b → state_at c r (k + 1) f ≡ b) → state_at c r j f ≡ b
  carries b i zero low here keep = let e : i ≡ 0 = omega arith in subst (λ (n : ℕ). state_at c r n f ≡ b) e here
  carries b i (suc j) low here keep = ⊎_elim
      (λ e. subst (λ (n : ℕ). state_at c r n f ≡ b) e here)
      (λ l.
      let less : i ≤ j = omega arith in
      let before = carries b i j less here (λ k lo hi. keep k lo (omega arith)) in
      subst (λ (n : ℕ). state_at c r n f ≡ b) (add-one j) (keep j less (omega arith) before))
      (eq-or-lt_of_le low)

-- ---- the conflict

-- Where the conflict's repairs of kind k stand: the deleting step, the steps from it up to j - 1, the step at j.
abbrev pub low_place : ℕ → ℕ → ℕ → ℕ
low_place i j k = by_kind k (i - 1) (i - 1) j

abbrev pub high_place : Course → ℕ → ℕ → ℕ → ℕ
high_place r i j k = by_kind k i j (min (j + 1) r.count)

-- A repair of kind k of action a drops a locked need.
abbrev is_locked : Column → ℕ → ℕ → Bool
is_locked col k a = by_kind k false false (has col.locks a)

-- m has the actions of the steps at the places from `start` on and before `end`, but for those whose repair drops a locked need.
record Offers (col : Column) (step : ℕ → ℕ) (k start end : ℕ) (m : ℕ) : Type 0 where
  pub each : (p : ℕ) → start ≤ p → p < end → is_locked col k (step p) ≡ false → has m (step p) ≡ true
  pub only : (a : ℕ) → has m a ≡ true → (p : ℕ) × (start ≤ p) × (p < end) × (step p ≡ a) × (is_locked col k (step p) ≡ false)

-- Repairs of the other kinds drop no need; of the needs, those that are locked are taken out.
actions_offers : (col : Column) (step : ℕ → ℕ) (k start end m : ℕ) → ((a : ℕ) → is_locked col k a ≡ false) → ActionsOf step start end m
    → Offers col step k start end m
actions_offers col step k start end m free found = record {
  each = λ p low high h. found.each p low high;
  only = λ a h. let w = found.only a h in (w.0, w.1, w.2, w.3, free (step w.0));
}

needs_offer : (col : Column) (step : ℕ → ℕ) (start end m : ℕ) → ActionsOf step start end m
    → Offers col step drop_need start end (removed m col.locks)
needs_offer col step start end m found = record {
  each = λ p low high h.
      has_removed m col.locks (step p) ∙ and_both (has m (step p)) (not (has col.locks (step p))) (found.each p low high) (ap not h);
  only = λ a h.
      let left : (has m a && not (has col.locks a)) ≡ true = sym (has_removed m col.locks a) ∙ h in
      let w = found.only a (and_left (has m a) (not (has col.locks a)) left) in
      (w.0, w.1, w.2, w.3, ap (has col.locks) w.3 ∙ not-true (has col.locks a) (and_right (has m a) (not (has col.locks a)) left));
}

needed_within : (col : Column) (r : Course) (s : Choice) (j : ℕ) → NeededAt col r s j → j ≤ r.count
needed_within col r s j (by_step h _) = omega arith
needed_within col r s j (by_goal e _) = omega arith

pub missing_within : (col : Column) (r : Course) (s : Choice) (j : ℕ) → Missing col r s j → j ≤ r.count
missing_within col r s j missing = needed_within col r s j missing.needed

module _ (col : Column) (r : Course) (s : Choice) (j i : ℕ) (missing : Missing col r s j) (back : LastDelete col r.step s j i) where
  -- present at some place after the last delete, the fact would be present at j
  absent_since : (m : ℕ) → i ≤ m → m ≤ j → state_at (cells_with col s) r m col.fact ≡ false
  absent_since m low high = is_false _ (λ h.
      true≢false
      (sym (carries (cells_with col s) r col.fact true m j high h
      (λ k lo hi p. next_kept (cells_with col s) r col.fact k p (back.since k (omega arith) hi)))
      ∙ missing.absent))

  no_adds : (k : ℕ) → i - 1 ≤ k → k < j → (cells_with col s).adds (r.step k) col.fact ≡ false
  no_adds k low high = is_false _ (λ h.
      true≢false
      (sym (next_added (cells_with col s) r col.fact k h)
      ∙ absent_since (k + 1) (omega arith) (omega arith)))

  -- with the candidate applied, each place of the conflict still has the cell that its repair changes
  still : (k p : ℕ) → k < kinds → low_place i j k ≤ p → p < high_place r i j k → is_locked col k (r.step p) ≡ false
      → repairable (cells_with col s) col.fact k (r.step p) ≡ true
  unfolding cells_in
  still zero p h low high free =
      let e : i - 1 ≡ p = omega arith in
      repairable_delete (cells_with col s) col.fact (r.step p)
      ∙ subst (λ (n : ℕ). (cells_with col s).deletes (r.step n) col.fact ≡ true) e (back.deleted (omega arith))
  still (suc zero) p h low high free =
      repairable_add (cells_with col s) col.fact (r.step p) ∙ ap not (no_adds p low high)
  still (suc (suc zero)) p h low high free =
      repairable_need (cells_with col s) col.fact (r.step p) ∙ and_both _ _ (need missing.needed) (ap not free)
    where
      need : NeededAt col r s j → (cells_with col s).needs (r.step p) col.fact ≡ true
      need (by_step inside n) =
          let e : j ≡ p = omega arith in
          subst (λ (m : ℕ). (cells_with col s).needs (r.step m) col.fact ≡ true) e n
      need (by_goal e g) = absurd (omega arith)
  still (suc (suc (suc k))) p h low high free = absurd (omega arith)

module _ (col : Column) (r : Course) (s : Choice) (j i : ℕ) (formed : RunFormed col r) (missing : Missing col r s j) (back : LastDelete col r.step s j i)
    (q : Choice) (parts : (k : ℕ) → k < kinds → Offers col r.step k (low_place i j k) (high_place r i j k) (mask_in k q)) where
  high_within : (k : ℕ) → k < kinds → high_place r i j k ≤ r.count
  high_within zero h = omega (arith, missing_within col r s j missing, back.within)
  high_within (suc zero) h = missing_within col r s j missing
  high_within (suc (suc zero)) h = omega arith
  high_within (suc (suc (suc k))) h = absurd (omega arith)

  -- at a place of the conflict: an action of the task, whose cell a repair changes that is not in the candidate
  module _ (k p : ℕ) (hk : k < kinds) (low : low_place i j k ≤ p) (high : p < high_place r i j k) (free : is_locked col k (r.step p) ≡ false) where
    place_action : r.step p < col.actions
    place_action = formed.steps_below p (lt_of_lt_of_le high (high_within k hk))

    own : col.fact < (cells_in col).facts
    unfolding cells_in
    own = omega arith

    place_inside : r.step p < (cells_in col).actions
    unfolding cells_in
    place_inside = place_action

    place_low : r.step p < max_actions
    place_low = omega (arith, place_action, formed.actions_high)

    place_cell : (repairable (cells_in col) col.fact k (r.step p)
        && not (chosen (numbers_in col.fact s) col.fact k (r.step p))) ≡ true
    place_cell =
        sym (repaired_repairable (cells_in col) (numbers_in col.fact s) col.fact k (r.step p) hk)
        ∙ still col r s j i missing back k p hk low high free

    place_fresh : has (mask_in k s) (r.step p) ≡ false
    place_fresh =
        sym (chosen_has col.fact s k (r.step p) hk place_low)
        ∙ not-true (chosen (numbers_in col.fact s) col.fact k (r.step p))
        (and_right (repairable (cells_in col) col.fact k (r.step p)) _ place_cell)

    place_repairable : repairable (cells_in col) col.fact k (r.step p) ≡ true
    place_repairable =
        and_left (repairable (cells_in col) col.fact k (r.step p))
        (not (chosen (numbers_in col.fact s) col.fact k (r.step p))) place_cell

    place_offered : in_choice q (code_of k (r.step p)) ≡ true
    place_offered = in_choice_has q k (r.step p) place_low ∙ (parts k hk).each p low high free

    place_permitted : permits (cells_in col) col.fact k (r.step p) ≡ true
    place_permitted = inside_permits (cells_in col) col.fact k (r.step p) own place_inside place_repairable

  -- the place of each of the conflict's repairs
  place_of : (code : ℕ) → code < per_fact → in_choice q code ≡ true → (p : ℕ) × (low_place i j (code_kind code) ≤ p)
      × (p < high_place r i j (code_kind code)) × (r.step p ≡ code_action code) × (is_locked col (code_kind code) (r.step p) ≡ false)
  unfolding in_choice
  place_of code h hq = (parts (code_kind code) (omega arith)).only (code_action code) hq

  conflict_fresh : Apart q s
  unfolding in_choice
  conflict_fresh code h hq =
      let w = place_of code h hq in
      subst (λ (a : ℕ). has (mask_in (code_kind code) s) a ≡ false) w.3 (place_fresh (code_kind code) w.0 (omega arith) w.1 w.2 w.4)

  conflict_allowed : Allowed col q
  conflict_allowed code h hq =
      let w = place_of code h hq in
      let number : code_number col.fact code ≡ number_of col.fact (code_kind code) (code_action code) = omega arith in
      rw (number, permitted_number (cells_in col) col.fact (code_kind code) (code_action code) (omega arith) (omega arith))
      (subst (λ (a : ℕ). permits (cells_in col) col.fact (code_kind code) a ≡ true) w.3
      (place_permitted (code_kind code) w.0 (omega arith) w.1 w.2 w.4))

  -- with a set of repairs that has none of the conflict's, and drops no locked need, the fact is missing at j as well
  module _ (R : ℕ → Bool) (none : (code : ℕ) → code < per_fact → (in_choice q code && R (code_number col.fact code)) ≡ false)
      (stands : (a : ℕ) → (cells_in col).locks a col.fact ≡ true → (cells_in col).needs a col.fact ≡ true → (repaired (cells_in col) R).needs a col.fact ≡ true) where
    module _ (k p : ℕ) (hk : k < kinds) (low : low_place i j k ≤ p) (high : p < high_place r i j k) (free : is_locked col k (r.step p) ≡ false) where
      unrepaired : chosen R col.fact k (r.step p) ≡ false
      unfolding chosen
      unrepaired =
          let a = r.step p in
          let fits : a < max_actions = place_low k p hk low high free in
          let number : number_of col.fact k a ≡ code_number col.fact (code_of k a) = omega arith in
          is_false _ (λ h.
          false≢true
          (sym (none (code_of k a) (omega arith))
          ∙ and_both (in_choice q (code_of k a)) _ (place_offered k p hk low high free) (ap R (sym number) ∙ and_right (ltb a max_actions) (R (number_of col.fact k a)) h)))

      under : repairable (repaired (cells_in col) R) col.fact k (r.step p) ≡ true
      under =
          repaired_repairable (cells_in col) R col.fact k (r.step p) hk
          ∙ and_both _ _ (place_repairable k p hk low high free) (ap not unrepaired)

    not_added : (m : ℕ) → i - 1 ≤ m → m < j → (repaired (cells_in col) R).adds (r.step m) col.fact ≡ false
    not_added m low high =
        not-true _ (sym (repairable_add (repaired (cells_in col) R) col.fact (r.step m)) ∙ under add_effect m (omega arith) low high refl)

    absent_first : (m : ℕ) → i ≡ m → state_at (repaired (cells_in col) R) r m col.fact ≡ false
    absent_first zero e =
        state_at_first (repaired (cells_in col) R) r col.fact
        ∙ sym (state_at_first (cells_with col s) r col.fact)
        ∙ absent_since col r s j i missing back 0 (omega arith) (omega arith)
    absent_first (suc m) e =
        subst (λ (n : ℕ). state_at (repaired (cells_in col) R) r n col.fact ≡ false) (add-one m)
        (next_deleted (repaired (cells_in col) R) r col.fact m
        (sym (repairable_delete (repaired (cells_in col) R) col.fact (r.step m)) ∙ under drop_delete m (omega arith) (omega arith) (omega arith) refl)
        (not_added m (omega arith) (omega (arith, back.within))))

    absent_there : state_at (repaired (cells_in col) R) r j col.fact ≡ false
    absent_there =
        carries (repaired (cells_in col) R) r col.fact false i j back.within (absent_first i refl)
        (λ k low high p. next_absent (repaired (cells_in col) R) r col.fact k p (not_added k (omega arith) high))

    -- a locked need stands, and one that is not locked is of the conflict
    still_needed : j < r.count → (cells_with col s).needs (r.step j) col.fact ≡ true → (repaired (cells_in col) R).needs (r.step j) col.fact ≡ true
    unfolding cells_in
    still_needed h n = pick (has col.locks (r.step j)) refl
      where
        pick : (b : Bool) → has col.locks (r.step j) ≡ b → (repaired (cells_in col) R).needs (r.step j) col.fact ≡ true
        pick true e = stands (r.step j) e (and_left ((cells_in col).needs (r.step j) col.fact) _ n)
        pick false e =
            and_left ((repaired (cells_in col) R).needs (r.step j) col.fact) (not ((cells_in col).locks (r.step j) col.fact))
            (sym (repairable_need (repaired (cells_in col) R) col.fact (r.step j)) ∙ under drop_need j (omega arith) (omega arith) (omega arith) e)

    not_right : Right (repaired (cells_in col) R) r col.fact → NeededAt col r s j → ⊥
    not_right right (by_step h n) = true≢false (sym (right.needed j h (still_needed h n)) ∙ absent_there)
    not_right right (by_goal e g) =
        true≢false
        (sym (right.wanted g) ∙ subst (λ (n : ℕ). state_at (repaired (cells_in col) R) r n col.fact ≡ false) e absent_there)

  -- Every list that keeps the fact right has one of the conflict's, whether or not it contains the candidate.
  conflict_meets : (l : List ℕ) → KeepsIn col (one r) l
      → (code : ℕ) × (code < per_fact) × (in_choice q code ≡ true) × (is_in l (code_number col.fact code) ≡ true)
  conflict_meets l keeps = pick (find_code (λ code. in_choice q code && R (code_number col.fact code)) per_fact)
    where
      R : ℕ → Bool
      R = is_in l

      pick : ((code : ℕ) × (code < per_fact) × ((in_choice q code && R (code_number col.fact code)) ≡ true))
          ⊎ ((code : ℕ) → code < per_fact → (in_choice q code && R (code_number col.fact code)) ≡ false)
          → (code : ℕ) × (code < per_fact) × (in_choice q code ≡ true) × (R (code_number col.fact code) ≡ true)
      pick (inl w) = (w.0, w.1, and_left _ _ w.2, and_right (in_choice q w.0) _ w.2)
      pick (inr none) =
          absurd (not_right R none (λ a locked. locked_stands (cells_in col) l keeps.permitted.each a col.fact locked) (keeps.right 0 (omega arith)) missing.needed)

  -- The conflict's repairs are those that 01 names.
  offered_named : (code : ℕ) → code < per_fact → in_choice q code ≡ true → Named col r s j code
  offered_named code h hq = let w = place_of code h hq in by_kind_lem (code_kind code) refl w.0 w.1 w.2 w.3 w.4
    where
      by_kind_lem : (k : ℕ) → code_kind code ≡ k → (p : ℕ) → low_place i j k ≤ p → p < high_place r i j k → r.step p ≡ code_action code
          → is_locked col k (r.step p) ≡ false → Named col r s j code
      by_kind_lem zero e p low high here free =
          let step : i ≡ p + 1 = omega arith in
          let same : code_of drop_delete (r.step p) ≡ code = omega arith in
          subst (Named col r s j) same (that_delete p (subst (LastDelete col r.step s j) step back))
      by_kind_lem (suc zero) e p low high here free =
          let same : code_of add_effect (r.step p) ≡ code = omega arith in
          subst (Named col r s j) same (add_between i p back (omega arith) high)
      by_kind_lem (suc (suc zero)) e p low high here free =
          let place : p ≡ j = omega arith in
          let same : code_of drop_need (r.step p) ≡ code = omega arith in
          subst (Named col r s j) (ap (λ n. code_of drop_need (r.step n)) (sym place) ∙ same)
          (need_at (omega arith) (subst (λ n. has col.locks (r.step n) ≡ false) place free))
      by_kind_lem (suc (suc (suc k))) e p low high here free = absurd (omega arith)

  named_offered : (code : ℕ) → Named col r s j code → in_choice q code ≡ true
  named_offered _ (need_at h free) = place_offered drop_need j (omega arith) (omega arith) (omega arith) free
  named_offered _ (that_delete p last) =
      let step : p + 1 ≡ i = last_unique col r s j (p + 1) i last back in
      place_offered drop_delete p (omega arith) (omega arith) (omega arith) refl
  named_offered _ (add_between k p last low high) =
      let step : k ≡ i = last_unique col r s j k i last back in
      place_offered add_effect p (omega arith) (omega arith) high refl

  is_conflict : ConflictAt col r s j q
  is_conflict = record {
    named = λ code h. (offered_named code h, named_offered code);
    conflicts = record {
      meets = conflict_meets;
      fresh = conflict_fresh;
      allowed = conflict_allowed;
    };
    empty = λ none l keeps. let m = conflict_meets l keeps in true≢false (sym m.2 ∙ none m.0 m.1);
  }

-- The sets that the code gathers make a conflict, once the locked needs are out.
module _ (col : Column) (r : Course) (s : Choice) (j i place end d a n m : ℕ) (formed : RunFormed col r) (missing : Missing col r s j)
    (back : LastDelete col r.step s j i) (first : place ≡ i - 1) (last : end ≡ min (j + 1) r.count) where
  pub gathered_conflict : ActionsOf r.step place i d → ActionsOf r.step place j a → ActionsOf r.step j end n → m ≡ removed n col.locks
      → ConflictAt col r s j (record { deletes = d; adds = a; needs = m })
  gathered_conflict hd ha hn hm = is_conflict col r s j i formed missing back (record { deletes = d; adds = a; needs = m }) parts
    where
      parts : (k : ℕ) → k < kinds → Offers col r.step k (low_place i j k) (high_place r i j k) (by_kind k d a m)
      parts zero h = actions_offers col r.step drop_delete (i - 1) i d (λ b. refl) (subst (λ (p : ℕ). ActionsOf r.step p i d) first hd)
      parts (suc zero) h = actions_offers col r.step add_effect (i - 1) j a (λ b. refl) (subst (λ (p : ℕ). ActionsOf r.step p j a) first ha)
      parts (suc (suc zero)) h =
          subst (Offers col r.step drop_need j (min (j + 1) r.count)) (sym hm)
          (needs_offer col r.step j (min (j + 1) r.count) n (subst (λ (p : ℕ). ActionsOf r.step j p n) last hn))
      parts (suc (suc (suc k))) h = absurd (omega arith)
