-- Laws of one fact's column with a candidate applied: what the masks say of its cells, by the kind of repair. Assumes nothing.
use mathlib.Core.Bool.{Bool, true, false, not, ◌&&◌, ◌||◌, false≢true}
use mathlib.Core.Path.{◌≡◌, refl, sym, ap, subst, ◌∙◌}
use Prim.Native.Nat.{ℕ, ◌+◌, ◌<◌, ◌≤◌}
use native.Mathlib.Omega.{arith}
use borrow.Author.Count.{below_none, below_more}
use borrow.Author.Tests.{not-true}
use Rattle.facts.specs.Sets.{has, joined, removed}
use Rattle.facts.proofs.Laws.{has_joined, has_removed}
use Rattle.table.specs.Sizes.{max_actions}
use Rattle.table.specs.Strips.{Course, Right, state_at}
use Rattle.table.specs.Repairs.{drop_delete, add_effect, drop_need}
use Rattle.table.proofs.FlagLaws.{and_left, and_right, and_both, is_false}
use Rattle.table.proofs.RunLaws.{state_at_first, state_at_next}
use Rattle.choices.proofs.MaskLaws.{chosen_has}
use Rattle.choices.specs.declared.Choice.{Choice}
use Rattle.search.specs.declared.narrow.Place.{Place}
use Rattle.search.specs.declared.Column.{Column}
use Rattle.search.specs.Columns.{cells_in}
use Rattle.search.specs.Gaps.{Gap, missing_at, nowhere, Noted, stays, moves}
use Rattle.search.specs.Searching.{cells_with, NeededAt, by_step, by_goal, Missing}

-- A flag that is not false is true.
not_false_true : (a : Bool) → (a ≡ false → ⊥) → a ≡ true
not_false_true true h = refl
not_false_true false h = absurd (h refl)

module _ (col : Column) (s : Choice) (a : ℕ) (ha : a < max_actions) where
  pub needs_mask : (cells_with col s).needs a col.fact ≡ has (removed col.needs s.needs) a
  unfolding cells_in
  needs_mask = rw (chosen_has col.fact s drop_need a (omega arith) ha, has_removed col.needs s.needs a)

  pub adds_mask : (cells_with col s).adds a col.fact ≡ has (joined col.adds s.adds) a
  unfolding cells_in
  adds_mask = rw (chosen_has col.fact s add_effect a (omega arith) ha, has_joined col.adds s.adds a)

  pub deletes_mask : (cells_with col s).deletes a col.fact ≡ has (removed col.deletes s.deletes) a
  unfolding cells_in
  deletes_mask = rw (chosen_has col.fact s drop_delete a (omega arith) ha, has_removed col.deletes s.deletes a)

-- ---- the walk along the run

-- Before place i: the state of the fact there.
pub record Walked (col : Column) (r : Course) (s : Choice) (present : Bool) (i : ℕ) : Type 0 where
  pub within : i ≤ r.count
  pub state : present ≡ state_at (cells_with col s) r i col.fact

-- The fact is missing at no place before i.
abbrev pub NoneBefore : Column → Course → Choice → ℕ → Type 0
NoneBefore col r s i = (j : ℕ) → j < i → Missing col r s j → ⊥

-- A flag that tells whether the fact is missing at place i.
pub record Tells (col : Column) (r : Course) (s : Choice) (i : ℕ) (missing : Bool) : Type 0 where
  pub there : missing ≡ true → Missing col r s i
  pub not_there : missing ≡ false → Missing col r s i → ⊥

module _ (col : Column) (r : Course) (s : Choice) where
  pub walked_none : (present : Bool) → present ≡ r.start col.fact → Walked col r s present 0
  walked_none present same = record { within = omega arith; state = same ∙ sym (state_at_first (cells_with col s) r col.fact) }

  pub none_first : NoneBefore col r s 0
  none_first = below_none (λ j. Missing col r s j → ⊥)

  pub none_next : (i : ℕ) (missing : Bool) → NoneBefore col r s i → Tells col r s i missing → missing ≡ false → NoneBefore col r s (i + 1)
  none_next i missing none tells h = below_more (λ j. Missing col r s j → ⊥) i none (tells.not_there h)

  -- Missing nowhere, the goal's place included: the fact is right.
  pub none_right : NoneBefore col r s (r.count + 1) → Right (cells_with col s) r col.fact
  none_right none = record {
    needed = λ j inside n. present j (λ e. none j (omega arith) (record { needed = by_step inside n; absent = e }));
    wanted = λ g. present r.count (λ e. none r.count (omega arith) (record { needed = by_goal refl g; absent = e }));
  }
    where
      present : (j : ℕ) → (state_at (cells_with col s) r j col.fact ≡ false → ⊥)
          → state_at (cells_with col s) r j col.fact ≡ true
      present j = not_false_true (state_at (cells_with col s) r j col.fact)

  module _ (present : Bool) (i : ℕ) (walked : Walked col r s present i) where
    -- needed here, as the flag says, while the fact is absent
    tells : (b : Bool) → (b ≡ true → NeededAt col r s i) → (NeededAt col r s i → b ≡ true) → Tells col r s i (b && not present)
    tells b needed holds = record {
      there = λ h. record {
        needed = needed (and_left b (not present) h);
        absent = sym walked.state ∙ not-true present (and_right b (not present) h);
      };
      not_there = λ h m.
          false≢true (sym h ∙ and_both b (not present) (holds m.needed) (ap not (walked.state ∙ m.absent)));
    }

    module _ (inside : i < r.count) where
      pub tells_step : (need : Bool) → need ≡ (cells_with col s).needs (r.step i) col.fact → Tells col r s i (need && not present)
      tells_step need same = tells need (λ h. by_step inside (sym same ∙ h)) back
        where
          back : NeededAt col r s i → need ≡ true
          back (by_step _ n) = same ∙ n
          back (by_goal e _) = absurd (omega arith)

      pub walked_more : (delete add : Bool) → delete ≡ (cells_with col s).deletes (r.step i) col.fact
          → add ≡ (cells_with col s).adds (r.step i) col.fact → Walked col r s (present && not delete || add) (i + 1)
      walked_more delete add d a = record {
        within = omega arith;
        state = rw (walked.state, d, a) (sym (state_at_next (cells_with col s) r i col.fact));
      }

    pub tells_goal : (goal : Bool) → goal ≡ r.goal col.fact → i ≡ r.count → Tells col r s i (goal && not present)
    tells_goal goal same last = tells goal (λ h. by_goal last (sym same ∙ h)) back
      where
        back : NeededAt col r s i → goal ≡ true
        back (by_step h _) = absurd (omega arith)
        back (by_goal _ g) = same ∙ g

-- ---- the narrowest place so far

-- None before place i, and then more than one repair counts as left; or one where the fact is missing.
pub data PlaceSo (col : Column) (r : Course) (s : Choice) (best : Place) (i : ℕ) : Type 0 where
  no_place : best.at ≡ r.count + 1 → 1 < best.left → NoneBefore col r s i → PlaceSo col r s best i
  a_place : best.at ≤ r.count → Missing col r s best.at → PlaceSo col r s best i

module _ (col : Column) (r : Course) (s : Choice) where
  pub place_next : (best next : Place) (i : ℕ) (missing : Bool) → i ≤ r.count → Tells col r s i missing → PlaceSo col r s best i
      → Noted r.count best i missing next → PlaceSo col r s next (i + 1)
  place_next best next i missing within tells so (moves h e) =
      let at : next.at ≡ i = e in
      a_place (omega arith) (subst (Missing col r s) (sym at) (tells.there h))
  place_next best next i missing within tells (a_place low m) (stays e chosen) =
      subst (λ p. PlaceSo col r s p (i + 1)) (sym e) (a_place low m)
  place_next best next i missing within tells (no_place none more clear) (stays e chosen) =
      subst (λ p. PlaceSo col r s p (i + 1)) (sym e)
      (no_place none more (none_next col r s i missing clear tells (is_false missing (λ h. absurd (omega (arith, chosen h))))))

  -- Few repairs left: there is a place. All places passed: there is one, or the fact is right.
  pub place_few : (best : Place) (i : ℕ) → PlaceSo col r s best i → best.left ≤ 1 → Gap col r s best.at
  place_few best i (no_place none more clear) few = absurd (omega arith)
  place_few best i (a_place low m) few = missing_at low m

  pub place_end : (best : Place) (i : ℕ) → i ≡ r.count + 1 → PlaceSo col r s best i → Gap col r s best.at
  place_end best i all (no_place none more clear) = nowhere none (none_right col r s (subst (NoneBefore col r s) all clear))
  place_end best i all (a_place low m) = missing_at low m
