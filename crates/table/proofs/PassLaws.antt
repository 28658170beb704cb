-- The passes over a task's arrays: what is asked of all actions and of the unused ones, and of all steps and of the unused ones, comes to what
-- specs/Tasks asks of each. Assumes nothing.
use mathlib.Core.Bool.{Bool, true, false, ◌&&◌, ◌||◌, and-true}
use mathlib.Core.Path.{◌≡◌, sym, ap, ◌∙◌}
use Prim.Native.Nat.{ℕ, ◌+◌, ◌*◌, ◌/◌, ◌%◌, ◌≤◌, ◌<◌}
use native.Mathlib.Omega.{arith}
use lib.Bits.{bit_or}
use lib.Dec.{eqb, ltb}
use lib.ListN.{get_or}
use borrow.Author.Tests.{lt-ltb, le-ltb, eq-eqb, ne_eqb}
use Rattle.facts.specs.Sets.{joined, within}
use Rattle.facts.proofs.Laws.{within_joined}
use Rattle.table.specs.Counting.{every_below, every_from}
use Rattle.table.specs.Passes.{sets_within, step_below}
use Rattle.table.specs.Sizes.{max_actions, max_runs, max_steps, all_steps}
use Rattle.table.specs.Tasks.{count_of, mask_formed, action_formed, step_fits, step_formed}
use Rattle.table.specs.declared.Table.{Table}
use Rattle.table.specs.declared.Task.{Task}
use Rattle.table.proofs.CountingLaws.{every_from_both, every_from_same, every_from_parts, every_below_parts}
use Rattle.table.proofs.FlagLaws.{and_swap, by_order}

below_one : (m : ℕ) → ltb m 1 ≡ eqb m 0
below_one m =
    by_order m 1 (λ l. lt-ltb m 1 l ∙ sym (eq-eqb m 0 (omega arith))) (λ l. le-ltb m 1 l ∙ sym (ne_eqb m 0 (λ e. omega arith)))

within_none : (m : ℕ) → within m 0 ≡ eqb m 0
unfolding within
within_none = below_one

-- the three sets of an action, joined to what is there
pub joined_sets : (every x y z n : ℕ) → within (bit_or every (bit_or (bit_or x y) z)) n ≡ (within every n && (within x n && within y n && within z n))
unfolding joined
joined_sets every x y z n =
    within_joined every (bit_or (bit_or x y) z) n ∙ ap (λ b. within every n && b) (within_joined (bit_or x y) z n ∙ ap (λ b. b && within z n) (within_joined x y n))

-- what is joined is empty exactly if each of the two is
pub joined_none : (every x : ℕ) → eqb (bit_or every x) 0 ≡ (eqb every 0 && eqb x 0)
unfolding joined
joined_none every x = sym (within_none (bit_or every x)) ∙ within_joined every x 0 ∙ (λ j. within_none every j && within_none x j)

-- one test of three sets, and of each by itself
each_set : (l w₁ w₂ w₃ z₁ z₂ z₃ : Bool)
    → (w₁ && w₂ && w₃ && (l || z₁ && z₂ && z₃)) ≡ (w₁ && (l || z₁) && (w₂ && (l || z₂)) && (w₃ && (l || z₃)))
each_set true w₁ w₂ w₃ z₁ z₂ z₃ = rw (and-true w₁, and-true w₂, and-true w₃, and-true (w₁ && w₂ && w₃))
each_set false w₁ w₂ w₃ z₁ z₂ z₃ = and_swap (w₁ && w₂) w₃ (z₁ && z₂) z₃ ∙ ap (λ b. b && (w₃ && z₃)) (and_swap w₁ w₂ z₁ z₂)

pub actions_pass : (t : Table)
    → (every_from (sets_within t.needs t.adds t.deletes t.facts) 0 max_actions && every_from (sets_within t.needs t.adds t.deletes 0) t.actions max_actions)
    ≡ every_below (action_formed t) max_actions
unfolding sets_within action_formed mask_formed
actions_pass t =
    every_from_both (sets_within t.needs t.adds t.deletes t.facts) (sets_within t.needs t.adds t.deletes 0) (action_formed t) t.actions max_actions
    (λ a.
    let n = get_or t.needs a 0 in
    let e = get_or t.adds a 0 in
    let d = get_or t.deletes a 0 in
    (λ j. within n t.facts && within e t.facts && within d t.facts && (ltb a t.actions || within_none n j && within_none e j && within_none d j)) ∙
    each_set (ltb a t.actions) (within n t.facts) (within e t.facts) (within d t.facts) (eqb n 0) (eqb e 0) (eqb d 0))

-- ---- the steps of one run, and of the unused ones

module _ (t : Task) (i : ℕ) (high : count_of t.runs i ≤ max_steps) where
  -- those that are used, those that are not, and both together
  used_steps : every_from (step_below t.runs.steps t.table.actions) (max_steps * i) (max_steps * i + count_of t.runs i) ≡
      every_from (step_formed t) (max_steps * i) (max_steps * i + count_of t.runs i)
  unfolding step_below step_formed step_fits
  used_steps =
      every_from_same (step_below t.runs.steps t.table.actions) (step_formed t) (max_steps * i) (max_steps * i + count_of t.runs i)
      (λ p low l.
      let run : p / max_steps ≡ i = omega arith in
      let step : p % max_steps < count_of t.runs i = omega arith in
      rw (run, lt-ltb (p % max_steps) (count_of t.runs i) step))

  unused_steps : every_from (step_below t.runs.steps 1) (max_steps * i + count_of t.runs i) (max_steps * i + max_steps) ≡
      every_from (step_formed t) (max_steps * i + count_of t.runs i) (max_steps * i + max_steps)
  unfolding step_below step_formed step_fits
  unused_steps =
      every_from_same (step_below t.runs.steps 1) (step_formed t) (max_steps * i + count_of t.runs i) (max_steps * i + max_steps)
      (λ p low l.
      let run : p / max_steps ≡ i = omega arith in
      let step : count_of t.runs i ≤ p % max_steps = omega arith in
      rw (run, le-ltb (p % max_steps) (count_of t.runs i) step) (below_one (get_or t.runs.steps p 0)))

  pub run_pass : {used unused good : Bool}
      → used ≡ every_from (step_below t.runs.steps t.table.actions) (max_steps * i) (max_steps * i + count_of t.runs i)
      → unused ≡ every_from (step_below t.runs.steps 1) (max_steps * i + count_of t.runs i) (max_steps * i + max_steps)
      → good ≡ every_below (step_formed t) (max_steps * i) → (good && (used && unused)) ≡ every_below (step_formed t) (max_steps * (i + 1))
  run_pass {used} {unused} {good} u v g =
      let next : max_steps * i + max_steps ≡ max_steps * (i + 1) = omega arith in
      (λ j. g j && ((u ∙ used_steps) j && (v ∙ unused_steps) j))
      ∙ ap (λ b. every_below (step_formed t) (max_steps * i) && b)
      (every_from_parts (step_formed t) (max_steps * i) (max_steps * i + count_of t.runs i) (max_steps * i + max_steps) (omega arith) (omega arith))
      ∙ every_below_parts (step_formed t) (max_steps * i) (max_steps * i + max_steps) (omega arith)
      ∙ ap (every_below (step_formed t)) next

-- the runs from `many` on have no steps
pub rest_pass : (t : Task) → t.runs.many ≤ max_runs → ((i : ℕ) → t.runs.many ≤ i → i < max_runs → count_of t.runs i ≡ 0) → {rest good : Bool}
    → rest ≡ every_from (step_below t.runs.steps 1) (max_steps * t.runs.many) all_steps
    → good ≡ every_below (step_formed t) (max_steps * t.runs.many) → (good && rest) ≡ every_below (step_formed t) all_steps
unfolding step_below step_formed step_fits
rest_pass t few none {rest} {good} r g =
    (λ j. g j && r j)
    ∙ ap (λ b. every_below (step_formed t) (max_steps * t.runs.many) && b)
    (every_from_same (step_below t.runs.steps 1) (step_formed t) (max_steps * t.runs.many) all_steps
    (λ p low l.
    rw (none (p / max_steps) (omega arith) (omega arith), le-ltb (p % max_steps) 0 (omega arith)) (below_one (get_or t.runs.steps p 0))))
    ∙ every_below_parts (step_formed t) (max_steps * t.runs.many) all_steps (omega arith)
