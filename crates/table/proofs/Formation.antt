-- When a task is well formed: the test of specs/Tasks and its record of named parts say the same, and what the proofs read off the record.
-- Assumes nothing.
use mathlib.Core.Bool.{Bool, true, false, not, ◌&&◌, ◌||◌, cond, true≢false}
use mathlib.Core.Path.{◌≡◌, refl, sym, ap, ◌∙◌}
use Prim.Native.Nat.{ℕ, ◌+◌, ◌*◌, ◌/◌, ◌%◌, ◌<◌, ◌≤◌}
use native.Mathlib.Omega.{arith}
use lib.Dec.{eqb, leb, ltb}
use lib.ListN.{get_or, get_or-eq_default}
use borrow.Author.Tests.{ltb-true, leb-true, eqb-true, lt-ltb, le-ltb, le-leb, eq-eqb, not-true, not-false}
use Rattle.facts.specs.Sets.{has, removed, within}
use Rattle.facts.proofs.Laws.{has_empty, has_removed, same_sets, within_has, has_within}
use Rattle.table.specs.Counting.{every_below}
use Rattle.table.specs.Passes.{CountsFit}
use Rattle.table.specs.Sizes.{max_facts, max_actions, max_runs, max_steps, all_steps, max_limit}
use Rattle.table.specs.Repairs.{by_kind, drop_delete, add_effect, drop_need}
use Rattle.table.specs.Tasks.{cells_of, mask_of, start_of, goal_of, count_of, step_of, sizes_formed, mask_formed, action_formed, locks_formed, run_fits, run_formed, step_fits, step_formed, formed, Shaped, WellFormed}
use Rattle.table.specs.declared.Table.{Table}
use Rattle.table.specs.declared.Task.{Task}
use Rattle.table.proofs.CountingLaws.{every_below_all, all_every_below}
use Rattle.table.proofs.FlagLaws.{both, and_both, or_right, or_other, by_order}

-- ---- one law for the three masks of an action

pub by_kind_all {ℓ} : {A : Type ℓ} (P : A → Type 0) (k : ℕ) {d a n : A} → P d → P a → P n → P (by_kind k d a n)
by_kind_all {A} P k pd pa pn = pick (eqb k drop_delete) pd (pick (eqb k add_effect) pa pn)
  where
    pick : (t : Bool) {x y : A} → P x → P y → P (cond t x y)
    pick true p q = p
    pick false p q = q

-- what 01 asks of one mask of action a: "no set has a fact at or above F", "everything for unused actions .. is zero"
MaskIn : Table → ℕ → ℕ → Type 0
MaskIn t a m = ((f : ℕ) → t.facts ≤ f → has m f ≡ false) × (t.actions ≤ a → m ≡ 0)

mask_in : (t : Table) (a m : ℕ) → mask_formed t a m ≡ true → MaskIn t a m
unfolding mask_formed MaskIn
mask_in t a m h =
    let p = both (within m t.facts) (ltb a t.actions || eqb m 0) h in
    (λ f l. within_has m t.facts f p.0 l, λ l. eqb-true m 0 (or_other p.1 (le-ltb a t.actions l)))

-- past the declared length of the arrays every mask is empty
mask_past : (t : Task) → Shaped t → (k a : ℕ) → max_actions ≤ a → MaskIn t.table a (mask_of t.table k a)
unfolding MaskIn
mask_past t s k a h =
    let e : mask_of t.table k a ≡ 0 =
    by_kind_all (λ (m : ℕ). m ≡ 0) k
    (get_or-eq_default t.table.deletes 0 (omega (arith, s.deletes)))
    (get_or-eq_default t.table.adds 0 (omega (arith, s.adds)))
    (get_or-eq_default t.table.needs 0 (omega (arith, s.needs))) in
    (λ f l. rw e (has_empty f), λ l. e)

-- each of an action's three masks is formed
mask_formed_lem : (t : Table) (k a : ℕ) → action_formed t a ≡ true → mask_formed t a (mask_of t k a) ≡ true
unfolding action_formed
mask_formed_lem t k a h =
    let needs : Bool = mask_formed t a (get_or t.needs a 0) in
    let adds : Bool = mask_formed t a (get_or t.adds a 0) in
    let deletes : Bool = mask_formed t a (get_or t.deletes a 0) in
    let p = both (needs && adds) deletes h in
    let q = both needs adds p.0 in
    by_kind_all (λ (m : ℕ). mask_formed t a m ≡ true) k p.1 q.1 q.0

masks_in : (t : Task) → Shaped t → every_below (action_formed t.table) max_actions ≡ true → (k a : ℕ) → MaskIn t.table a (mask_of t.table k a)
masks_in t s h k a =
    by_order a max_actions
    (λ l. mask_in t.table a (mask_of t.table k a) (mask_formed_lem t.table k a (every_below_all (action_formed t.table) max_actions h a l)))
    (mask_past t s k a)

-- ---- locks

-- nothing is left of a without b exactly if each number of a is in b
none_left : (a b : ℕ) → eqb (removed a b) 0 ≡ true → (f : ℕ) → has a f ≡ true → has b f ≡ true
none_left a b h f e = pick (has b f) (sym (has_removed a b f) ∙ ap (λ m. has m f) (eqb-true (removed a b) 0 h) ∙ has_empty f)
  where
    pick : (x : Bool) → (has a f && not x) ≡ false → x ≡ true
    pick true g = refl
    pick false g = absurd (true≢false (rw e at g))

left_none : (a b : ℕ) → ((f : ℕ) → has a f ≡ true → has b f ≡ true) → eqb (removed a b) 0 ≡ true
left_none a b h = eq-eqb (removed a b) 0 (same_sets (removed a b) 0 (λ f. has_removed a b f ∙ pick (has a f) (has b f) (h f) ∙ sym (has_empty f)))
  where
    pick : (x y : Bool) → (x ≡ true → y ≡ true) → (x && not y) ≡ false
    pick true y g = rw (g refl)
    pick false y g = refl

locks_in : (t : Task) → Shaped t → every_below (locks_formed t.table.needs t.table.locks) max_actions ≡ true → (a f : ℕ)
    → (cells_of t.table).locks a f ≡ true → (cells_of t.table).needs a f ≡ true
unfolding cells_of locks_formed
locks_in t s h a f =
    by_order a max_actions
    (λ l. none_left (get_or t.table.locks a 0) (get_or t.table.needs a 0) (every_below_all (locks_formed t.table.needs t.table.locks) max_actions h a l) f)
    (λ l e.
    let past : get_or t.table.locks a 0 ≡ 0 = get_or-eq_default t.table.locks 0 (omega (arith, s.locks)) in
    absurd (true≢false (sym e ∙ ap (λ m. has m f) past ∙ has_empty f)))

-- ---- the test gives the named parts

pub sizes_in : (t : Task)
    → sizes_formed t ≡ true
    → (0 < t.table.facts)
    × (t.table.facts ≤ max_facts)
    × (0 < t.table.actions)
    × (t.table.actions ≤ max_actions)
    × (t.table.limit ≤ max_limit)
    × (0 < t.runs.many)
    × (t.runs.many ≤ max_runs)
unfolding sizes_formed
sizes_in t h =
    let F = t.table.facts in
    let A = t.table.actions in
    let L = t.table.limit in
    let n = t.runs.many in
    let p = both (ltb 0 F && leb F max_facts && (ltb 0 A && leb A max_actions)) (leb L max_limit && (ltb 0 n && leb n max_runs)) h in
    let q = both (ltb 0 F && leb F max_facts) (ltb 0 A && leb A max_actions) p.0 in
    let f = both (ltb 0 F) (leb F max_facts) q.0 in
    let a = both (ltb 0 A) (leb A max_actions) q.1 in
    let r = both (leb L max_limit) (ltb 0 n && leb n max_runs) p.1 in
    let m = both (ltb 0 n) (leb n max_runs) r.1 in (
      ltb-true 0 F f.0,
      leb-true F max_facts f.1,
      ltb-true 0 A a.0,
      leb-true A max_actions a.1,
      leb-true L max_limit r.0,
      ltb-true 0 n m.0,
      leb-true n max_runs m.1,
    )

-- the same of run i: "no set has a fact at or above F", at most 64 steps, "Everything for unused runs is zero"
RunIn : Task → ℕ → Type 0
RunIn t i =
    ((f : ℕ) → t.table.facts ≤ f → has (start_of t.runs i) f ≡ false)
    × ((f : ℕ) → t.table.facts ≤ f → has (goal_of t.runs i) f ≡ false)
    × (count_of t.runs i ≤ max_steps)
    × (t.runs.many ≤ i → (start_of t.runs i ≡ 0) × (goal_of t.runs i ≡ 0) × (count_of t.runs i ≡ 0))

run_in : (t : Task) (i : ℕ) → run_formed t i ≡ true → RunIn t i
unfolding run_formed run_fits RunIn
run_in t i h =
    let F = t.table.facts in
    let start = start_of t.runs i in
    let goal = goal_of t.runs i in
    let count = count_of t.runs i in
    let p = both (within start F && within goal F && leb count max_steps) (ltb i t.runs.many || (eqb start 0 && eqb goal 0 && eqb count 0)) h in
    let q = both (within start F && within goal F) (leb count max_steps) p.0 in
    let s = both (within start F) (within goal F) q.0 in (
      λ f. within_has start F f s.0,
      λ f. within_has goal F f s.1,
      leb-true count max_steps q.1,
      λ l.
          let z = both (eqb start 0 && eqb goal 0) (eqb count 0) (or_other p.1 (le-ltb i t.runs.many l)) in
          let y = both (eqb start 0) (eqb goal 0) z.0 in
          (eqb-true start 0 y.0, eqb-true goal 0 y.1, eqb-true count 0 z.1),
    )

-- what the test says of the runs' numbers of steps
pub counts_fit : (t : Task) → every_below (run_formed t) max_runs ≡ true → CountsFit t.runs
unfolding RunIn
counts_fit t h =
    let run : (i : ℕ) → i < max_runs → RunIn t i = λ i l. run_in t i (every_below_all (run_formed t) max_runs h i l) in
    record { high = λ i l. (run i l).2; none = λ i past l. ((run i l).3 past).2 }

-- past the declared length of the arrays there is no run
runs_in : (t : Task) → Shaped t → every_below (run_formed t) max_runs ≡ true → (i : ℕ) → RunIn t i
unfolding RunIn
runs_in t s h i =
    by_order i max_runs (λ l. run_in t i (every_below_all (run_formed t) max_runs h i l)) (λ l.
    let start : start_of t.runs i ≡ 0 = get_or-eq_default t.runs.starts 0 (omega (arith, s.starts)) in
    let goal : goal_of t.runs i ≡ 0 = get_or-eq_default t.runs.goals 0 (omega (arith, s.goals)) in
    let count : count_of t.runs i ≡ 0 = get_or-eq_default t.runs.counts 0 (omega (arith, s.counts)) in
    (λ f k. rw start (has_empty f), λ f k. rw goal (has_empty f), omega arith, λ k. (start, goal, count)))

-- the same of step j of run i: "steps are below A", "everything for unused .. steps is zero"
StepIn : Task → ℕ → ℕ → Type 0
StepIn t i j =
    (j < count_of t.runs i → step_of t.runs i j < t.table.actions) × (count_of t.runs i ≤ j → step_of t.runs i j ≡ 0)

step_in_lem : (t : Task) (i j : ℕ) → j < max_steps → step_formed t (max_steps * i + j) ≡ true → StepIn t i j
unfolding step_formed step_fits StepIn
step_in_lem t i j small h =
    let run : (max_steps * i + j) / max_steps ≡ i = omega arith in
    let step : (max_steps * i + j) % max_steps ≡ j = omega arith in
    let told = rw (run, step) at h in (
      λ l. ltb-true (step_of t.runs i j) t.table.actions (rw (lt-ltb j (count_of t.runs i) l) at told),
      λ l. eqb-true (step_of t.runs i j) 0 (rw (le-ltb j (count_of t.runs i) l) at told),
    )

steps_in : (t : Task) → Shaped t → every_below (step_formed t) all_steps ≡ true → (i j : ℕ) → j < max_steps → StepIn t i j
unfolding StepIn
steps_in t s h i j small =
    by_order i max_runs
    (λ l. step_in_lem t i j small (every_below_all (step_formed t) all_steps h (max_steps * i + j) (omega arith)))
    (λ l.
    let e : step_of t.runs i j ≡ 0 = get_or-eq_default t.runs.steps 0 (omega (arith, s.steps)) in
    let past : count_of t.runs i ≡ 0 = get_or-eq_default t.runs.counts 0 (omega (arith, s.counts)) in
    (λ k. absurd (omega arith), λ k. e))

-- the five parts of the test
parts : (t : Task)
    → formed t ≡ true
    → (sizes_formed t ≡ true)
    × (every_below (run_formed t) max_runs ≡ true)
    × (every_below (action_formed t.table) max_actions ≡ true)
    × (every_below (locks_formed t.table.needs t.table.locks) max_actions ≡ true)
    × (every_below (step_formed t) all_steps ≡ true)
unfolding formed
parts t h =
    let runs = every_below (run_formed t) max_runs in
    let actions = every_below (action_formed t.table) max_actions in
    let locks = every_below (locks_formed t.table.needs t.table.locks) max_actions in
    let p = both (sizes_formed t && runs && actions && locks) (every_below (step_formed t) all_steps) h in
    let o = both (sizes_formed t && runs && actions) locks p.0 in
    let q = both (sizes_formed t && runs) actions o.0 in
    let r = both (sizes_formed t) runs q.0 in
    (r.0, r.1, q.1, o.1, p.1)

pub formed_well : (t : Task) → Shaped t → formed t ≡ true → WellFormed t
unfolding MaskIn RunIn StepIn
formed_well t s h =
    let p = parts t h in
    let sizes = sizes_in t p.0 in
    let run = runs_in t s p.1 in
    let step = steps_in t s p.4 in
    record {
      shaped = s;
      facts_low = sizes.0;
      facts_high = sizes.1;
      actions_low = sizes.2;
      actions_high = sizes.3;
      limit_high = sizes.4;
      many_low = sizes.5;
      many_high = sizes.6;
      count_high = λ i. (run i).2;
      inside = λ k a. (masks_in t s p.2 k a).0;
      locks_needs = locks_in t s p.3;
      start_inside = λ i. (run i).0;
      goal_inside = λ i. (run i).1;
      steps_below = λ i j l. (step i j (omega (arith, (run i).2))).0 l;
      actions_unused = λ k a. (masks_in t s p.2 k a).1;
      start_unused = λ i l. ((run i).3 l).0;
      goal_unused = λ i l. ((run i).3 l).1;
      count_unused = λ i l. ((run i).3 l).2;
      steps_unused = λ i j l small. (step i j small).1 l;
    }

-- ---- what the proofs read off the record

-- every step, used or not, is an action of the task
pub step_below : (t : Task) → WellFormed t → (i j : ℕ) → j < max_steps → step_of t.runs i j < t.table.actions
step_below t w i j small =
    by_order j (count_of t.runs i) (w.steps_below i j) (λ l.
    let e : step_of t.runs i j ≡ 0 = w.steps_unused i j l small in
    omega (arith, w.actions_low))

pub step_lt : (t : Task) → WellFormed t → (i j : ℕ) → j < max_steps → step_of t.runs i j < max_actions
step_lt t w i j small = omega (arith, step_below t w i j small, w.actions_high)

-- a lock is on a need, and so of a fact and an action of the task
pub locks_inside : (t : Task) → WellFormed t → (a f : ℕ) → t.table.facts ≤ f → has (get_or t.table.locks a 0) f ≡ false
unfolding cells_of
locks_inside t w a f h = pick (has (get_or t.table.locks a 0) f) (w.locks_needs a f)
  where
    pick : (b : Bool) → (b ≡ true → has (get_or t.table.needs a 0) f ≡ true) → b ≡ false
    pick true g = absurd (true≢false (sym (g refl) ∙ w.inside drop_need a f h))
    pick false g = refl

pub locks_unused : (t : Task) → WellFormed t → (a : ℕ) → t.table.actions ≤ a → get_or t.table.locks a 0 ≡ 0
unfolding cells_of
locks_unused t w a h = same_sets (get_or t.table.locks a 0) 0 (λ f. pick f (has (get_or t.table.locks a 0) f) (w.locks_needs a f) ∙ sym (has_empty f))
  where
    pick : (f : ℕ) (b : Bool) → (b ≡ true → has (get_or t.table.needs a 0) f ≡ true) → b ≡ false
    pick f true g = absurd (true≢false (sym (g refl) ∙ ap (λ m. has m f) (w.actions_unused drop_need a h) ∙ has_empty f))
    pick f false g = refl

-- ---- the named parts give the test

unused_or : (a n m : ℕ) → (n ≤ a → m ≡ 0) → (ltb a n || eqb m 0) ≡ true
unused_or a n m h = by_order a n (λ l. rw (lt-ltb a n l)) (λ l. or_right (ltb a n) _ (eq-eqb m 0 (h l)))

run_formed_lem : (t : Task) → WellFormed t → (i : ℕ) → run_formed t i ≡ true
unfolding run_formed run_fits
run_formed_lem t w i =
    and_both _ _
    (and_both _ _
    (and_both _ _ (has_within (start_of t.runs i) t.table.facts (w.start_inside i)) (has_within (goal_of t.runs i) t.table.facts (w.goal_inside i)))
    (le-leb (count_of t.runs i) max_steps (w.count_high i)))
    (by_order i t.runs.many (λ l. rw (lt-ltb i t.runs.many l)) (λ l.
    or_right (ltb i t.runs.many) _
    (and_both _ _ (and_both _ _ (eq-eqb (start_of t.runs i) 0 (w.start_unused i l)) (eq-eqb (goal_of t.runs i) 0 (w.goal_unused i l)))
    (eq-eqb (count_of t.runs i) 0 (w.count_unused i l)))))

step_formed_lem : (t : Task) → WellFormed t → (p : ℕ) → step_formed t p ≡ true
unfolding step_formed step_fits
step_formed_lem t w p =
    let i = p / max_steps in
    let j = p % max_steps in
    let place : max_steps * i + j ≡ p = omega arith in
    let at : step_of t.runs i j ≡ get_or t.runs.steps p 0 = ap (λ (q : ℕ). get_or t.runs.steps q 0) place in
    by_order j (count_of t.runs i)
    (λ l. rw (lt-ltb j (count_of t.runs i) l) (rw at at (lt-ltb (step_of t.runs i j) t.table.actions (w.steps_below i j l))))
    (λ l. rw (le-ltb j (count_of t.runs i) l) (eq-eqb (get_or t.runs.steps p 0) 0 (sym at ∙ w.steps_unused i j l (omega arith))))

pub well_formed : (t : Task) → WellFormed t → formed t ≡ true
unfolding formed sizes_formed action_formed mask_formed locks_formed cells_of
well_formed t w =
    let F = t.table.facts in
    let A = t.table.actions in
    let mask : (k a : ℕ) → mask_formed t.table a (mask_of t.table k a) ≡ true =
    λ k a. and_both _ _ (has_within (mask_of t.table k a) F (w.inside k a)) (unused_or a A (mask_of t.table k a) (w.actions_unused k a)) in
    and_both _ _
    (and_both _ _
    (and_both _ _
    (and_both _ _
    (and_both _ _
    (and_both _ _ (and_both _ _ (lt-ltb 0 F w.facts_low) (le-leb F max_facts w.facts_high)) (and_both _ _ (lt-ltb 0 A w.actions_low) (le-leb A max_actions w.actions_high)))
    (and_both _ _ (le-leb t.table.limit max_limit w.limit_high) (and_both _ _ (lt-ltb 0 t.runs.many w.many_low) (le-leb t.runs.many max_runs w.many_high))))
    (all_every_below (run_formed t) max_runs (λ i l. run_formed_lem t w i)))
    (all_every_below (action_formed t.table) max_actions (λ a l. and_both _ _ (and_both _ _ (mask drop_need a) (mask add_effect a)) (mask drop_delete a))))
    (all_every_below (locks_formed t.table.needs t.table.locks) max_actions
    (λ a l. left_none (get_or t.table.locks a 0) (get_or t.table.needs a 0) (w.locks_needs a))))
    (all_every_below (step_formed t) all_steps (λ p l. step_formed_lem t w p))

-- ---- what a caller knows after `if !is_formed(t) { return .. }`: past it, and in it

pub told_formed : (t : Task) {r : Bool} → Shaped t → r ≡ formed t → not r ≡ false → WellFormed t
told_formed t {r} s e h = formed_well t s (sym e ∙ not-false r h)

pub told_unformed : (t : Task) {r : Bool} → r ≡ formed t → not r ≡ true → formed t ≡ false
told_unformed t {r} e h = sym e ∙ not-true r h
