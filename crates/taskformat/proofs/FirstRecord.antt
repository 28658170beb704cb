-- The first record: the sizes, and what has been seen after them. Assumes nothing.
use mathlib.Core.Bool.{Bool, true, false, cond, ◌&&◌, and-false, true≢false}
use mathlib.Core.List.{List, [], ◌∷◌}
use mathlib.Core.Path.{◌≡◌, refl, sym, ap, ◌∙◌}
use Prim.Native.Nat.{ℕ, zero, suc, ◌+◌, ◌*◌, ◌/◌, ◌%◌, ◌<◌, ◌≤◌}
use native.Mathlib.Omega.{arith}
use lib.Dec.{eqb, leb, ltb}
use lib.ListN.{get_or, replicate}
use borrow.Author.Tests.{eqb-true, eq-eqb, leb-true, ltb-true, not-false}
use Rattle.facts.specs.Sets.{has}
use Rattle.facts.proofs.Laws.{has_empty}
use Rattle.table.specs.Sizes.{max_facts, max_actions, max_runs, max_steps, all_steps, max_limit}
use Rattle.table.specs.Lists.{piece}
use Rattle.table.specs.Tasks.{start_of, goal_of, count_of, cells_of, mask_of, WellFormed, no_task}
use Rattle.table.proofs.FlagLaws.{both}
use Rattle.table.proofs.Formation.{by_kind_all}
use Rattle.table.specs.declared.Task.{Task}
use Rattle.taskformat.specs.Format.{sizes_kind, start_kind, need_kind, add_kind, delete_kind}
use Rattle.taskformat.specs.Reading.{byte_room, Seen, nothing_seen, kind_at, byte_at, body_at, misplaced, sizes_wrong, table_after, runs_after, seen_after}
use Rattle.taskformat.proofs.Ranks.{slots, rank, run_at_rank, kind_at_rank, piece_at, cell_set, fact_piece, cell_piece, step_piece, run_piece, sizes_once, step_here, run_here, no_step, no_run}
use Rattle.taskformat.proofs.Families.{Family, of_none, of_sizes, of_run, of_fact, of_cell, of_step, family}
use Rattle.taskformat.proofs.OneMore.{task_after}
use Rattle.taskformat.proofs.Clear.{Clear}
use Rattle.taskformat.proofs.PositionLaws.{order}
use Rattle.taskformat.proofs.Standing.{Standing, last_rank}

pub first_kind : (k : ℕ) → misplaced nothing_seen k ≡ false → k ≡ sizes_kind
unfolding misplaced
first_kind k e = eqb-true k sizes_kind (not-false (eqb k sizes_kind) e)

sizes_parts : (f a l : ℕ) → sizes_wrong f a l ≡ false → (0 < f) × (f ≤ max_facts) × (0 < a) × (a ≤ max_actions) × (l ≤ max_limit)
unfolding sizes_wrong
sizes_parts f a l e =
    let right = not-false (ltb 0 f && leb f max_facts && (ltb 0 a && leb a max_actions) && leb l max_limit) e in
    let parts = both (ltb 0 f && leb f max_facts && (ltb 0 a && leb a max_actions)) (leb l max_limit) right in
    let halves = both (ltb 0 f && leb f max_facts) (ltb 0 a && leb a max_actions) parts.0 in
    let facts = both (ltb 0 f) (leb f max_facts) halves.0 in
    let actions = both (ltb 0 a) (leb a max_actions) halves.1 in (
      ltb-true 0 f facts.0,
      leb-true f max_facts facts.1,
      ltb-true 0 a actions.0,
      leb-true a max_actions actions.1,
      leb-true l max_limit parts.1,
    )

-- What the sizes alone give: a task with nothing in its sets and one run, which has no steps.
unfoldable pub bare_task : ℕ → ℕ → ℕ → Task
bare_task f a l = task_after no_task sizes_kind f a l

abbrev pub bare_seen : ℕ → ℕ → ℕ → ℕ → Seen
bare_seen f a l b = record { task = bare_task f a l; kind = sizes_kind; body = b }

zero_at : (n i : ℕ) → ◌≡◌ {A = ℕ} (get_or (replicate n 0) i 0) 0
zero_at zero i = refl
zero_at (suc n) zero = refl
zero_at (suc n) (suc i) = zero_at n i

bare_mask : (f a l j i : ℕ) → mask_of (bare_task f a l).table j i ≡ 0
unfolding bare_task task_after table_after
bare_mask f a l j i =
    let none = zero_at max_actions i in
    by_kind_all (λ (m : ℕ). m ≡ 0) j {d = get_or (replicate max_actions 0) i 0} {a = get_or (replicate max_actions 0) i 0} {n = get_or (replicate max_actions 0) i 0} none none none

one_run : (f a l : ℕ) → (bare_task f a l).runs.many ≡ 1
unfolding bare_task task_after runs_after
one_run f a l = refl

-- Of any run.
bare_run : (f a l i : ℕ) → (start_of (bare_task f a l).runs i ≡ 0) × (goal_of (bare_task f a l).runs i ≡ 0) × (count_of (bare_task f a l).runs i ≡ 0)
unfolding bare_task task_after runs_after
bare_run f a l i = (zero_at max_runs i, zero_at max_runs i, zero_at max_runs i)

bare_formed : (f a l : ℕ) → (0 < f) × (f ≤ max_facts) × (0 < a) × (a ≤ max_actions) × (l ≤ max_limit) → WellFormed (bare_task f a l)
unfolding bare_task task_after table_after runs_after cells_of
bare_formed f a l sizes =
    let none = bare_run f a l in
    record {
      shaped = record { needs = refl; adds = refl; deletes = refl; locks = refl; starts = refl; goals = refl; counts = refl; steps = refl };
      facts_low = sizes.0;
      facts_high = sizes.1;
      actions_low = sizes.2;
      actions_high = sizes.3;
      limit_high = sizes.4;
      many_low = omega arith;
      many_high = omega arith;
      count_high = λ i. let count = (none i).2 in omega arith;
      inside = λ j i g _. rw (bare_mask f a l j i) (has_empty g);
      locks_needs = λ i g e. absurd (true≢false (sym e ∙ rw (zero_at max_actions i) (has_empty g)));
      start_inside = λ i g _. rw (none i).0 (has_empty g);
      goal_inside = λ i g _. rw (none i).1 (has_empty g);
      steps_below = λ i j h. let count = (none i).2 in absurd (omega arith);
      actions_unused = λ j i _. bare_mask f a l j i;
      start_unused = λ i _. (none i).0;
      goal_unused = λ i _. (none i).1;
      count_unused = λ i _. (none i).2;
      steps_unused = λ i j _ _. zero_at all_steps (max_steps * i + j);
    }

bare_fact : (f a l i k j : ℕ) → fact_piece (bare_task f a l) i k j ≡ []
unfolding fact_piece bare_task task_after runs_after
bare_fact f a l i k j = at (eqb k start_kind)
  where
    at : (b : Bool) → piece (has (get_or (cond b (replicate max_runs 0) (replicate max_runs 0)) i 0) j) (k ∷ j ∷ []) ≡ []
    at true = rw (zero_at max_runs i, has_empty j)
    at false = rw (zero_at max_runs i, has_empty j)

bare_set : (f a l k i : ℕ) → cell_set (bare_task f a l).table k i ≡ 0
unfolding bare_task task_after table_after
bare_set f a l k i = at (eqb k need_kind) (eqb k add_kind) (eqb k delete_kind)
  where
    none : List ℕ
    none = replicate max_actions 0

    at : (b c d : Bool) → get_or (cond b none (cond c none (cond d none none))) i 0 ≡ 0
    at true c d = zero_at max_actions i
    at false true d = zero_at max_actions i
    at false false true = zero_at max_actions i
    at false false false = zero_at max_actions i

bare_cell : (f a l i k j : ℕ) → cell_piece (bare_task f a l) i k j ≡ []
unfolding cell_piece
bare_cell f a l i k j = rw (bare_set f a l k (j / byte_room), has_empty (j % byte_room), and-false (eqb i 0))

bare_step : (f a l i j : ℕ) → step_piece (bare_task f a l) i j ≡ []
bare_step f a l i j = let none = (bare_run f a l i).2 in no_step (bare_task f a l) i j (omega arith)

bare_opening : (f a l i j : ℕ) → run_piece (bare_task f a l) i j ≡ []
bare_opening f a l i j = no_run (bare_task f a l) i j (λ low. omega (arith, one_run f a l))

bare_above : (f a l r : ℕ) → rank 0 sizes_kind 0 < r → piece_at (bare_task f a l) r ≡ []
bare_above f a l r h = by (family (kind_at_rank r))
  where
    bare : Task
    bare = bare_task f a l

    by : Family (kind_at_rank r) → piece_at bare r ≡ []
    by (of_none out nothing) = nothing bare (run_at_rank r) (r % slots)
    by (of_sizes is) = sizes_once bare r is (λ e. omega arith)
    by (of_run is) = run_here bare r is ∙ bare_opening f a l (run_at_rank r) (r % slots)
    by (of_fact kind) = kind.shape bare (run_at_rank r) (r % slots) ∙ bare_fact f a l (run_at_rank r) (kind_at_rank r) (r % slots)
    by (of_cell kind) = kind.shape bare (run_at_rank r) (r % slots) ∙ bare_cell f a l (run_at_rank r) (kind_at_rank r) (r % slots)
    by (of_step is) = step_here bare r is ∙ bare_step f a l (run_at_rank r) (r % slots)

pub bare_rank : (f a l b : ℕ) → last_rank (bare_seen f a l b) 0 ≡ rank 0 sizes_kind 0
bare_rank f a l b = omega (arith, one_run f a l)

stands_bare : (f a l b : ℕ) → (0 < f) × (f ≤ max_facts) × (0 < a) × (a ≤ max_actions) × (l ≤ max_limit)
    → Standing (bare_seen f a l b) 0
stands_bare f a l b sizes = record {
  formed = bare_formed f a l sizes;
  low = omega arith;
  high = omega (arith, order);
  small = omega arith;
  ordered = λ h _. absurd (omega (arith, order));
  steps = λ h. absurd (omega arith);
  above = λ r h. bare_above f a l r (omega (arith, bare_rank f a l b));
}

pub seen_first : (s : List ℕ) → kind_at s 0 ≡ sizes_kind
    → seen_after s 0 nothing_seen ≡ bare_seen (byte_at s 0 0) (byte_at s 0 1) (byte_at s 0 2) (body_at s 0)
unfolding seen_after bare_task task_after
seen_first s is =
    ap (λ (k : ℕ). record {
      task = task_after no_task k (byte_at s 0 0) (byte_at s 0 1) (byte_at s 0 2);
      kind = k;
      body = body_at s 0;
    }) is

pub stands_first : (s : List ℕ) → Clear s 0 nothing_seen → Standing (seen_after s 0 nothing_seen) 0
stands_first s clear =
    let is = first_kind (kind_at s 0) clear.placed in
    let sizes = sizes_parts (byte_at s 0 0) (byte_at s 0 1) (byte_at s 0 2) (rw (eq-eqb (kind_at s 0) sizes_kind is) at clear.sized) in
    rw (seen_first s is) (stands_bare (byte_at s 0 0) (byte_at s 0 1) (byte_at s 0 2) (body_at s 0) sizes)
