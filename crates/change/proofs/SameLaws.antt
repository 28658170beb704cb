-- What two tasks can have in common, and what follows: a change inside the task keeps it well formed, and a fact that is the same keeps the
-- lists that keep it right. Assumes nothing.
use mathlib.Core.Bool.{true, false}
use mathlib.Core.List.{List}
use mathlib.Core.Path.{◌≡◌, sym, ap, ◌∙◌}
use Prim.Native.Nat.{ℕ, ◌+◌, ◌*◌, ◌<◌, ◌≤◌}
use native.Mathlib.Omega.{arith}
use lib.Dec.{ltb}
use lib.ListN.{get_or}
use lib.Seq.{ext_get_or}
use Rattle.facts.specs.Sets.{has}
use Rattle.facts.proofs.Laws.{same_sets}
use Rattle.table.proofs.AnswerLaws.{AlikeAt, alike_sym, keeps_alike}
use Rattle.table.proofs.Formation.{by_kind_all}
use Rattle.table.proofs.RunLaws.{SameCoursesAt, same_courses_sym}
use Rattle.table.specs.Repairs.{drop_delete, add_effect, drop_need}
use Rattle.table.specs.Sizes.{kinds, max_steps}
use Rattle.table.specs.Tasks.{cells_of, start_of, goal_of, count_of, step_of, course_of, courses_of, mask_of, KeepsFor, Shaped, WellFormed}
use Rattle.table.specs.declared.Task.{Task}
use Rattle.change.proofs.KindLaws.{sets_of, mask_sets, shaped_long}

-- ---- what two tasks have in common

pub record SameSizes (t u : Task) : Type 0 where
  pub facts : u.table.facts ≡ t.table.facts
  pub actions : u.table.actions ≡ t.table.actions
  pub limit : u.table.limit ≡ t.table.limit
  pub many : u.runs.many ≡ t.runs.many
  pub counts : u.runs.counts ≡ t.runs.counts
  pub steps : u.runs.steps ≡ t.runs.steps

-- the needs, adds, deletes and locks of fact g, its start and its goal in each run, and all sizes and steps
pub record SameFact (g : ℕ) (t u : Task) : Type 0 where
  pub sizes : SameSizes t u
  pub cell : (k a : ℕ) → k < kinds → has (mask_of u.table k a) g ≡ has (mask_of t.table k a) g
  pub lock : (a : ℕ) → (cells_of u.table).locks a g ≡ (cells_of t.table).locks a g
  pub start : (r : ℕ) → has (start_of u.runs r) g ≡ has (start_of t.runs r) g
  pub goal : (r : ℕ) → has (goal_of u.runs r) g ≡ has (goal_of t.runs r) g

-- every cell but the locks whose fact, action or run is outside
pub record SameOutside (t u : Task) : Type 0 where
  pub shaped : Shaped u
  pub sizes : SameSizes t u
  pub cell : (k a g : ℕ) → k < kinds → (g < t.table.facts → a < t.table.actions → ⊥)
      → has (mask_of u.table k a) g ≡ has (mask_of t.table k a) g
  pub start : (r g : ℕ) → (g < t.table.facts → r < t.runs.many → ⊥) → has (start_of u.runs r) g ≡ has (start_of t.runs r) g
  pub goal : (r g : ℕ) → (g < t.table.facts → r < t.runs.many → ⊥) → has (goal_of u.runs r) g ≡ has (goal_of t.runs r) g

-- ---- equal sizes and equal cells are equal tables

module _ (u v : Task) (su : Shaped u) (sv : Shaped v)
    (cell : (k a f : ℕ) → k < kinds → has (mask_of u.table k a) f ≡ has (mask_of v.table k a) f)
    (lock : (a f : ℕ) → (cells_of u.table).locks a f ≡ (cells_of v.table).locks a f) where
  same_rows : (k : ℕ) → k < kinds → sets_of u.table k ≡ sets_of v.table k
  same_rows k hk =
      ext_get_or 0 (sets_of u.table k) (sets_of v.table k) (shaped_long u su k hk ∙ sym (shaped_long v sv k hk)) (λ a h.
      sym (mask_sets u.table a k hk) ∙
      same_sets (mask_of u.table k a) (mask_of v.table k a) (λ f. cell k a f hk) ∙
      mask_sets v.table a k hk)

  same_locks : u.table.locks ≡ v.table.locks
  unfolding cells_of
  same_locks =
      ext_get_or 0 u.table.locks v.table.locks (su.locks ∙ sym sv.locks) (λ a _.
      same_sets (get_or u.table.locks a 0) (get_or v.table.locks a 0) (lock a))

  pub same_table : u.table.facts ≡ v.table.facts → u.table.actions ≡ v.table.actions → u.table.limit ≡ v.table.limit
      → u.table ≡ v.table
  same_table facts actions limit =
      let needs : u.table.needs ≡ v.table.needs = same_rows drop_need (omega arith) in
      let adds : u.table.adds ≡ v.table.adds = same_rows add_effect (omega arith) in
      let deletes : u.table.deletes ≡ v.table.deletes = same_rows drop_delete (omega arith) in
      λ i. record { facts = facts i; actions = actions i; limit = limit i; needs = needs i; adds = adds i; deletes = deletes i; locks = same_locks i }

-- ---- a change inside the task that leaves no lock without a need keeps it well formed

pub outside_well : (t u : Task) → WellFormed t → SameOutside t u
    → ((a f : ℕ) → (cells_of u.table).locks a f ≡ true → (cells_of u.table).needs a f ≡ true) → WellFormed u
outside_well t u w o locks = record {
  shaped = o.shaped;
  facts_low = omega (arith, w.facts_low);
  facts_high = omega (arith, w.facts_high);
  actions_low = omega (arith, w.actions_low);
  actions_high = omega (arith, w.actions_high);
  limit_high = omega (arith, w.limit_high);
  many_low = omega (arith, w.many_low);
  many_high = omega (arith, w.many_high);
  count_high = λ i. omega (arith, same_count i, w.count_high i);
  inside = λ k a f h.
      by_kind_all (λ (m : ℕ). has m f ≡ false) k (empty drop_delete a f (omega arith) h) (empty add_effect a f (omega arith) h)
      (empty drop_need a f (omega arith) h);
  locks_needs = locks;
  start_inside = λ r f h.
      let l : t.table.facts ≤ f = omega arith in
      o.start r f (λ m _. absurd (omega arith)) ∙ w.start_inside r f l;
  goal_inside = λ r f h.
      let l : t.table.facts ≤ f = omega arith in
      o.goal r f (λ m _. absurd (omega arith)) ∙ w.goal_inside r f l;
  steps_below = λ i j h. omega (arith, same_step i j, w.steps_below i j (omega (arith, same_count i)));
  actions_unused = λ k a h.
      by_kind_all (λ (m : ℕ). m ≡ 0) k (none drop_delete a (omega arith) h) (none add_effect a (omega arith) h)
      (none drop_need a (omega arith) h);
  start_unused = λ r h. same_sets (start_of u.runs r) 0 (λ f.
      let l : t.runs.many ≤ r = omega (arith, o.sizes.many) in
      o.start r f (λ _ m. absurd (omega arith)) ∙ ap (λ (m : ℕ). has m f) (w.start_unused r l));
  goal_unused = λ r h. same_sets (goal_of u.runs r) 0 (λ f.
      let l : t.runs.many ≤ r = omega (arith, o.sizes.many) in
      o.goal r f (λ _ m. absurd (omega arith)) ∙ ap (λ (m : ℕ). has m f) (w.goal_unused r l));
  count_unused = λ r h. same_count r ∙ w.count_unused r (omega (arith, o.sizes.many));
  steps_unused = λ i j h small. same_step i j ∙ w.steps_unused i j (omega (arith, same_count i)) small;
}
  where
    same_count : (i : ℕ) → count_of u.runs i ≡ count_of t.runs i
    same_count i = ap (λ (s : List ℕ). get_or s i 0) o.sizes.counts

    same_step : (i j : ℕ) → step_of u.runs i j ≡ step_of t.runs i j
    same_step i j = ap (λ (s : List ℕ). get_or s (max_steps * i + j) 0) o.sizes.steps

    empty : (k a f : ℕ) → k < kinds → u.table.facts ≤ f → has (mask_of u.table k a) f ≡ false
    empty k a f hk h =
        let l : t.table.facts ≤ f = omega (arith, o.sizes.facts) in
        o.cell k a f hk (λ m _. absurd (omega arith)) ∙ w.inside k a f l

    none : (k a : ℕ) → k < kinds → u.table.actions ≤ a → mask_of u.table k a ≡ 0
    none k a hk h =
        let l : t.table.actions ≤ a = omega (arith, o.sizes.actions) in
        same_sets (mask_of u.table k a) 0
        (λ f. o.cell k a f hk (λ _ m. absurd (omega arith)) ∙ ap (λ (m : ℕ). has m f) (w.actions_unused k a l))

-- ---- a fact that is the same keeps its lists

module _ (g : ℕ) (t u : Task) (s : SameFact g t u) where
  -- the two tables agree at g
  same_cells : AlikeAt g (cells_of t.table) (cells_of u.table)
  unfolding cells_of
  same_cells = record {
    inside = ap (ltb g) (sym s.sizes.facts);
    actions = sym s.sizes.actions;
    needs = λ a. sym (s.cell drop_need a (omega arith));
    adds = λ a. sym (s.cell add_effect a (omega arith));
    deletes = λ a. sym (s.cell drop_delete a (omega arith));
    locks = λ a. sym (s.lock a);
  }

  pub same_courses : SameCoursesAt g (courses_of t) (courses_of u)
  unfolding course_of
  same_courses = record {
    many = sym s.sizes.many;
    each = λ i h. record {
      start = sym (s.start i);
      goal = sym (s.goal i);
      count = ap (λ (l : List ℕ). get_or l i 0) (sym s.sizes.counts);
      steps = λ j h. ap (λ (l : List ℕ). get_or l (max_steps * i + j) 0) (sym s.sizes.steps);
    };
  }

  pub keeps_same : (l : List ℕ) → KeepsFor t g l → KeepsFor u g l
  keeps_same = keeps_alike g (cells_of t.table) (cells_of u.table) same_cells (courses_of t) (courses_of u) same_courses

  pub keeps_same_back : (l : List ℕ) → KeepsFor u g l → KeepsFor t g l
  keeps_same_back =
      keeps_alike g (cells_of u.table) (cells_of t.table) (alike_sym g (cells_of t.table) (cells_of u.table) same_cells)
      (courses_of u) (courses_of t) (same_courses_sym g (courses_of t) (courses_of u) same_courses)
