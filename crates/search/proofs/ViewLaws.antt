-- Laws of a task's column: gathering its masks, its fullest choice, and that a list keeps the fact right in the task exactly if it
-- does so in the column. Assumes nothing.
use mathlib.Core.Bool.{Bool, true, false, not, ◌&&◌, cond, or-false, or-true}
use mathlib.Core.List.{List}
use mathlib.Core.Logic.{◌⊎◌, inl, inr, ⊎_elim}
use mathlib.Core.Path.{◌≡◌, refl, sym, ap, ◌∙◌, subst}
use Prim.Native.Nat.{ℕ, suc, ◌+◌, ◌%◌, ◌<◌, ◌≤◌, min}
use native.Mathlib.Omega.{arith}
use lib.Dec.{eqb, ltb}
use lib.ListN.{length, get_or, get_or-eq_default}
use borrow.Author.Tests.{lt-ltb, le-ltb, eq-eqb, ne_eqb}
use Rattle.facts.specs.Sets.{has, joined, shared, removed, below, only, width}
use Rattle.facts.proofs.Laws.{has_empty, has_with, has_shared, has_removed, has_below}
use Rattle.table.specs.Repairs.{by_kind, drop_delete, add_effect, fact_of, kind_of, action_of, permits, permitted}
use Rattle.table.specs.Sizes.{max_actions, per_fact}
use Rattle.table.specs.Order.{is_in}
use Rattle.table.specs.Strips.{Cells, Courses, AllRight}
use Rattle.table.specs.Tasks.{WellFormed, cells_of, course_of, courses_of, KeepsFor}
use Rattle.table.specs.declared.Task.{Task}
use Rattle.table.proofs.AnswerLaws.{AlikeAt, alike_sym, keeps_alike}
use Rattle.table.proofs.OrderLaws.{compared}
use Rattle.table.proofs.RepairLaws.{right_more}
use Rattle.table.proofs.RunLaws.{SameCourseAt, SameCoursesAt, same_courses_sym}
use Rattle.table.proofs.RepairNumbers.{permitted_permits}
use Rattle.search.proofs.SearchLaws.{right_keeps}
use Rattle.choices.specs.Choices.{in_choice, numbers_in, list_of, code_number, code_kind, code_action}
use Rattle.search.specs.declared.Column.{Column}
use Rattle.search.specs.Columns.{cells_in, course_in, courses_in, KeepsIn, ColumnFormed}
use Rattle.search.specs.Searching.{cells_with}
use Rattle.search.specs.Views.{Gathers, GathersBelow, Shows, Fullest}
use Rattle.choices.specs.declared.Choice.{Choice}

-- ---- gathering a mask of actions

module _ (sets : ℕ → ℕ) (f : ℕ) where
  pub gathers_none : GathersBelow sets f 0 0
  gathers_none a = rw (has_empty a, le-ltb a 0 (omega arith))

  -- action a, where action i is put in if its set has f
  below_i : (m i a : ℕ) (wanted : Bool) → i < width → GathersBelow sets f i m → a < i
      → has (cond wanted (joined m (only i)) m) a ≡ (ltb a (i + 1) && has (sets a) f)
  below_i m i a true h g l =
      rw (has_with m i a h, ne_eqb a i (λ e. omega arith), g a, lt-ltb a i l, lt-ltb a (i + 1) (omega arith), or-false)
  below_i m i a false h g l = rw (g a, lt-ltb a i l, lt-ltb a (i + 1) (omega arith))

  at_i : (m i : ℕ) (wanted : Bool) → i < width → GathersBelow sets f i m → wanted ≡ has (sets i) f
      → has (cond wanted (joined m (only i)) m) i ≡ (ltb i (i + 1) && has (sets i) f)
  at_i m i true h g e = rw (has_with m i i h, eq-eqb i i refl, or-true, lt-ltb i (i + 1) (omega arith)) e
  at_i m i false h g e = rw (g i, le-ltb i i (omega arith), lt-ltb i (i + 1) (omega arith)) e

  above_i : (m i a : ℕ) (wanted : Bool) → i < width → GathersBelow sets f i m → i < a
      → has (cond wanted (joined m (only i)) m) a ≡ (ltb a (i + 1) && has (sets a) f)
  above_i m i a true h g l =
      rw (has_with m i a h, ne_eqb a i (λ e. omega arith), g a, le-ltb a i (omega arith), le-ltb a (i + 1) (omega arith))
  above_i m i a false h g l = rw (g a, le-ltb a i (omega arith), le-ltb a (i + 1) (omega arith))

  pub gathers_more : (m i next : ℕ) (wanted : Bool) → i < width → GathersBelow sets f i m → wanted ≡ has (sets i) f
      → next ≡ cond wanted (joined m (only i)) m → GathersBelow sets f (i + 1) next
  gathers_more m i next wanted h g e made a =
      ap (λ (n : ℕ). has n a) made ∙ ⊎_elim (below_i m i a wanted h g)
      (⊎_elim
      (λ same. subst (λ (b : ℕ). has (cond wanted (joined m (only i)) m) b ≡ (ltb b (i + 1) && has (sets b) f)) (sym same) (at_i m i wanted h g e))
      (above_i m i a wanted h g))
      (compared a i)

-- A row of sets is empty past its end.
pub gathers_end : (sets : List ℕ) (f i m : ℕ) → i ≡ length sets → GathersBelow (λ a. get_or sets a 0) f i m → Gathers (λ a. get_or sets a 0) f m
gathers_end sets f i m all below a = ⊎_elim inside outside (below_or_not a (length sets))
  where
    below_or_not : (x y : ℕ) → (x < y) ⊎ (y ≤ x)
    below_or_not x y = ⊎_elim inl (λ w. inr (⊎_elim (λ e. omega arith) (λ l. omega arith) w)) (compared x y)

    g : GathersBelow (λ b. get_or sets b 0) f (length sets) m
    g = subst (λ (n : ℕ). GathersBelow (λ b. get_or sets b 0) f n m) all below

    inside : a < length sets → has m a ≡ has (get_or sets a 0) f
    inside l = g a ∙ rw (lt-ltb a (length sets) l)

    outside : length sets ≤ a → has m a ≡ has (get_or sets a 0) f
    outside l = g a ∙ rw (le-ltb a (length sets) l, get_or-eq_default sets 0 l, has_empty f)

-- ---- the fullest choice

-- A mask picked by its kind, from what each of the three has.
has_by_kind : (k d a n x : ℕ) (y p q r : Bool) → has d x ≡ (y && p) → has a x ≡ (y && q) → has n x ≡ (y && r)
    → has (by_kind k d a n) x ≡ (y && by_kind k p q r)
has_by_kind k d a n x y p q r hd ha hn = go (eqb k drop_delete) (eqb k add_effect)
  where
    go : (first second : Bool) → has (cond first d (cond second a n)) x ≡ (y && cond first p (cond second q r))
    go true second = hd
    go false true = ha
    go false false = hn

-- A code of fact f, as the parts of its number.
code_permitted : (c : Cells) (f code : ℕ) → code < per_fact → permitted c (code_number f code) ≡ permits c f (code_kind code) (code_action code)
code_permitted c f code h =
    let fact : fact_of (code_number f code) ≡ f = omega arith in
    let kind : kind_of (code_number f code) ≡ code_kind code = omega arith in
    let action : action_of (code_number f code) ≡ code_action code = omega arith in
    permitted_permits c (code_number f code) ∙ rw (fact, kind, action)

-- Exactly the permitted repairs: dropped deletes that are there, effects that are not, and dropped needs that are there and not locked.
pub fullest_is : (col : Column) → col.actions ≤ max_actions → (s : Choice) → s.deletes ≡ shared (below col.actions) col.deletes
    → s.adds ≡ removed (below col.actions) col.adds → s.needs ≡ shared (below col.actions) (removed col.needs col.locks) → Fullest col s
unfolding in_choice permits cells_in
fullest_is col high s d a n code h =
    let x = code_action code in
    let all : has (below col.actions) x ≡ ltb x col.actions =
    has_below col.actions x ∙ ap (ltb x) (least high) in
    rw (code_permitted (cells_in col) col.fact code h, lt-ltb col.fact (suc col.fact) (omega arith), d, a, n)
    (has_by_kind (code_kind code) _ _ _ x (ltb x col.actions) _ _ _
    (has_shared (below col.actions) col.deletes x ∙ ap (λ b. b && has col.deletes x) all)
    (has_removed (below col.actions) col.adds x ∙ ap (λ b. b && not (has col.adds x)) all)
    (has_shared (below col.actions) (removed col.needs col.locks) x ∙
    (λ j. all j && has_removed col.needs col.locks x j)))
  where
    least : {m : ℕ} → m ≤ max_actions → min m width ≡ m
    least l = omega arith

-- Working is monotone: a list that keeps the fact right has no repair that the fullest choice lacks, so the fullest does too.
pub fullest_right : (col : Column) (rs : Courses) (s : Choice) → Fullest col s → (l : List ℕ) → KeepsIn col rs l → AllRight (cells_with col s) rs col.fact
unfolding numbers_in
fullest_right col rs s full l keeps =
    right_more (cells_in col) rs col.fact (is_in l) (numbers_in col.fact s) more keeps.right
  where
    more : (n : ℕ) → fact_of n ≡ col.fact → is_in l n ≡ true → numbers_in col.fact s n ≡ true
    more n own h =
        let here : code_number col.fact (n % per_fact) ≡ n = omega arith in
        rw (eq-eqb (fact_of n) col.fact own, full (n % per_fact) (omega arith), here) (keeps.permitted.each n h)

-- And then its list keeps the fact right.
pub fullest_keeps : (col : Column) (rs : Courses) (s : Choice) → Fullest col s → AllRight (cells_with col s) rs col.fact
    → KeepsIn col rs (list_of col.fact s)
fullest_keeps col rs s full right = right_keeps col rs s (λ code h chosen. sym (full code h) ∙ chosen) right

-- ---- a task and its column

module _ (t : Task) (col : Column) (shows : Shows t col) where
  -- Each run of the column is the task's, at the column's fact.
  same_course : (i : ℕ) → SameCourseAt col.fact (course_of t.runs i) (course_in col (get_or t.runs.counts i 0) t.runs.steps i)
  unfolding course_of
  same_course i = record { start = sym (shows.start i); goal = sym (shows.goal i); count = refl; steps = λ j low. refl }

  pub shows_formed : WellFormed t → ColumnFormed col t.runs.counts t.runs.steps
  unfolding course_of
  shows_formed well = record {
    actions_high = omega (arith, shows.actions, well.actions_high);
    runs_high = omega (arith, shows.runs, well.many_high);
    run = λ i h.
        let same = same_course i in
        record {
          actions_high = omega (arith, shows.actions, well.actions_high);
          count_high = omega (arith, same.count, well.count_high i);
          steps_below = λ j low. omega (arith, well.steps_below i j (omega (arith, same.count)), shows.actions);
        };
  }

module _ (t : Task) (col : Column) (shows : Shows t col) (inside : col.fact < t.table.facts) where
  same_cells : AlikeAt col.fact (cells_of t.table) (cells_in col)
  unfolding cells_of cells_in
  same_cells = record {
    inside = lt-ltb col.fact t.table.facts inside ∙ sym (lt-ltb col.fact (suc col.fact) (omega arith));
    actions = sym shows.actions;
    needs = λ a. sym (shows.needs a);
    adds = λ a. sym (shows.adds a);
    deletes = λ a. sym (shows.deletes a);
    locks = λ a. sym (shows.locks a);
  }

  same_courses : SameCoursesAt col.fact (courses_of t) (courses_in col t.runs.counts t.runs.steps)
  same_courses = record { many = sym shows.runs; each = λ i h. same_course t col shows i }

  -- So a list keeps the fact right in the task exactly if it does so in the column.
  pub keeps_in : (l : List ℕ) → KeepsFor t col.fact l → KeepsIn col (courses_in col t.runs.counts t.runs.steps) l
  keeps_in = keeps_alike col.fact (cells_of t.table) (cells_in col) same_cells (courses_of t) (courses_in col t.runs.counts t.runs.steps) same_courses

  pub in_keeps : (l : List ℕ) → KeepsIn col (courses_in col t.runs.counts t.runs.steps) l → KeepsFor t col.fact l
  in_keeps =
      keeps_alike col.fact (cells_in col) (cells_of t.table) (alike_sym col.fact _ _ same_cells) (courses_in col t.runs.counts t.runs.steps) (courses_of t)
      (same_courses_sym col.fact _ _ same_courses)
