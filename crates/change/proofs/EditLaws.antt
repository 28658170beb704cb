-- Laws of an edit: the code's task has exactly the named cell set, no other task has, and what follows for a task with one cell set: it
-- stays well formed, unless a lock is left without a need, and every other fact keeps its lists. Assumes nothing.
use mathlib.Core.Bool.{Bool, true, false, not, ◌&&◌, cond, false≢true}
use mathlib.Core.List.{List}
use mathlib.Core.Path.{◌≡◌, refl, sym, ap, ◌∙◌}
use Prim.Native.Nat.{ℕ, ◌<◌}
use native.Mathlib.Omega.{arith}
use lib.Dec.{eqb, ltb}
use lib.ListN.{length, get_or, length-set}
use lib.Seq.{ext_get_or}
use borrow.Author.Tests.{ltb-true, eqb-true, eq-eqb, not-true}
use Rattle.facts.specs.Sets.{width, has}
use Rattle.facts.proofs.Laws.{same_sets}
use Rattle.table.proofs.RepairNumbers.{kind_cases}
use Rattle.table.proofs.SettingLaws.{has_set_in}
use Rattle.table.proofs.FlagLaws.{both, and_both}
use Rattle.table.specs.Repairs.{drop_delete, add_effect, drop_need, by_kind}
use Rattle.table.specs.Sizes.{max_actions, kinds, max_runs}
use Rattle.table.specs.Setting.{set_fact, set_in}
use Rattle.table.specs.Tasks.{cells_of, start_of, goal_of, course_of, mask_of, KeepsFor, WellFormed}
use Rattle.table.specs.declared.Task.{Task}
use Rattle.change.specs.Editing.{set_cell, edited, cell_fact, cell_inside, cell_value, lock_left, leaves_lock, accepts, EditedTo}
use Rattle.change.specs.Kinds.{kind_set}
use Rattle.change.specs.declared.Cell.{Cell}
use Rattle.change.specs.declared.Cell.TheVariants.{Need, Add, Delete, Start, Goal, Lock}
use Rattle.change.specs.declared.Edit.{Edit}
use Rattle.change.proofs.KindLaws.{shaped_long, long_shaped, long_kind_set, cell_kind_set, sizes_kind_set, locks_kind_set}
use Rattle.change.proofs.SameLaws.{SameSizes, SameFact, same_table, outside_well, keeps_same, keeps_same_back}

-- ---- a need, an add or a delete: once over the kind

-- the cell of a kind of repair
abbrev kind_cell : ℕ → ℕ → ℕ → Cell
kind_cell k a f = by_kind {A = Cell} k (Delete a f) (Add a f) (Need a f)

kind_cell_lem : (t : Task) (a f k : ℕ) → k < kinds → cell_value t (kind_cell k a f) ≡ has (mask_of t.table k a) f
unfolding cell_value cells_of
kind_cell_lem t a f = kind_cases (λ k. cell_value t (kind_cell k a f) ≡ has (mask_of t.table k a) f) refl refl refl

kind_fact : (a f k : ℕ) → k < kinds → f ≡ cell_fact (kind_cell k a f)
kind_fact a f = kind_cases (λ k. f ≡ cell_fact (kind_cell k a f)) refl refl refl

kind_inside : (t : Task) (a f k : ℕ) → k < kinds → (ltb a t.table.actions && ltb f t.table.facts) ≡ cell_inside t (kind_cell k a f)
unfolding cell_inside
kind_inside t a f = kind_cases (λ k. (ltb a t.table.actions && ltb f t.table.facts) ≡ cell_inside t (kind_cell k a f)) refl refl refl

-- ---- the code's task has the named cell set, and every other as it was

-- a property of the kinds' cells, of the starts, the goals and the locks, each of which is not c, is one of every cell that is not c
other_cells : (t u : Task) (c : Cell)
    → ((j b g : ℕ) → j < kinds → (kind_cell j b g ≡ c → ⊥) → has (mask_of u.table j b) g ≡ has (mask_of t.table j b) g)
    → ((r g : ℕ) → (Start r g ≡ c → ⊥) → has (start_of u.runs r) g ≡ has (start_of t.runs r) g)
    → ((r g : ℕ) → (Goal r g ≡ c → ⊥) → has (goal_of u.runs r) g ≡ has (goal_of t.runs r) g)
    → ((b g : ℕ) → (Lock b g ≡ c → ⊥) → (cells_of u.table).locks b g ≡ (cells_of t.table).locks b g)
    → (d : Cell) → (d ≡ c → ⊥) → cell_value u d ≡ cell_value t d
unfolding cell_value cells_of course_of
other_cells t u c kind start goal lock (Need b g) other = kind drop_need b g (omega arith) other
other_cells t u c kind start goal lock (Add b g) other = kind add_effect b g (omega arith) other
other_cells t u c kind start goal lock (Delete b g) other = kind drop_delete b g (omega arith) other
other_cells t u c kind start goal lock (Start r g) other = start r g other
other_cells t u c kind start goal lock (Goal r g) other = goal r g other
other_cells t u c kind start goal lock (Lock b g) other = lock b g other

-- the sets of n actions or runs, with one cell set: the cells of the sets are C's
module _ (n a f : ℕ) (p : Bool) (low : a < n) (fits : f < width) (sets : List ℕ) (long : length sets ≡ n) where
  set_value : (b g : ℕ) → has (get_or (set_in sets a f p) b 0) g ≡ cond (eqb b a && eqb g f) p (has (get_or sets b 0) g)
  set_value b g = has_set_in sets a f p b g (omega arith) fits

  set_sets : has (get_or (set_in sets a f p) a 0) f ≡ p
  set_sets = set_value a f ∙ ap (λ (b : Bool). cond b p (has (get_or sets a 0) f)) (and_both _ _ (eq-eqb a a refl) (eq-eqb f f refl))

  set_keeps : (C : ℕ → ℕ → Cell) (b g : ℕ) → (C b g ≡ C a f → ⊥) → has (get_or (set_in sets a f p) b 0) g ≡ has (get_or sets b 0) g
  set_keeps C b g other = set_value b g ∙ pick (eqb b a) refl (eqb g f) refl
    where
      pick : (x : Bool) → eqb b a ≡ x → (y : Bool) → eqb g f ≡ y → cond (x && y) p (has (get_or sets b 0) g) ≡ has (get_or sets b 0) g
      pick true ex true ey = absurd (other (λ i. C (eqb-true b a ex i) (eqb-true g f ey i)))
      pick true ex false ey = refl
      pick false ex y ey = refl

  set_long : length (set_in sets a f p) ≡ n
  set_long = length-set sets a (set_fact (get_or sets a 0) f p) ∙ long

module _ (t : Task) (w : WellFormed t) where
  module _ (a f : ℕ) (p : Bool) (inside : (ltb a t.table.actions && ltb f t.table.facts) ≡ true) (k : ℕ) (hk : k < kinds) where
    abbrev kind_edited : Task
    kind_edited = record { table = kind_set t.table k a f p; runs = t.runs }

    kind_value : (j b g : ℕ) → j < kinds
        → has (mask_of (kind_set t.table k a f p) j b) g ≡ cond (eqb j k && eqb b a && eqb g f) p (has (mask_of t.table j b) g)
    kind_value =
        let low = both (ltb a t.table.actions) (ltb f t.table.facts) inside in
        cell_kind_set t.table a f p (shaped_long t w.shaped) (omega (arith, ltb-true a t.table.actions low.0, w.actions_high))
        (omega (arith, ltb-true f t.table.facts low.1, w.facts_high)) k hk

    kind_sets : cell_value kind_edited (kind_cell k a f) ≡ p
    kind_sets =
        kind_cell_lem kind_edited a f k hk ∙ kind_value k a f hk ∙
        ap (λ (b : Bool). cond b p (has (mask_of t.table k a) f)) (and_both _ _ (and_both _ _ (eq-eqb k k refl) (eq-eqb a a refl)) (eq-eqb f f refl))

    kind_keeps : (j b g : ℕ) → j < kinds → (kind_cell j b g ≡ kind_cell k a f → ⊥)
        → has (mask_of (kind_set t.table k a f p) j b) g ≡ has (mask_of t.table j b) g
    kind_keeps j b g hj other = kind_value j b g hj ∙ pick (eqb j k) refl (eqb b a) refl (eqb g f) refl
      where
        pick : (x : Bool) → eqb j k ≡ x → (y : Bool) → eqb b a ≡ y → (z : Bool) → eqb g f ≡ z
            → cond (x && y && z) p (has (mask_of t.table j b) g) ≡ has (mask_of t.table j b) g
        pick true ex true ey true ez =
            absurd (other (λ i. kind_cell (eqb-true j k ex i) (eqb-true b a ey i) (eqb-true g f ez i)))
        pick true ex true ey false ez = refl
        pick true ex false ey z ez = refl
        pick false ex y ey z ez = refl

    kind_exactly : EditedTo t (record { cell = kind_cell k a f; present = p }) kind_edited
    unfolding cells_of
    kind_exactly =
        let same = sizes_kind_set t.table a f p k hk in
        let locks = locks_kind_set t.table a f p k hk in
        record {
          shaped = long_shaped (kind_set t.table k a f p) t (long_kind_set t.table a f p (shaped_long t w.shaped) k hk) locks w.shaped;
          facts = same.0;
          actions = same.1;
          limit = same.2;
          many = refl;
          counts = refl;
          steps = refl;
          named = kind_sets;
          others = other_cells t kind_edited (kind_cell k a f) kind_keeps (λ r g _. refl) (λ r g _. refl) (λ b g _. ap (λ (m : List ℕ). has (get_or m b 0) g) locks);
        }

  -- a start or goal fact of a run
  abbrev runs_set : List ℕ → List ℕ → Task
  runs_set m n = record {
    table = t.table;
    runs = record { many = t.runs.many; starts = m; goals = n; counts = t.runs.counts; steps = t.runs.steps };
  }

  runs_exactly : (c : Cell) (p : Bool) (m n : List ℕ) → length m ≡ max_runs → length n ≡ max_runs → cell_value (runs_set m n) c ≡ p
      → ((r g : ℕ) → (Start r g ≡ c → ⊥) → has (get_or m r 0) g ≡ has (start_of t.runs r) g)
      → ((r g : ℕ) → (Goal r g ≡ c → ⊥) → has (get_or n r 0) g ≡ has (goal_of t.runs r) g)
      → EditedTo t (record { cell = c; present = p }) (runs_set m n)
  runs_exactly c p m n long also named start goal = record {
    shaped = record {
      needs = w.shaped.needs;
      adds = w.shaped.adds;
      deletes = w.shaped.deletes;
      locks = w.shaped.locks;
      starts = long;
      goals = also;
      counts = w.shaped.counts;
      steps = w.shaped.steps;
    };
    facts = refl;
    actions = refl;
    limit = refl;
    many = refl;
    counts = refl;
    steps = refl;
    named = named;
    others = other_cells t (runs_set m n) c (λ j b g _ _. refl) start goal (λ b g _. refl);
  }

  module _ (r f : ℕ) (p : Bool) (inside : (ltb r t.runs.many && ltb f t.table.facts) ≡ true) where
    low : (r < max_runs) × (f < width)
    low =
        let in-task = both (ltb r t.runs.many) (ltb f t.table.facts) inside in (
          omega (arith, ltb-true r t.runs.many in-task.0, w.many_high),
          omega (arith, ltb-true f t.table.facts in-task.1, w.facts_high),
        )

    start_exactly : EditedTo t (record { cell = Start r f; present = p }) (set_cell t (Start r f) p)
    unfolding cell_value set_cell course_of
    start_exactly =
        let sets = t.runs.starts in
        let long = w.shaped.starts in
        runs_exactly (Start r f) p (set_in sets r f p) t.runs.goals (set_long max_runs r f p low.0 low.1 sets long) w.shaped.goals
        (set_sets max_runs r f p low.0 low.1 sets long) (set_keeps max_runs r f p low.0 low.1 sets long Start) (λ q g _. refl)

    goal_exactly : EditedTo t (record { cell = Goal r f; present = p }) (set_cell t (Goal r f) p)
    unfolding cell_value set_cell course_of
    goal_exactly =
        let sets = t.runs.goals in
        let long = w.shaped.goals in
        runs_exactly (Goal r f) p t.runs.starts (set_in sets r f p) w.shaped.starts (set_long max_runs r f p low.0 low.1 sets long)
        (set_sets max_runs r f p low.0 low.1 sets long) (λ q g _. refl) (set_keeps max_runs r f p low.0 low.1 sets long Goal)

  -- the lock of a need (02, request 6)
  lock_exactly : (a f : ℕ) (p : Bool) → (ltb a t.table.actions && ltb f t.table.facts) ≡ true
      → EditedTo t (record { cell = Lock a f; present = p }) (set_cell t (Lock a f) p)
  unfolding cell_value set_cell cells_of
  lock_exactly a f p inside =
      let in-task = both (ltb a t.table.actions) (ltb f t.table.facts) inside in
      let ha : a < max_actions = omega (arith, ltb-true a t.table.actions in-task.0, w.actions_high) in
      let hf : f < width = omega (arith, ltb-true f t.table.facts in-task.1, w.facts_high) in
      let sets = t.table.locks in
      let long = w.shaped.locks in
      record {
        shaped = record {
          needs = w.shaped.needs;
          adds = w.shaped.adds;
          deletes = w.shaped.deletes;
          locks = set_long max_actions a f p ha hf sets long;
          starts = w.shaped.starts;
          goals = w.shaped.goals;
          counts = w.shaped.counts;
          steps = w.shaped.steps;
        };
        facts = refl;
        actions = refl;
        limit = refl;
        many = refl;
        counts = refl;
        steps = refl;
        named = set_sets max_actions a f p ha hf sets long;
        others = other_cells t (set_cell t (Lock a f) p) (Lock a f) (λ j b g _ _. refl) (λ r g _. refl) (λ r g _. refl)
            (set_keeps max_actions a f p ha hf sets long Lock);
      }

  cell_exactly : (c : Cell) (p : Bool) → cell_inside t c ≡ true → EditedTo t (record { cell = c; present = p }) (set_cell t c p)
  unfolding set_cell cell_inside kind_set
  cell_exactly (Need a f) p h = kind_exactly a f p h drop_need (omega arith)
  cell_exactly (Add a f) p h = kind_exactly a f p h add_effect (omega arith)
  cell_exactly (Delete a f) p h = kind_exactly a f p h drop_delete (omega arith)
  cell_exactly (Start r f) p h = start_exactly r f p h
  cell_exactly (Goal r f) p h = goal_exactly r f p h
  cell_exactly (Lock a f) p h = lock_exactly a f p h

pub edited_exactly : (t : Task) (e : Edit) → WellFormed t → cell_inside t e.cell ≡ true → EditedTo t e (edited t e)
edited_exactly t e w inside = cell_exactly t w e.cell e.present inside

-- ---- there is one task with the cell set

-- two truth values that cannot differ
not_apart : (x y : Bool) → ((x ≡ y → ⊥) → ⊥) → x ≡ y
not_apart true true h = refl
not_apart true false h = absurd (h (λ e. false≢true (sym e)))
not_apart false true h = absurd (h false≢true)
not_apart false false h = refl

-- were they apart, the cell would be neither the named one nor another
same_cell : (t : Task) (e : Edit) (u v : Task) → EditedTo t e u → EditedTo t e v → (c : Cell) → cell_value u c ≡ cell_value v c
same_cell t e u v d b c = not_apart (cell_value u c) (cell_value v c) (λ apart.
    let other : c ≡ e.cell → ⊥ = λ same. apart (ap (cell_value u) same ∙ d.named ∙ sym b.named ∙ ap (cell_value v) (sym same)) in
    apart (d.others c other ∙ sym (b.others c other)))

pub edited_only : (t : Task) (e : Edit) (u v : Task) → EditedTo t e u → EditedTo t e v → u ≡ v
unfolding cell_value course_of
edited_only t e u v d b =
    let cell = same_cell t e u v d b in
    let table =
    same_table u v d.shaped b.shaped
    (λ k a f hk. sym (kind_cell_lem u a f k hk) ∙ cell (kind_cell k a f) ∙ kind_cell_lem v a f k hk)
    (λ a f. cell (Lock a f))
    (d.facts ∙ sym b.facts) (d.actions ∙ sym b.actions) (d.limit ∙ sym b.limit) in
    let starts =
    ext_get_or 0 u.runs.starts v.runs.starts (d.shaped.starts ∙ sym b.shaped.starts) (λ r _.
    same_sets (start_of u.runs r) (start_of v.runs r) (λ f. cell (Start r f))) in
    let goals =
    ext_get_or 0 u.runs.goals v.runs.goals (d.shaped.goals ∙ sym b.shaped.goals) (λ r _.
    same_sets (goal_of u.runs r) (goal_of v.runs r) (λ f. cell (Goal r f))) in
    let many = d.many ∙ sym b.many in
    let counts = d.counts ∙ sym b.counts in
    let steps = d.steps ∙ sym b.steps in
    λ i. record {
      table = table i;
      runs = record { many = many i; starts = starts i; goals = goals i; counts = counts i; steps = steps i };
    }

-- ---- what the session reads off

-- a lock is no need
is_lock : Cell → Bool
is_lock (Need a f) = false
is_lock (Add a f) = false
is_lock (Delete a f) = false
is_lock (Start r f) = false
is_lock (Goal r f) = false
is_lock (Lock a f) = true

lock_not_need : (a f : ℕ) → Lock a f ≡ Need a f → ⊥
unfolding is_lock
lock_not_need a f same = false≢true (sym (ap is_lock same))

-- under a lock a need is not cleared, and a lock is set on a need only
under : (p locked : Bool) → (not p && locked) ≡ false → locked ≡ true → p ≡ true
under true locked h l = refl
under false locked h l = absurd (false≢true (sym h ∙ l))

upon : (p needed : Bool) → (p && not needed) ≡ false → p ≡ true → needed ≡ true
upon p true h set = refl
upon p false h set = absurd (false≢true (sym h ∙ rw set))

module _ (t : Task) (e : Edit) (u : Task) (d : EditedTo t e u) where
  edited_sizes : SameSizes t u
  edited_sizes = record { facts = d.facts; actions = d.actions; limit = d.limit; many = d.many; counts = d.counts; steps = d.steps }

  edited_cell : (k a f : ℕ) → k < kinds → (kind_cell k a f ≡ e.cell → ⊥) → has (mask_of u.table k a) f ≡ has (mask_of t.table k a) f
  edited_cell k a f hk other = sym (kind_cell_lem u a f k hk) ∙ d.others (kind_cell k a f) other ∙ kind_cell_lem t a f k hk

  -- no lock is left without a need: were the need of a locked cell absent, the edit would have left it so
  edited_locks : WellFormed t → leaves_lock t e ≡ false → (a f : ℕ) → (cells_of u.table).locks a f ≡ true → (cells_of u.table).needs a f ≡ true
  unfolding cell_value lock_left
  edited_locks w clear a f locked =
      not_apart ((cells_of u.table).needs a f) true (λ apart.
      let need-other : Need a f ≡ e.cell → ⊥ = λ same. apart (d_named same) in
      let need = d.others (Need a f) need-other in
      let lock-other : Lock a f ≡ e.cell → ⊥ = λ same. apart (need ∙ t_needs same) in
      apart (need ∙ w.locks_needs a f (sym (d.others (Lock a f) lock-other) ∙ locked)))
    where
      d_named : Need a f ≡ e.cell → (cells_of u.table).needs a f ≡ true
      d_named same =
          ap (cell_value u) same ∙ d.named ∙
          under e.present ((cells_of t.table).locks a f) (ap (λ (c : Cell). lock_left t.table c e.present) same ∙ clear)
          (sym (d.others (Lock a f) (λ lock. lock_not_need a f (lock ∙ sym same))) ∙ locked)

      t_needs : Lock a f ≡ e.cell → (cells_of t.table).needs a f ≡ true
      t_needs same =
          upon e.present ((cells_of t.table).needs a f) (ap (λ (c : Cell). lock_left t.table c e.present) same ∙ clear)
          (sym d.named ∙ sym (ap (cell_value u) same) ∙ locked)

  -- a task with an accepted edit made is well formed
  pub edited_well : WellFormed t → accepts t e ≡ true → WellFormed u
  unfolding cell_inside cell_value course_of
  edited_well w made =
      let inside = (both (cell_inside t e.cell) (not (leaves_lock t e)) made).0 in
      let clear = not-true (leaves_lock t e) (both (cell_inside t e.cell) (not (leaves_lock t e)) made).1 in
      outside_well t u w
      (record {
        shaped = d.shaped;
        sizes = edited_sizes;
        cell = λ k a g hk out. edited_cell k a g hk (λ same.
            let low = both (ltb a t.table.actions) (ltb g t.table.facts) (kind_inside t a g k hk ∙ ap (cell_inside t) same ∙ inside) in
            out (ltb-true g t.table.facts low.1) (ltb-true a t.table.actions low.0));
        start = λ r g out. d.others (Start r g) (λ same. in_runs r g out (ap (cell_inside t) same ∙ inside));
        goal = λ r g out. d.others (Goal r g) (λ same. in_runs r g out (ap (cell_inside t) same ∙ inside));
      })
      (edited_locks w clear)
    where
      in_runs : (r g : ℕ) → (g < t.table.facts → r < t.runs.many → ⊥) → (ltb r t.runs.many && ltb g t.table.facts) ≡ true → ⊥
      in_runs r g out low =
          let both-low = both (ltb r t.runs.many) (ltb g t.table.facts) low in
          out (ltb-true g t.table.facts both-low.1) (ltb-true r t.runs.many both-low.0)

  -- and with an edit made that 18 refuses it is not
  pub edited_unformed : leaves_lock t e ≡ true → WellFormed u → ⊥
  unfolding cell_value lock_left
  edited_unformed left w = pick e.cell e.present left d.named d.others
    where
      pick : (c : Cell) (p : Bool) → lock_left t.table c p ≡ true → cell_value u c ≡ p → ((x : Cell) → (x ≡ c → ⊥) → cell_value u x ≡ cell_value t x) → ⊥
      pick (Need a f) p l named others =
          let q = both (not p) ((cells_of t.table).locks a f) l in
          false≢true (sym (named ∙ not-true p q.0) ∙ w.locks_needs a f (others (Lock a f) (lock_not_need a f) ∙ q.1))
      pick (Add a f) p l named others = false≢true l
      pick (Delete a f) p l named others = false≢true l
      pick (Start r f) p l named others = false≢true l
      pick (Goal r f) p l named others = false≢true l
      pick (Lock a f) p l named others =
          let q = both p (not ((cells_of t.table).needs a f)) l in
          let bare = others (Need a f) (λ same. lock_not_need a f (sym same)) ∙ not-true ((cells_of t.table).needs a f) q.1 in
          false≢true (sym bare ∙ w.locks_needs a f (named ∙ q.0))

  -- every other fact is as it was
  edited_elsewhere : (g : ℕ) → (g ≡ cell_fact e.cell → ⊥) → SameFact g t u
  unfolding cell_value course_of
  edited_elsewhere g other = record {
    sizes = edited_sizes;
    cell = λ k a hk. edited_cell k a g hk (λ same. other (kind_fact a g k hk ∙ ap cell_fact same));
    lock = λ a. d.others (Lock a g) (λ same. other (ap cell_fact same));
    start = λ r. d.others (Start r g) (λ same. other (ap cell_fact same));
    goal = λ r. d.others (Goal r g) (λ same. other (ap cell_fact same));
  }

  pub keeps_elsewhere : (g : ℕ) → (g ≡ cell_fact e.cell → ⊥) → (l : List ℕ) → KeepsFor t g l → KeepsFor u g l
  keeps_elsewhere g other l = keeps_same g t u (edited_elsewhere g other) l

  pub keeps_elsewhere_back : (g : ℕ) → (g ≡ cell_fact e.cell → ⊥) → (l : List ℕ) → KeepsFor u g l → KeepsFor t g l
  keeps_elsewhere_back g other l = keeps_same_back g t u (edited_elsewhere g other) l
