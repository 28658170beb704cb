-- Laws of a run: it is valid if each fact is right by itself; what a fact's course depends on; and that easing a table keeps a fact right.
use mathlib.Core.Bool.{Bool, true, not, ◌&&◌, ◌||◌}
use mathlib.Core.Logic.{⊎_elim}
use mathlib.Core.Path.{◌≡◌, refl, sym, ap, ◌∙◌}
use Prim.Native.Nat.{ℕ, zero, suc, ◌+◌, ◌<◌, ◌≤◌}
use native.Mathlib.Nat.{le_refl, le_of_lt}
use native.Mathlib.Numerals.{add-one}
use native.Mathlib.Omega.{arith}
use Rattle.table.proofs.FlagLaws.{or_cases, or_left, or_right, and_left, and_right, and_both, not_shrinks}
use Rattle.table.specs.Strips.{Cells, Course, Courses, state_at, Valid, Right, AllValid, AllRight}

-- ---- each fact by itself

pub valid_right : (c : Cells) (r : Course) → Valid c r → (f : ℕ) → Right c r f
valid_right c r v f = record { needed = λ i h. v.may_run i h f; wanted = v.reaches f }

pub right_valid : (c : Cells) (r : Course) → ((f : ℕ) → Right c r f) → Valid c r
right_valid c r v = record { may_run = λ i h f. (v f).needed i h; reaches = λ f. (v f).wanted }

pub valid_all_right : (c : Cells) (rs : Courses) → AllValid c rs → (f : ℕ) → AllRight c rs f
valid_all_right c rs v f i h = valid_right c (rs.course i) (v i h) f

pub right_all_valid : (c : Cells) (rs : Courses) → ((f : ℕ) → AllRight c rs f) → AllValid c rs
right_all_valid c rs v i h = right_valid c (rs.course i) (λ f. v f i h)

-- ---- the state, as a loop over the steps has it

pub state_at_first : (c : Cells) (r : Course) (f : ℕ) → state_at c r 0 f ≡ r.start f
unfolding state_at
state_at_first c r f = refl

pub state_at_next : (c : Cells) (r : Course) (i f : ℕ)
    → state_at c r (i + 1) f ≡ (state_at c r i f && not (c.deletes (r.step i) f) || c.adds (r.step i) f)
unfolding state_at
state_at_next c r i f = rw (add-one i)

-- ---- a fact's course depends on that fact alone

-- Two tables agree at fact f, for the actions that the run takes.
pub record SameAt (f : ℕ) (r : Course) (c d : Cells) : Type 0 where
  pub needs : (i : ℕ) → i < r.count → c.needs (r.step i) f ≡ d.needs (r.step i) f
  pub adds : (i : ℕ) → i < r.count → c.adds (r.step i) f ≡ d.adds (r.step i) f
  pub deletes : (i : ℕ) → i < r.count → c.deletes (r.step i) f ≡ d.deletes (r.step i) f

-- Two runs take the same steps, and agree at fact f at the start and in the goal.
pub record SameCourseAt (f : ℕ) (r s : Course) : Type 0 where
  pub start : r.start f ≡ s.start f
  pub goal : r.goal f ≡ s.goal f
  pub count : r.count ≡ s.count
  pub steps : (i : ℕ) → i < r.count → r.step i ≡ s.step i

pub same_course_refl : (f : ℕ) (r : Course) → SameCourseAt f r r
same_course_refl f r = record { start = refl; goal = refl; count = refl; steps = λ i h. refl }

pub same_course_sym : (f : ℕ) (r s : Course) → SameCourseAt f r s → SameCourseAt f s r
same_course_sym f r s same = record {
  start = sym same.start;
  goal = sym same.goal;
  count = sym same.count;
  steps = λ i h. sym (same.steps i (omega (arith, same.count)));
}

-- As many runs, each the same at fact f.
pub record SameCoursesAt (f : ℕ) (rs ss : Courses) : Type 0 where
  pub many : rs.many ≡ ss.many
  pub each : (i : ℕ) → i < rs.many → SameCourseAt f (rs.course i) (ss.course i)

pub same_courses_sym : (f : ℕ) (rs ss : Courses) → SameCoursesAt f rs ss → SameCoursesAt f ss rs
same_courses_sym f rs ss same = record {
  many = sym same.many;
  each = λ i h. same_course_sym f (rs.course i) (ss.course i) (same.each i (omega (arith, same.many)));
}

module _ (f : ℕ) (r s : Course) (c d : Cells) (table : SameAt f r c d) (run : SameCourseAt f r s) where
  pub state_at_same : (i : ℕ) → i ≤ r.count → state_at c r i f ≡ state_at d s i f
  unfolding state_at
  state_at_same zero h = run.start
  state_at_same (suc i) h =
      let deletes = table.deletes i h ∙ ap (λ a. d.deletes a f) (run.steps i h) in
      let adds = table.adds i h ∙ ap (λ a. d.adds a f) (run.steps i h) in
      let before = state_at_same i (le_of_lt h) in
      λ j. before j && not (deletes j) || adds j

  pub right_same : Right c r f → Right d s f
  right_same right = record {
    needed = λ i h n.
        let inside : i < r.count = omega (arith, run.count) in
        sym (state_at_same i (le_of_lt inside)) ∙
        right.needed i inside (table.needs i inside ∙ ap (λ a. d.needs a f) (run.steps i inside) ∙ n);
    wanted = λ g.
        ap (λ i. state_at d s i f) (sym run.count) ∙ sym (state_at_same r.count (le_refl r.count)) ∙
        right.wanted (run.goal ∙ g);
  }

pub all_right_same : (f : ℕ) (rs ss : Courses) (c d : Cells) → ((i : ℕ) → i < rs.many → SameAt f (rs.course i) c d) → SameCoursesAt f rs ss
    → AllRight c rs f → AllRight d ss f
all_right_same f rs ss c d table same right i h =
    let inside : i < rs.many = omega (arith, same.many) in
    right_same f (rs.course i) (ss.course i) c d (table i inside) (same.each i inside) (right i inside)

-- ---- an eased table keeps a fact right

-- At fact f, and for the actions that the run takes, d adds whatever c adds, and deletes and needs no more than c does.
pub record Eases (f : ℕ) (r : Course) (c d : Cells) : Type 0 where
  pub needs : (i : ℕ) → i < r.count → d.needs (r.step i) f ≡ true → c.needs (r.step i) f ≡ true
  pub adds : (i : ℕ) → i < r.count → c.adds (r.step i) f ≡ true → d.adds (r.step i) f ≡ true
  pub deletes : (i : ℕ) → i < r.count → d.deletes (r.step i) f ≡ true → c.deletes (r.step i) f ≡ true

-- One step: from more, with fewer deletes and more adds, comes more.
step_grows : (s t e e' a a' : Bool) → (s ≡ true → t ≡ true) → (e' ≡ true → e ≡ true) → (a ≡ true → a' ≡ true)
    → (s && not e || a) ≡ true → (t && not e' || a') ≡ true
step_grows s t e e' a a' more fewer adds h =
    ⊎_elim
    (λ k. or_left (t && not e') a' (and_both t (not e') (more (and_left s (not e) k)) (not_shrinks e' e fewer (and_right s (not e) k))))
    (λ k. or_right (t && not e') a' (adds k)) (or_cases (s && not e) a h)

module _ (f : ℕ) (r : Course) (c d : Cells) (eased : Eases f r c d) where
  pub state_grows : (i : ℕ) → i ≤ r.count → state_at c r i f ≡ true → state_at d r i f ≡ true
  unfolding state_at
  state_grows zero h k = k
  state_grows (suc i) h k =
      step_grows (state_at c r i f) (state_at d r i f) (c.deletes (r.step i) f) (d.deletes (r.step i) f)
      (c.adds (r.step i) f) (d.adds (r.step i) f) (state_grows i (le_of_lt h)) (eased.deletes i h) (eased.adds i h) k

  pub right_eases : Right c r f → Right d r f
  right_eases right = record {
    needed = λ i h n. state_grows i (le_of_lt h) (right.needed i h (eased.needs i h n));
    wanted = λ g. state_grows r.count (le_refl r.count) (right.wanted g);
  }
