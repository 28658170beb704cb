-- "001 permits kind 1 for every fact. Ours leaves out only repairs that do nothing, so least lists are the same" (document 01, "The model and
-- its run"): over the lists that 001 permits, the verdict and the first of the shortest are those over ours.
use mathlib.Core.Bool.{Bool, true, false, not, ◌&&◌, ◌||◌, cond, and-false}
use mathlib.Core.List.{List, [], ◌∷◌}
use mathlib.Core.Logic.{◌↔◌}
use mathlib.Core.Path.{◌≡◌, refl, sym, ap, ◌∙◌}
use Prim.Native.Nat.{ℕ, suc, ◌<◌}
use native.Mathlib.Omega.{arith}
use borrow.Author.Tests.{eqb-true, ltb-true}
use lib.Dec.{eqb, ltb}
use Rattle.table.proofs.AnswerLaws.{more_first, more_within}
use Rattle.table.proofs.FlagLaws.{and_left, and_right, and_both, same_flag, cond_by}
use Rattle.table.proofs.OrderLaws.{ascending_weaken, subset_first}
use Rattle.table.proofs.RepairNumbers.{permitted_number, fact_back, kind_back, action_back}
use Rattle.table.proofs.RunLaws.{SameAt, same_course_refl, right_same, valid_right, right_valid}
use Rattle.table.specs.Answer.{Works, First, Verdict, Within}
use Rattle.table.specs.Order.{Ascending, AscendingFrom, is_in, ◌≼◌}
use Rattle.table.specs.Published.{permits_published, permitted_published, WorksPublished}
use Rattle.table.specs.Repairs.{drop_delete, add_effect, drop_need, by_kind, number_of, fact_of, kind_of, action_of, repairable, permits, permitted, chosen, repaired}
use Rattle.table.specs.Sizes.{max_actions, kinds}
use Rattle.table.specs.Strips.{Cells, Course, Courses}

-- ---- a list without the numbers that fail a test

unfoldable kept : (ℕ → Bool) → List ℕ → List ℕ
kept p [] = []
kept p (x ∷ l) = cond (p x) (x ∷ kept p l) (kept p l)

module _ (p : ℕ → Bool) where
  kept_in : (l : List ℕ) (n : ℕ) → is_in (kept p l) n ≡ (is_in l n && p n)
  unfolding kept is_in
  kept_in [] n = refl
  kept_in (x ∷ l) n = pick (p x) (eqb n x) refl refl (kept_in l n)
    where
      here : (b : Bool) → p x ≡ b → eqb n x ≡ true → p n ≡ b
      here b hb he = ap p (eqb-true n x he) ∙ hb

      pick : (b e : Bool) → p x ≡ b → eqb n x ≡ e → is_in (kept p l) n ≡ (is_in l n && p n)
          → is_in (cond b (x ∷ kept p l) (kept p l)) n ≡ ((e || is_in l n) && p n)
      pick true true hb he rest = rw (he, here true hb he)
      pick true false hb he rest = rw (he) rest
      pick false true hb he rest = rest ∙ rw (here false hb he, and-false (is_in l n))
      pick false false hb he rest = rest

  kept_ascending : (low : ℕ) (l : List ℕ) → AscendingFrom low l → AscendingFrom low (kept p l)
  unfolding kept
  kept_ascending low [] u = tt
  kept_ascending low (x ∷ l) u =
      let rest = kept_ascending (suc x) l u.1 in
      cond_by (AscendingFrom low) (p x) (λ _. (u.0, rest)) (λ _. ascending_weaken low (suc x) (kept p l) (omega (arith, u.0)) rest)

-- ---- what 001 permits beside ours does nothing

module _ (c : Cells) where
  -- an action and a fact of the task
  abbrev inside : ℕ → ℕ → Bool
  inside f a = ltb f c.facts && ltb a c.actions

  permits_published_lem : (f k a : ℕ) → permits c f k a ≡ true → permits_published c f k a ≡ true
  unfolding permits permits_published
  permits_published_lem f k a h =
      and_both (inside f a) (by_kind k (c.deletes a f) true (c.needs a f && not (c.locks a f)))
      (and_left (inside f a) (repairable c f k a) h)
      (more (eqb k drop_delete) (eqb k add_effect) (and_right (inside f a) _ h))
    where
      more : (x y : Bool) → cond x (c.deletes a f) (cond y (not (c.adds a f)) (c.needs a f && not (c.locks a f))) ≡ true
          → cond x (c.deletes a f) (cond y true (c.needs a f && not (c.locks a f))) ≡ true
      more true y p = p
      more false true p = refl
      more false false p = p

  works_published : (rs : Courses) (l : List ℕ) → Works c rs l → WorksPublished c rs l
  unfolding permitted permitted_published
  works_published rs l w = record {
    permitted = record {
      ascending = w.permitted.ascending;
      each = λ n h. permits_published_lem (fact_of n) (kind_of n) (action_of n) (w.permitted.each n h);
    };
    valid = w.valid;
  }

  -- a list that 001 permits, without the repairs that ours does not: what it changes is the same
  module _ (l : List ℕ) (each : (n : ℕ) → is_in l n ≡ true → permitted_published c n ≡ true) where
    chosen_kept : (f k a : ℕ) → k < kinds → (permits_published c f k a ≡ true → permits c f k a ≡ true)
        → chosen (is_in l) f k a ≡ chosen (is_in (kept (permitted c) l)) f k a
    unfolding chosen permitted_published
    chosen_kept f k a h ours = pick (ltb a max_actions) refl
      where
        n : ℕ
        n = number_of f k a

        named : a < max_actions → is_in l n ≡ true → permitted c n ≡ true
        named small there =
            permitted_number c f k a h small
            ∙ ours (rw (fact_back f k a h small, kind_back f k a h small, action_back f k a h small) at (each n there))

        pick : (b : Bool) → ltb a max_actions ≡ b → (b && is_in l n) ≡ (b && is_in (kept (permitted c) l) n)
        pick true e =
            same_flag (is_in l n) (is_in (kept (permitted c) l) n)
            (λ t. kept_in (permitted c) l n ∙ and_both (is_in l n) (permitted c n) t (named (ltb-true a max_actions e) t))
            (λ t. and_left (is_in l n) (permitted c n) (sym (kept_in (permitted c) l n) ∙ t))
        pick false e = refl

    added_kept : (f a : ℕ) → (c.adds a f || chosen (is_in l) f add_effect a) ≡ (c.adds a f || chosen (is_in (kept (permitted c) l)) f add_effect a)
    unfolding permits permits_published
    added_kept f a = pick (c.adds a f) refl
      where
        pick : (b : Bool) → c.adds a f ≡ b → (b || chosen (is_in l) f add_effect a) ≡ (b || chosen (is_in (kept (permitted c) l)) f add_effect a)
        pick true e = refl
        pick false e =
            chosen_kept f add_effect a (omega arith)
            (λ p. and_both (inside f a) (not (c.adds a f)) (and_left (inside f a) true p) (ap not e))

    same_table : (r : Course) (f : ℕ) → SameAt f r (repaired c (is_in l)) (repaired c (is_in (kept (permitted c) l)))
    unfolding permits permits_published
    same_table r f = record {
      needs = λ i h j. c.needs (r.step i) f && not (chosen_kept f drop_need (r.step i) (omega arith) (λ p. p) j);
      adds = λ i h. added_kept f (r.step i);
      deletes = λ i h j. c.deletes (r.step i) f && not (chosen_kept f drop_delete (r.step i) (omega arith) (λ p. p) j);
    }

  published_works : (rs : Courses) (l : List ℕ) → WorksPublished c rs l → (m : List ℕ) × Works c rs m × (m ≼ l)
  published_works rs l w = (
    kept (permitted c) l,
    record {
      permitted = record { ascending = ascending; each = λ n h. and_right (is_in l n) (permitted c n) (from n h) };
      valid = λ i h.
          let r = rs.course i in
          right_valid (repaired c (is_in (kept (permitted c) l))) r
          (λ f.
          right_same f r r (repaired c (is_in l)) (repaired c (is_in (kept (permitted c) l))) (same_table l w.permitted.each r f)
          (same_course_refl f r) (valid_right (repaired c (is_in l)) r (w.valid i h) f));
    },
    subset_first 0 l 0 (kept (permitted c) l) ascending w.permitted.ascending (λ n h. and_left (is_in l n) (permitted c n) (from n h)),
  )
    where
      ascending : Ascending (kept (permitted c) l)
      ascending = kept_ascending (permitted c) 0 l w.permitted.ascending

      from : (n : ℕ) → is_in (kept (permitted c) l) n ≡ true → (is_in l n && permitted c n) ≡ true
      from n h = sym (kept_in (permitted c) l n) ∙ h

-- ---- the theorem

-- The first of the shortest lists is the same, whether or not kind 1 is permitted for every fact.
pub published_first : (c : Cells) (rs : Courses) (l : List ℕ) → First (Works c rs) l ↔ First (WorksPublished c rs) l
published_first c rs = more_first (Works c rs) (WorksPublished c rs) (works_published c rs) (published_works c rs)

-- And so is what there is to say within a limit: refusals 9 and 10 too.
pub published_within : (c : Cells) (rs : Courses) (limit : ℕ) (v : Verdict) → Within (Works c rs) limit v ↔ Within (WorksPublished c rs) limit v
published_within c rs = more_within (Works c rs) (WorksPublished c rs) (works_published c rs) (published_works c rs)
