-- What a certificate says: the verdict on the fact, and so the outcome of solving the task. Assumes nothing.
use mathlib.Core.Bool.{Bool, true, false, not, cond, ◌&&◌, true≢false}
use mathlib.Core.List.{List, [], ◌∷◌}
use mathlib.Core.Logic.{◌⊎◌, inl, inr}
use mathlib.Core.Path.{◌≡◌, refl, sym, ap, ◌∙◌, subst}
use Prim.Native.Nat.{ℕ, ◌+◌, ◌-◌, ◌*◌, ◌<◌}
use lib.Dec.{eqb}
use native.Mathlib.Omega.{arith}
use borrow.Author.Tests.{eqb-true, eqb-false, ltb-true, not-true}
use Rattle.solve.specs.Solving.{told, Solves}
use Rattle.solve.proofs.SolveLaws.{solves_verdict, solve_unique}
use Rattle.table.specs.Counting.{every_below}
use Rattle.table.proofs.DecidingLaws.{is_all_right_lem, all_right_is, is_formed_lem}
use Rattle.table.proofs.FlagLaws.{both, and_both}
use Rattle.table.proofs.CountingLaws.{every_below_all, some_passes}
use Rattle.table.proofs.Formation.{formed_well}
use Rattle.table.proofs.JoinLaws.{permitted_none, join_for}
use Rattle.table.proofs.LockLaws.{locked_stands}
use Rattle.table.proofs.OrderLaws.{compared, is_in_none, is_in_head, is_in_tail, is_in_cases, ≼_none}
use Rattle.table.proofs.RunLaws.{state_at_first}
use Rattle.table.specs.Answer.{Keeps, Verdict, found, over, hopeless, Within}
use Rattle.table.specs.Join.{join_verdicts}
use Rattle.table.specs.Order.{is_in, ◌≼◌}
use Rattle.table.specs.Repairs.{permitted, repaired, fact_of}
use Rattle.table.specs.Sizes.{max_row, per_fact}
use Rattle.table.specs.Strips.{Cells, Course, Courses, Right, state_at, AllRight}
use Rattle.table.specs.Tasks.{cells_of, courses_of, formed, Shaped, WellFormed, WorksFor}
use Rattle.table.specs.declared.Task.{Task}
use Rattle.promises.specs.Certificates.{is_right_with, mends, mend_both, none_mends, none_with, is_shut, certifies, certified}
use Rattle.promises.specs.Determined.{Only}

-- ---- the test of one fact

module _ (c : Cells) (rs : Courses) (f : ℕ) where
  with_right : (l : List ℕ) → is_right_with c rs f l ≡ true → AllRight (repaired c (is_in l)) rs f
  unfolding is_right_with
  with_right l = is_all_right_lem (repaired c (is_in l)) rs f

  right_with : (l : List ℕ) → AllRight (repaired c (is_in l)) rs f → is_right_with c rs f l ≡ true
  unfolding is_right_with
  right_with l = all_right_is (repaired c (is_in l)) rs f

  -- ---- a list of one repair

  single : (P : ℕ → Type 0) (x : ℕ) → P x → (n : ℕ) → is_in (x ∷ []) n ≡ true → P n
  single P x p n h = pick (is_in_cases x [] n h)
    where
      pick : (n ≡ x) ⊎ (is_in [] n ≡ true) → P n
      pick (inl e) = subst P (sym e) p
      pick (inr t) = absurd (is_in_none n t)

  one_keeps : (x : ℕ) → mends c rs f x ≡ true → fact_of x ≡ f → Keeps c rs f (x ∷ [])
  unfolding mends
  one_keeps x h own =
      let p = both (permitted c x) (is_right_with c rs f (x ∷ [])) h in
      record {
        permitted = record { ascending = (omega arith, tt); each = single (λ n. permitted c n ≡ true) x p.0 };
        own = single (λ n. fact_of n ≡ f) x own;
        right = with_right (x ∷ []) p.1;
      }

  keeps_mends : (y : ℕ) → Keeps c rs f (y ∷ []) → mends c rs f y ≡ true
  unfolding mends
  keeps_mends y k = and_both _ _ (k.permitted.each y (is_in_head y [])) (right_with (y ∷ []) k.right)

  -- The code of a repair of the fact, and its number again.
  code_back : (y : ℕ) → fact_of y ≡ f → per_fact * f + (y - per_fact * f) ≡ y
  code_back y own = omega arith

  none_mends_lem : (n : ℕ) → none_mends c rs f n ≡ true → (y : ℕ) → Keeps c rs f (y ∷ []) → y - per_fact * f < n → ⊥
  unfolding none_mends
  none_mends_lem n none y k low =
      let is = code_back y (k.own y (is_in_head y [])) in
      let fails = not-true (mends c rs f (per_fact * f + (y - per_fact * f)))
      (every_below_all (λ i. not (mends c rs f (per_fact * f + i))) n none (y - per_fact * f) low) in
      true≢false (sym (keeps_mends y k) ∙ ap (mends c rs f) (sym is) ∙ fails)

  -- No list that keeps the fact right comes before the one repair.
  module _ (x : ℕ) (own : fact_of x ≡ f) (wrong : not (is_right_with c rs f []) ≡ true)
      (smaller : none_mends c rs f (x - per_fact * f) ≡ true) where
    one_least : (m : List ℕ) → Keeps c rs f m → (x ∷ []) ≼ m
    one_least [] k = absurd (true≢false (sym (right_with [] k.right) ∙ not-true (is_right_with c rs f []) wrong))
    one_least (y ∷ []) k = pick (compared x y)
      where
        pick : (x < y) ⊎ ((x ≡ y) ⊎ (y < x)) → (x ∷ []) ≼ (y ∷ [])
        pick (inl h) = inr (inl (h, refl))
        pick (inr (inl e)) = inr (inr (e, tt))
        pick (inr (inr h)) =
            let same : fact_of y ≡ f = k.own y (is_in_head y []) in
            absurd (none_mends_lem (x - per_fact * f) smaller y k (omega arith))
    one_least (y ∷ z ∷ m) k = inl (omega arith)

  -- ---- a list of two repairs

  pair : (P : ℕ → Type 0) (x y : ℕ) → P x → P y → (n : ℕ) → is_in (x ∷ y ∷ []) n ≡ true → P n
  pair P x y p q n h = pick (is_in_cases x (y ∷ []) n h)
    where
      pick : (n ≡ x) ⊎ (is_in (y ∷ []) n ≡ true) → P n
      pick (inl e) = subst P (sym e) p
      pick (inr t) = single P y q n t

  pair_keeps : (x y : ℕ) → mend_both c rs f x y ≡ true → x < y → fact_of x ≡ f → fact_of y ≡ f → Keeps c rs f (x ∷ y ∷ [])
  unfolding mend_both
  pair_keeps x y h up own_x own-y =
      let p = both (permitted c x && permitted c y) (is_right_with c rs f (x ∷ y ∷ [])) h in
      let q = both (permitted c x) (permitted c y) p.0 in
      record {
        permitted = record { ascending = (omega arith, (up, tt)); each = pair (λ n. permitted c n ≡ true) x y q.0 q.1 };
        own = pair (λ n. fact_of n ≡ f) x y own_x own-y;
        right = with_right (x ∷ y ∷ []) p.1;
      }

  keeps_both : (p q : ℕ) → Keeps c rs f (p ∷ q ∷ []) → mend_both c rs f p q ≡ true
  unfolding mend_both
  keeps_both p q k =
      and_both _ _ (and_both _ _ (k.permitted.each p (is_in_head p (q ∷ []))) (k.permitted.each q (is_in_tail p (q ∷ []) q (is_in_head q []))))
      (right_with (p ∷ q ∷ []) k.right)

  none_with_lem : (n p q : ℕ) → none_with c rs f n p ≡ true → Keeps c rs f (p ∷ q ∷ []) → q - per_fact * f < n → ⊥
  unfolding none_with
  none_with_lem n p q none k low =
      let is = code_back q (k.own q (is_in_tail p (q ∷ []) q (is_in_head q []))) in
      let fails = not-true (mend_both c rs f p (per_fact * f + (q - per_fact * f)))
      (every_below_all (λ j. not (mend_both c rs f p (per_fact * f + j))) n none (q - per_fact * f) low) in
      true≢false (sym (keeps_both p q k) ∙ ap (mend_both c rs f p) (sym is) ∙ fails)

  -- No list that keeps the fact right comes before the pair.
  module _ (x y : ℕ) (own_x : fact_of x ≡ f) (own-y : fact_of y ≡ f) (wrong : not (is_right_with c rs f []) ≡ true) (alone : none_mends c rs f per_fact ≡ true)
      (before : every_below (λ i. none_with c rs f per_fact (per_fact * f + i)) (x - per_fact * f) ≡ true) (with-x : none_with c rs f (y - per_fact * f) x ≡ true) where
    pair_least : (m : List ℕ) → Keeps c rs f m → (x ∷ y ∷ []) ≼ m
    pair_least [] k = absurd (true≢false (sym (right_with [] k.right) ∙ not-true (is_right_with c rs f []) wrong))
    pair_least (p ∷ []) k =
        let own : fact_of p ≡ f = k.own p (is_in_head p []) in
        absurd (none_mends_lem per_fact alone p k (omega arith))
    pair_least (p ∷ q ∷ []) k = first (compared x p)
      where
        own_p : fact_of p ≡ f
        own_p = k.own p (is_in_head p (q ∷ []))

        own_q : fact_of q ≡ f
        own_q = k.own q (is_in_tail p (q ∷ []) q (is_in_head q []))

        second : x ≡ p → (y < q) ⊎ ((y ≡ q) ⊎ (q < y)) → (x ∷ y ∷ []) ≼ (p ∷ q ∷ [])
        second e (inl h) = inr (inr (e, inl (h, refl)))
        second e (inr (inl g)) = inr (inr (e, inr (g, tt)))
        second e (inr (inr h)) =
            let low : q - per_fact * f < y - per_fact * f = omega (arith, own_q, own-y) in
            absurd (none_with_lem (y - per_fact * f) p q (subst (λ (n : ℕ). none_with c rs f (y - per_fact * f) n ≡ true) e with-x) k low)

        first : (x < p) ⊎ ((x ≡ p) ⊎ (p < x)) → (x ∷ y ∷ []) ≼ (p ∷ q ∷ [])
        first (inl h) = inr (inl (h, refl))
        first (inr (inl e)) = second e (compared y q)
        first (inr (inr h)) =
            let low : p - per_fact * f < x - per_fact * f = omega (arith, own_p, own_x) in
            let none = every_below_all (λ i. none_with c rs f per_fact (per_fact * f + i)) (x - per_fact * f) before (p - per_fact * f) low in
            absurd (none_with_lem per_fact p q (subst (λ (n : ℕ). none_with c rs f per_fact n ≡ true) (code_back p own_p) none) k (omega (arith, own_q)))
    pair_least (p ∷ q ∷ z ∷ m) k = inl (omega arith)

  -- ---- a run that no list helps

  shut_none : (r : Course) → is_shut c f r ≡ true → (m : List ℕ) → ((n : ℕ) → is_in m n ≡ true → permitted c n ≡ true)
      → Right (repaired c (is_in m)) r f → ⊥
  unfolding is_shut
  shut_none r h m each right = pick (eqb r.count 0) refl parts.1
    where
      parts : (not (r.start f) ≡ true) × (cond (eqb r.count 0) (r.goal f) (c.needs (r.step 0) f && c.locks (r.step 0) f) ≡ true)
      parts = both (not (r.start f)) (cond (eqb r.count 0) (r.goal f) (c.needs (r.step 0) f && c.locks (r.step 0) f)) h

      absent : state_at (repaired c (is_in m)) r 0 f ≡ false
      absent = state_at_first (repaired c (is_in m)) r f ∙ not-true (r.start f) parts.0

      pick : (b : Bool) → eqb r.count 0 ≡ b → cond b (r.goal f) (c.needs (r.step 0) f && c.locks (r.step 0) f) ≡ true → ⊥
      pick true e g =
          true≢false (sym (right.wanted g) ∙ ap (λ (i : ℕ). state_at (repaired c (is_in m)) r i f) (eqb-true r.count 0 e) ∙ absent)
      pick false e g =
          let p = both (c.needs (r.step 0) f) (c.locks (r.step 0) f) g in
          let some = eqb-false r.count 0 e in
          true≢false (sym (right.needed 0 (omega (arith, some)) (locked_stands c m each (r.step 0) f p.1 p.0)) ∙ absent)

  -- ---- the certificate of one fact

  certifies_within : (v : Verdict) → certifies c rs f v ≡ true → Within (Keeps c rs f) max_row v
  unfolding certifies
  certifies_within (found []) h = (
    record {
      member = record { permitted = permitted_none c rs; own = λ n t. absurd (is_in_none n t); right = with_right [] h };
      least = λ m _. ≼_none m;
    },
    omega arith,
  )
  certifies_within (found (x ∷ [])) h =
      let p = both _ _ h in
      let q = both _ _ p.0 in
      let s = both _ _ q.0 in
      let own = eqb-true _ _ s.1 in
      (record { member = one_keeps x s.0 own; least = one_least x own q.1 p.1 }, omega arith)
  certifies_within (found (x ∷ y ∷ [])) h =
      let p = both _ _ h in
      let q = both _ _ p.0 in
      let s = both _ _ q.0 in
      let u = both _ _ s.0 in
      let v = both _ _ u.1 in
      let w = both _ _ v.0 in
      let z = both _ _ s.1 in
      let own_x = eqb-true _ _ w.1 in
      let own-y = eqb-true _ _ v.1 in
      (record { member = pair_keeps x y u.0 (ltb-true x y w.0) own_x own-y; least = pair_least x y own_x own-y z.0 z.1 q.1 p.1 }, omega arith)
  certifies_within (found (x ∷ y ∷ z ∷ l)) h = absurd (true≢false (sym h))
  certifies_within over h = absurd (true≢false (sym h))
  certifies_within hopeless h = λ m k.
      let w = some_passes _ rs.many h in
      shut_none (rs.course w.0) w.2 m k.permitted.each (k.right w.0 w.1)

-- ---- the certificate of a task

module _ (t : Task) (v : ℕ → Verdict) (h : certified t v ≡ true) where
  certified_parts : Shaped t × (formed t ≡ true) × ((f : ℕ) → f < t.table.facts → certifies (cells_of t.table) (courses_of t) f (v f) ≡ true)
  unfolding certified
  certified_parts =
      let p = both _ _ h in
      let q = is_formed_lem t p.0 in
      (q.0, q.1, every_below_all _ _ p.1)

  pub certified_well : WellFormed t
  certified_well = let p = certified_parts in formed_well t p.0 p.1

  -- The verdicts joined are the task's, and told into whatever room is lent.
  pub certified_within : (whole : Verdict) → join_verdicts v t.table.facts t.table.limit ≡ whole → Within (WorksFor t) t.table.limit whole
  certified_within whole e =
      subst (Within (WorksFor t) t.table.limit) e
      (join_for t certified_well v (λ f low. certifies_within (cells_of t.table) (courses_of t) f (v f) (certified_parts.2 f low)))

  pub certified_only : (whole : Verdict) → join_verdicts v t.table.facts t.table.limit ≡ whole → (room : List ℕ) → Only (Solves t room) (told whole room)
  certified_only whole e room =
      let solved = solves_verdict t room certified_well whole (certified_within whole e) (told whole room) refl in
      record { allowed = solved; others = λ q a. solve_unique t room q (told whole room) a solved }
