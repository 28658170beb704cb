-- The fullest list, all permitted repairs of a table: it works if any list does. With it every action adds every fact, and needs only what is
-- locked (02, request 6); so it works where each run without steps has its goals at its start, and every other run the locked needs of its
-- first step. Assumes nothing.
use mathlib.Core.Bool.{Bool, true, false, not, ◌&&◌, false≢true}
use mathlib.Core.List.{List, [], ◌∷◌}
use mathlib.Core.Path.{◌≡◌, refl, sym, ap, ◌∙◌, subst}
use Prim.Native.Nat.{ℕ, ◌+◌, ◌-◌, ◌<◌, ◌≤◌}
use native.Mathlib.Omega.{arith}
use borrow.Author.Tests.{lt-ltb}
use lib.Dec.{ltb}
use Rattle.table.specs.Answer.{Permitted, Works}
use Rattle.table.specs.Join.{Inside}
use Rattle.table.specs.Lists.{piece}
use Rattle.table.specs.Order.{is_in}
use Rattle.table.specs.Repairs.{repairable, permitted, chosen, repaired, number_of, add_effect, drop_need}
use Rattle.table.specs.Sizes.{max_facts, max_actions, kinds, last_repair}
use Rattle.table.specs.Strips.{Cells, Course, Courses, Right, state_at}
use Rattle.table.proofs.AnswerLaws.{permitted_fact}
use Rattle.table.proofs.FlagLaws.{and_left, and_right, and_both, or_left, or_right, by_order}
use Rattle.table.proofs.GatherLaws.{gather_same, passing, passing_from, passing_has, passing_ascending}
use Rattle.table.proofs.JoinLaws.{right_outside}
use Rattle.table.proofs.RepairLaws.{right_more}
use Rattle.table.proofs.RepairNumbers.{inside_permits, permitted_number}
use Rattle.table.proofs.RunLaws.{state_at_first, state_at_next, valid_all_right, right_all_valid}
use Rattle.solve.specs.Stuck.{fullest}

-- A run's steps are actions of the table; if it has none, its goals hold at its start, and else the locked needs of its first step do.
pub record Able (c : Cells) (r : Course) : Type 0 where
  pub below : (i : ℕ) → i < r.count → r.step i < c.actions
  pub goals : r.count ≡ 0 → (f : ℕ) → r.goal f ≡ true → r.start f ≡ true
  pub first : 0 < r.count → (f : ℕ) → c.locks (r.step 0) f ≡ true → r.start f ≡ true

abbrev pub AllAble : Cells → Courses → Type 0
AllAble c rs = (i : ℕ) → i < rs.many → Able c (rs.course i)

fullest_passing : (c : Cells) → fullest c ≡ passing (permitted c) 0 (last_repair + 1)
unfolding fullest passing
fullest_passing c =
    gather_same (λ n. piece (permitted c n) (n ∷ [])) (λ n. piece (permitted c n) ((0 + n) ∷ [])) (last_repair + 1) (λ n h.
    let e : n ≡ 0 + n = omega arith in
    ap (λ (m : ℕ). piece (permitted c n) (m ∷ [])) e)

module _ (c : Cells) (facts : c.facts ≤ max_facts) (actions : c.actions ≤ max_actions) where
  abbrev full : Cells
  full = repaired c (is_in (fullest c))

  fullest_permitted : Permitted c (fullest c)
  fullest_permitted = subst (Permitted c) (sym (fullest_passing c)) (record {
    ascending = passing_ascending (permitted c) 0 (last_repair + 1);
    each = λ n h.
        let d = passing_from (permitted c) 0 (last_repair + 1) n h in
        let e : n ≡ d.index = omega (arith, d.number) in
        ap (permitted c) e ∙ d.passes;
  })

  fullest_has : (n : ℕ) → permitted c n ≡ true → is_in (fullest c) n ≡ true
  fullest_has n h =
      let e : 0 + n ≡ n = omega arith in
      subst (λ l. is_in l n ≡ true) (sym (fullest_passing c))
      (subst (λ (m : ℕ). is_in (passing (permitted c) 0 (last_repair + 1)) m ≡ true) e
      (passing_has (permitted c) 0 (last_repair + 1) n (omega (arith, permitted_fact c n h)) h))

  -- Working is monotone.
  pub fullest_works : (rs : Courses) (l : List ℕ) → Works c rs l → Works c rs (fullest c)
  fullest_works rs l w = record {
    permitted = fullest_permitted;
    valid = right_all_valid full rs (λ f.
        right_more c rs f (is_in l) (is_in (fullest c)) (λ n own h. fullest_has n (w.permitted.each n h))
        (valid_all_right (repaired c (is_in l)) rs w.valid f));
  }

  -- ---- a fact of the table with the fullest list applied

  module _ (f : ℕ) (inside : f < c.facts) where
    fullest_chosen : (k a : ℕ) → k < kinds → a < c.actions → repairable c f k a ≡ true → chosen (is_in (fullest c)) f k a ≡ true
    unfolding chosen
    fullest_chosen k a hk ha h =
        let low : a < max_actions = omega arith in
        and_both (ltb a max_actions) (is_in (fullest c) (number_of f k a)) (lt-ltb a max_actions low)
        (fullest_has (number_of f k a) (permitted_number c f k a hk low ∙ inside_permits c f k a inside ha h))

    fullest_needs : (a : ℕ) → a < c.actions → full.needs a f ≡ true → c.locks a f ≡ true
    fullest_needs a ha h = pick (c.locks a f) refl
      where
        pick : (b : Bool) → c.locks a f ≡ b → c.locks a f ≡ true
        pick true e = e
        pick false e =
            let dropped = fullest_chosen drop_need a (omega arith) ha (and_both (c.needs a f) (not (c.locks a f)) (and_left (c.needs a f) _ h) (ap not e)) in
            absurd (false≢true (ap not (sym dropped) ∙ and_right (c.needs a f) (not (chosen (is_in (fullest c)) f drop_need a)) h))

    fullest_adds : (a : ℕ) → a < c.actions → full.adds a f ≡ true
    fullest_adds a ha = pick (c.adds a f) refl
      where
        pick : (b : Bool) → c.adds a f ≡ b → full.adds a f ≡ true
        pick true e = or_left (c.adds a f) (chosen (is_in (fullest c)) f add_effect a) e
        pick false e =
            or_right (c.adds a f) (chosen (is_in (fullest c)) f add_effect a) (fullest_chosen add_effect a (omega arith) ha (ap not e))

    module _ (r : Course) (able : Able c r) where
      -- After a step the fact is there.
      after_step : (i : ℕ) → 0 < i → i ≤ r.count → state_at full r i f ≡ true
      after_step i some low =
          let e : i - 1 + 1 ≡ i = omega arith in
          ap (λ (j : ℕ). state_at full r j f) (sym e) ∙ state_at_next full r (i - 1) f ∙
          or_right (state_at full r (i - 1) f && not (full.deletes (r.step (i - 1)) f)) (full.adds (r.step (i - 1)) f)
          (fullest_adds (r.step (i - 1)) (able.below (i - 1) (omega arith)))

      at_start : (i : ℕ) → i ≡ 0 → r.start f ≡ true → state_at full r i f ≡ true
      at_start i e h = ap (λ (j : ℕ). state_at full r j f) e ∙ state_at_first full r f ∙ h

      fullest_right : Right full r f
      fullest_right = record {
        needed = λ i l n. by_order 0 i (λ some. after_step i some (omega arith)) (λ none. first i l (omega arith) (fullest_needs (r.step i) (able.below i l) n));
        wanted = λ g. by_order 0 r.count (λ some. after_step r.count some (omega arith)) (λ none. ended (omega arith) g);
      }
        where
          first : (i : ℕ) → i < r.count → i ≡ 0 → c.locks (r.step i) f ≡ true → state_at full r i f ≡ true
          first i l e locked = at_start i e (able.first (omega arith) f (subst (λ (j : ℕ). c.locks (r.step j) f ≡ true) e locked))

          ended : r.count ≡ 0 → r.goal f ≡ true → state_at full r r.count f ≡ true
          ended e g = at_start r.count e (able.goals e f g)

  pub able_works : (rs : Courses) → Inside c rs → AllAble c rs → Works c rs (fullest c)
  able_works rs outside able = record {
    permitted = fullest_permitted;
    valid = right_all_valid full rs (λ f. by_order f c.facts (λ inside i low. fullest_right f inside (rs.course i) (able i low)) (λ h. right_outside c rs outside f h (is_in (fullest c))));
  }
