-- Laws of repairs: a fact is touched only by the repairs whose numbers name it, more repairs keep a fact right where fewer do, and repairs
-- made one set after another are made at once.
use mathlib.Core.Bool.{Bool, true, false, not, ◌&&◌, ◌||◌, and-true, and-false, and_assoc, or-false, or_assoc, and-or_distrib_left}
use mathlib.Core.List.{List, []}
use mathlib.Core.Path.{◌≡◌, refl, sym, ap, ◌∙◌, subst}
use Prim.Native.Nat.{ℕ, ◌<◌}
use native.Mathlib.Omega.{arith}
use borrow.Author.Tests.{ltb-true, lt-ltb}
use lib.Dec.{ltb}
use Rattle.table.proofs.FlagLaws.{and_exchange, not_shrinks, or_grows, and_grows, same_flag}
use Rattle.table.proofs.RepairNumbers.{kind_cases, kind_of_lt, action_of_lt, number_back}
use Rattle.table.proofs.RunLaws.{SameAt, Eases, same_course_refl, right_same, right_eases}
use Rattle.table.specs.Order.{is_in}
use Rattle.table.specs.Repairs.{drop_delete, add_effect, drop_need, number_of, fact_of, kind_of, action_of, repairable, permits, permitted, chosen, repaired}
use Rattle.table.specs.Sizes.{max_actions, kinds}
use Rattle.table.specs.Strips.{Cells, Course, Courses, AllRight}

-- ---- sets of repairs that agree on one fact's numbers

chosen_same : (f : ℕ) (R S : ℕ → Bool) → ((n : ℕ) → fact_of n ≡ f → R n ≡ S n) → (k a : ℕ) → k < kinds
    → chosen R f k a ≡ chosen S f k a
unfolding chosen
chosen_same f R S agree k a h = pick (ltb a max_actions) refl
  where
    pick : (b : Bool) → ltb a max_actions ≡ b → (b && R (number_of f k a)) ≡ (b && S (number_of f k a))
    pick true e =
        let small : a < max_actions = ltb-true a max_actions e in
        agree (number_of f k a) (omega arith)
    pick false e = refl

pub repaired_same : (c : Cells) (r : Course) (f : ℕ) (R S : ℕ → Bool) → ((n : ℕ) → fact_of n ≡ f → R n ≡ S n)
    → SameAt f r (repaired c R) (repaired c S)
repaired_same c r f R S agree = record {
  needs = λ i h j. c.needs (r.step i) f && not (chosen_same f R S agree drop_need (r.step i) (omega arith) j);
  adds = λ i h j. c.adds (r.step i) f || chosen_same f R S agree add_effect (r.step i) (omega arith) j;
  deletes = λ i h j. c.deletes (r.step i) f && not (chosen_same f R S agree drop_delete (r.step i) (omega arith) j);
}

pub right_agree : (c : Cells) (rs : Courses) (f : ℕ) (R S : ℕ → Bool) → ((n : ℕ) → fact_of n ≡ f → R n ≡ S n)
    → AllRight (repaired c R) rs f → AllRight (repaired c S) rs f
right_agree c rs f R S agree right i h =
    let r = rs.course i in
    right_same f r r (repaired c R) (repaired c S) (repaired_same c r f R S agree) (same_course_refl f r) (right i h)

-- Without repairs the table is as it was.
chosen_none : (f k a : ℕ) → chosen (is_in []) f k a ≡ false
unfolding chosen is_in
chosen_none f k a = and-false (ltb a max_actions)

pub repaired_nothing : (c : Cells) → repaired c (is_in []) ≡ c
repaired_nothing c = λ j. record {
  facts = c.facts;
  actions = c.actions;
  needs = λ a f. kept (c.needs a f) f drop_need a j;
  adds = λ a f. (ap (λ (b : Bool). c.adds a f || b) (chosen_none f add_effect a) ∙ or-false (c.adds a f)) j;
  deletes = λ a f. kept (c.deletes a f) f drop_delete a j;
  locks = c.locks;
}
  where
    kept : (b : Bool) (f k a : ℕ) → (b && not (chosen (is_in []) f k a)) ≡ b
    kept b f k a = ap (λ (x : Bool). b && not x) (chosen_none f k a) ∙ and-true b

-- and so it is for one run and fact
pub repaired_none : (c : Cells) (r : Course) (f : ℕ) → SameAt f r c (repaired c (is_in []))
repaired_none c r f =
    subst (SameAt f r c) (sym (repaired_nothing c)) (record { needs = λ i h. refl; adds = λ i h. refl; deletes = λ i h. refl })

-- ---- working is monotone

chosen_grows : (f : ℕ) (R S : ℕ → Bool) → ((n : ℕ) → fact_of n ≡ f → R n ≡ true → S n ≡ true) → (k a : ℕ) → k < kinds
    → chosen R f k a ≡ true → chosen S f k a ≡ true
unfolding chosen
chosen_grows f R S more k a h = pick (ltb a max_actions) refl
  where
    pick : (b : Bool) → ltb a max_actions ≡ b → (b && R (number_of f k a)) ≡ true → (b && S (number_of f k a)) ≡ true
    pick true e =
        let small : a < max_actions = ltb-true a max_actions e in
        more (number_of f k a) (omega arith)
    pick false e = λ t. t

pub repaired_eases : (c : Cells) (r : Course) (f : ℕ) (R S : ℕ → Bool)
    → ((n : ℕ) → fact_of n ≡ f → R n ≡ true → S n ≡ true) → Eases f r (repaired c R) (repaired c S)
repaired_eases c r f R S more = record {
  needs = λ i h. dropped (c.needs (r.step i) f) drop_need (r.step i) (omega arith);
  adds = λ i h.
      or_grows (c.adds (r.step i) f) (chosen R f add_effect (r.step i)) (chosen S f add_effect (r.step i))
      (chosen_grows f R S more add_effect (r.step i) (omega arith));
  deletes = λ i h. dropped (c.deletes (r.step i) f) drop_delete (r.step i) (omega arith);
}
  where
    -- what S does not drop, R does not drop either
    dropped : (b : Bool) (k a : ℕ) → k < kinds → (b && not (chosen S f k a)) ≡ true → (b && not (chosen R f k a)) ≡ true
    dropped b k a h =
        and_grows b (not (chosen S f k a)) (not (chosen R f k a))
        (not_shrinks (chosen R f k a) (chosen S f k a) (chosen_grows f R S more k a h))

pub right_more : (c : Cells) (rs : Courses) (f : ℕ) (R S : ℕ → Bool)
    → ((n : ℕ) → fact_of n ≡ f → R n ≡ true → S n ≡ true) → AllRight (repaired c R) rs f → AllRight (repaired c S) rs f
right_more c rs f R S more right i h =
    let r = rs.course i in
    right_eases f r (repaired c R) (repaired c S) (repaired_eases c r f R S more) (right i h)

-- ---- the cell that a repair changes

module _ (c : Cells) (f a : ℕ) where
  pub repairable_delete : repairable c f drop_delete a ≡ c.deletes a f
  repairable_delete = refl

  pub repairable_add : repairable c f add_effect a ≡ not (c.adds a f)
  repairable_add = refl

  pub repairable_need : repairable c f drop_need a ≡ (c.needs a f && not (c.locks a f))
  repairable_need = refl

not_or : (x y : Bool) → not (x || y) ≡ (not x && not y)
not_or true y = refl
not_or false y = refl

-- Applying a set of repairs leaves the cells that it does not name.
pub repaired_repairable : (c : Cells) (R : ℕ → Bool) (f k a : ℕ) → k < kinds
    → repairable (repaired c R) f k a ≡ (repairable c f k a && not (chosen R f k a))
repaired_repairable c R f k a =
    kind_cases (λ j. repairable (repaired c R) f j a ≡ (repairable c f j a && not (chosen R f j a))) refl
    (not_or (c.adds a f) (chosen R f add_effect a)) (and_exchange (c.needs a f) (not (chosen R f drop_need a)) (not (c.locks a f))) k

-- ---- one set of repairs after another (02, request 7)

chosen_number : (R : ℕ → Bool) (n : ℕ) → chosen R (fact_of n) (kind_of n) (action_of n) ≡ R n
unfolding chosen
chosen_number R n = rw (lt-ltb (action_of n) max_actions (action_of_lt n)) (ap R (number_back n))

-- With repairs made, what was permitted still is, but for these.
pub permitted_repaired : (c : Cells) (R : ℕ → Bool) (n : ℕ) → permitted (repaired c R) n ≡ (permitted c n && not (R n))
unfolding permitted permits
permitted_repaired c R n =
    let f = fact_of n in
    let k = kind_of n in
    let a = action_of n in
    let inside : Bool = ltb f c.facts && ltb a c.actions in
    ap (λ (b : Bool). inside && b) (repaired_repairable c R f k a (kind_of_lt n)) ∙
    sym (and_assoc inside (repairable c f k a) (not (chosen R f k a))) ∙
    ap (λ (b : Bool). inside && repairable c f k a && not b) (chosen_number R n)

chosen_either : (R S : ℕ → Bool) (f k a : ℕ) → (chosen R f k a || chosen S f k a) ≡ chosen (λ n. R n || S n) f k a
unfolding chosen
chosen_either R S f k a = sym (and-or_distrib_left (ltb a max_actions) (R (number_of f k a)) (S (number_of f k a)))

-- Repairs made on the table with others made are both at once.
pub repaired_again : (c : Cells) (R S : ℕ → Bool) → repaired (repaired c R) S ≡ repaired c (λ n. R n || S n)
repaired_again c R S = λ j. record {
  facts = c.facts;
  actions = c.actions;
  needs = λ a f. dropped (c.needs a f) f drop_need a j;
  adds = λ a f. (or_assoc (c.adds a f) (chosen R f add_effect a) (chosen S f add_effect a) ∙ ap (λ (b : Bool). c.adds a f || b) (chosen_either R S f add_effect a)) j;
  deletes = λ a f. dropped (c.deletes a f) f drop_delete a j;
  locks = c.locks;
}
  where
    dropped : (b : Bool) (f k a : ℕ) → (b && not (chosen R f k a) && not (chosen S f k a)) ≡ (b && not (chosen (λ n. R n || S n) f k a))
    dropped b f k a =
        and_assoc b (not (chosen R f k a)) (not (chosen S f k a)) ∙
        ap (λ (x : Bool). b && x) (sym (not_or (chosen R f k a) (chosen S f k a)) ∙ ap not (chosen_either R S f k a))

-- ---- one fact's part of a list

-- part holds those members of l that are repairs of fact f, and no other repair of f.
pub record PartOf (f : ℕ) (l part : List ℕ) : Type 0 where
  pub within : (n : ℕ) → fact_of n ≡ f → is_in part n ≡ true → is_in l n ≡ true
  pub all : (n : ℕ) → fact_of n ≡ f → is_in l n ≡ true → is_in part n ≡ true

part_agree : (f : ℕ) (l part : List ℕ) → PartOf f l part → (n : ℕ) → fact_of n ≡ f → is_in l n ≡ is_in part n
part_agree f l part p n e = same_flag (is_in l n) (is_in part n) (p.all n e) (p.within n e)

pub right_of_part : (c : Cells) (rs : Courses) (f : ℕ) (l part : List ℕ) → PartOf f l part
    → AllRight (repaired c (is_in l)) rs f → AllRight (repaired c (is_in part)) rs f
right_of_part c rs f l part p = right_agree c rs f (is_in l) (is_in part) (part_agree f l part p)

pub right_of_whole : (c : Cells) (rs : Courses) (f : ℕ) (l part : List ℕ) → PartOf f l part
    → AllRight (repaired c (is_in part)) rs f → AllRight (repaired c (is_in l)) rs f
right_of_whole c rs f l part p =
    right_agree c rs f (is_in part) (is_in l) (λ n e. sym (part_agree f l part p n e))
