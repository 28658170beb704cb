-- Laws of the answer: there is one at most, it depends only on which lists there are, a list works if its part of each fact keeps that
-- fact right, and what keeps a fact right depends on that fact alone.
use mathlib.Core.Bool.{Bool, true, false, not, ◌&&◌, ◌||◌, true≢false, false≢true}
use mathlib.Core.List.{List, ◌++◌}
use mathlib.Core.Logic.{◌↔◌, ⊎_elim}
use mathlib.Core.Path.{◌≡◌, refl, sym, ap, ◌∙◌, subst}
use Prim.Native.Nat.{ℕ, ◌<◌, ◌≤◌}
use native.Mathlib.Omega.{arith}
use lib.Dec.{ltb}
use lib.ListN.{length}
use Rattle.table.proofs.OrderLaws.{≼_refl, ≼_length, ≼_trans, ≼_antisymmetric, ascending_append, ascending_raise, is_in_either}
use Rattle.table.proofs.RepairNumbers.{permitted_inside}
use Rattle.table.proofs.RunLaws.{SameAt, SameCoursesAt, all_right_same}
use Rattle.table.specs.Answer.{Permitted, Keeps, First, Verdict, found, over, hopeless, Within}
use Rattle.table.specs.Join.{is_hopeless, is_over, found_list}
use Rattle.table.specs.Order.{Ascending, is_in, ◌≼◌}
use Rattle.table.specs.Repairs.{drop_delete, add_effect, drop_need, by_kind, permits, permitted, chosen, repaired, fact_of, kind_of, action_of}
use Rattle.table.specs.Strips.{Cells, Course, Courses}

-- ---- one answer

pub first_unique : (G : List ℕ → Type 0) (l m : List ℕ) → First G l → First G m → l ≡ m
first_unique G l m p q = ≼_antisymmetric l m (p.least m q.member) (q.least l p.member)

pub within_unique : (G : List ℕ → Type 0) (k : ℕ) (u v : Verdict) → Within G k u → Within G k v → u ≡ v
within_unique G k (found l) (found m) p q = ap found (first_unique G l m p.0 q.0)
within_unique G k (found l) over p q = absurd (omega (arith, p.1, q.1 l p.0.member))
within_unique G k (found l) hopeless p q = absurd (q l p.0.member)
within_unique G k over (found m) p q = absurd (omega (arith, q.1, p.1 m q.0.member))
within_unique G k over over p q = refl
within_unique G k over hopeless p q = absurd (q p.0.0 p.0.1)
within_unique G k hopeless (found m) p q = absurd (p m q.0.member)
within_unique G k hopeless over p q = absurd (p q.0.0 q.0.1)
within_unique G k hopeless hopeless p q = refl

-- ---- more lists, each of which has one of ours before it: the same verdict

module _ (G H : List ℕ → Type 0) (there : (m : List ℕ) → G m → H m) (before : (m : List ℕ) → H m → (l : List ℕ) × G l × (l ≼ m)) where
  pub more_first : (l : List ℕ) → First G l ↔ First H l
  more_first l = (
    λ p. record { member = there l p.member; least = λ m h. let w = before m h in ≼_trans l w.0 m (p.least w.0 w.1) w.2 },
    λ p.
        let w = before l p.member in
        let same = ≼_antisymmetric w.0 l w.2 (p.least w.0 (there w.0 w.1)) in
        record { member = subst G same w.1; least = λ m g. p.least m (there m g) },
  )

  pub more_within : (k : ℕ) (v : Verdict) → Within G k v ↔ Within H k v
  more_within k (found l) = (λ p. ((more_first l).0 p.0, p.1), λ p. ((more_first l).1 p.0, p.1))
  more_within k over = (
    λ p. ((p.0.0, there p.0.0 p.0.1), λ m h. let w = before m h in omega (arith, p.1 w.0 w.1, ≼_length w.0 m w.2)),
    λ p. let w = before p.0.0 p.0.1 in ((w.0, w.1), λ m g. p.1 m (there m g)),
  )
  more_within k hopeless = (λ p m h. let w = before m h in p w.0 w.1, λ p m g. p m (there m g))

-- The same lists, each before itself.
module _ (G H : List ℕ → Type 0) (there : (m : List ℕ) → G m → H m) (back : (m : List ℕ) → H m → G m) where
  pub first_same : (l : List ℕ) → First G l → First H l
  first_same l = (more_first G H there (λ m h. (m, back m h, ≼_refl m)) l).0

  pub within_same : (k : ℕ) (v : Verdict) → Within G k v → Within H k v
  within_same k v = (more_within G H there (λ m h. (m, back m h, ≼_refl m)) k v).0

-- ---- permitted lists

-- A permitted repair is of a fact of the task.
pub permitted_fact : (c : Cells) (n : ℕ) → permitted c n ≡ true → fact_of n < c.facts
permitted_fact c n h = (permitted_inside c n h).0

pub permitted_part : (c : Cells) (l part : List ℕ) → Permitted c l → Ascending part
    → ((n : ℕ) → is_in part n ≡ true → is_in l n ≡ true) → Permitted c part
permitted_part c l part p u inside = record { ascending = u; each = λ n h. p.each n (inside n h) }

pub permitted_append : (c : Cells) (mid : ℕ) (a b : List ℕ) → Permitted c a → Permitted c b
    → ((n : ℕ) → is_in a n ≡ true → n < mid) → ((n : ℕ) → is_in b n ≡ true → mid ≤ n) → Permitted c (a ++ b)
permitted_append c mid a b p q below above = record {
  ascending = ascending_append 0 mid a b p.ascending below (omega arith) (ascending_raise 0 mid b q.ascending above);
  each = λ n h. ⊎_elim (p.each n) (q.each n) (is_in_either a b n h);
}

-- ---- a list that keeps a fact right

-- Two tables agree at fact f, whatever the action.
pub record AlikeAt (f : ℕ) (c d : Cells) : Type 0 where
  pub inside : ltb f c.facts ≡ ltb f d.facts
  pub actions : c.actions ≡ d.actions
  pub needs : (a : ℕ) → c.needs a f ≡ d.needs a f
  pub adds : (a : ℕ) → c.adds a f ≡ d.adds a f
  pub deletes : (a : ℕ) → c.deletes a f ≡ d.deletes a f
  pub locks : (a : ℕ) → c.locks a f ≡ d.locks a f

pub alike_sym : (f : ℕ) (c d : Cells) → AlikeAt f c d → AlikeAt f d c
alike_sym f c d same = record {
  inside = sym same.inside;
  actions = sym same.actions;
  needs = λ a. sym (same.needs a);
  adds = λ a. sym (same.adds a);
  deletes = λ a. sym (same.deletes a);
  locks = λ a. sym (same.locks a);
}

module _ (f : ℕ) (c d : Cells) (same : AlikeAt f c d) where
  -- The same repairs of the fact are permitted, and with the same repairs applied its cells are the same.
  alike_permitted : (n : ℕ) → fact_of n ≡ f → permitted c n ≡ permitted d n
  unfolding permitted permits
  alike_permitted n own =
      let a = action_of n in
      subst (λ (g : ℕ). permits c g (kind_of n) a ≡ permits d g (kind_of n) a) (sym own)
      (λ j. same.inside j && ltb a (same.actions j) && by_kind (kind_of n) (same.deletes a j) (not (same.adds a j)) (same.needs a j && not (same.locks a j)))

  alike_repaired : (r : Course) (R : ℕ → Bool) → SameAt f r (repaired c R) (repaired d R)
  alike_repaired r R = record {
    needs = λ i h j. same.needs (r.step i) j && not (chosen R f drop_need (r.step i));
    adds = λ i h j. same.adds (r.step i) j || chosen R f add_effect (r.step i);
    deletes = λ i h j. same.deletes (r.step i) j && not (chosen R f drop_delete (r.step i));
  }

  -- What keeps a fact right depends only on its cells, its courses and what is permitted.
  pub keeps_alike : (rs ss : Courses) → SameCoursesAt f rs ss → (l : List ℕ) → Keeps c rs f l → Keeps d ss f l
  keeps_alike rs ss courses l keeps = record {
    permitted = record {
      ascending = keeps.permitted.ascending;
      each = λ n h. sym (alike_permitted n (keeps.own n h)) ∙ keeps.permitted.each n h;
    };
    own = keeps.own;
    right = all_right_same f rs ss (repaired c (is_in l)) (repaired d (is_in l)) (λ i h. alike_repaired (rs.course i) (is_in l)) courses keeps.right;
  }

-- ---- what the flags of a verdict say

module _ (G : List ℕ → Type 0) (k : ℕ) where
  pub hopeless_none : (v : Verdict) → Within G k v → is_hopeless v ≡ true → (m : List ℕ) → G m → ⊥
  unfolding is_hopeless
  hopeless_none (found l) p e = absurd (false≢true e)
  hopeless_none over p e = absurd (false≢true e)
  hopeless_none hopeless p e = p

  pub hopeful_some : (v : Verdict) → Within G k v → is_hopeless v ≡ false → (m : List ℕ) × G m
  unfolding is_hopeless
  hopeful_some (found l) p e = (l, p.0.member)
  hopeful_some over p e = p.0
  hopeful_some hopeless p e = absurd (true≢false e)

  pub over_longer : (v : Verdict) → Within G k v → is_over v ≡ true → (m : List ℕ) → G m → k < length m
  unfolding is_over
  over_longer (found l) p e = absurd (false≢true e)
  over_longer over p e = p.1
  over_longer hopeless p e = absurd (false≢true e)

  pub neither_first : (v : Verdict) → Within G k v → is_hopeless v ≡ false → is_over v ≡ false → First G (found_list v)
  unfolding is_hopeless is_over found_list
  neither_first (found l) p e d = p.0
  neither_first over p e d = absurd (true≢false d)
  neither_first hopeless p e d = absurd (true≢false e)
