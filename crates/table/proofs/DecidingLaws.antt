-- What the computing tests of specs/Deciding say. Assumes nothing.
use mathlib.Core.Bool.{Bool, true, false, not, ◌&&◌, ◌||◌, true≢false}
use mathlib.Core.List.{List, [], ◌∷◌}
use mathlib.Core.Path.{◌≡◌, refl, sym, subst}
use Prim.Native.Nat.{ℕ, zero, suc, ◌+◌, ◌<◌}
use native.Mathlib.Omega.{arith}
use borrow.Author.Tests.{eqb-true}
use lib.Dec.{eqb}
use lib.ListN.{length, get_or}
use Rattle.table.proofs.FlagLaws.{both, and_both}
use Rattle.table.proofs.CountingLaws.{every_below_all, all_every_below}
use Rattle.table.specs.Counting.{every_below}
use Rattle.table.specs.Deciding.{is_right, is_all_right, is_shaped, every_place, is_formed}
use Rattle.table.specs.Sizes.{max_actions, all_steps}
use Rattle.table.specs.Strips.{Cells, Course, Courses, state_at, Right, AllRight}
use Rattle.table.specs.Tasks.{step_fits, step_formed, formed, Shaped}
use Rattle.table.specs.declared.Task.{Task}

-- `not a || b` says that a gives b.
implies : (a b : Bool) → (not a || b) ≡ true → a ≡ true → b ≡ true
implies true b h e = h
implies false b h e = absurd (true≢false (sym e))

implied : (a b : Bool) → (a ≡ true → b ≡ true) → (not a || b) ≡ true
implied true b h = h refl
implied false b h = refl

is_right_lem : (c : Cells) (r : Course) (f : ℕ) → is_right c r f ≡ true → Right c r f
unfolding is_right
is_right_lem c r f h =
    let p = both (every_below (λ i. not (c.needs (r.step i) f) || state_at c r i f) r.count) _ h in
    record { needed = λ i low. implies _ _ (every_below_all _ r.count p.0 i low); wanted = implies _ _ p.1 }

right_is : (c : Cells) (r : Course) (f : ℕ) → Right c r f → is_right c r f ≡ true
unfolding is_right
right_is c r f h = and_both _ _ (all_every_below _ r.count (λ i low. implied _ _ (h.needed i low))) (implied _ _ h.wanted)

pub is_all_right_lem : (c : Cells) (rs : Courses) (f : ℕ) → is_all_right c rs f ≡ true → AllRight c rs f
unfolding is_all_right
is_all_right_lem c rs f h i low = is_right_lem c (rs.course i) f (every_below_all (λ i. is_right c (rs.course i) f) rs.many h i low)

pub all_right_is : (c : Cells) (rs : Courses) (f : ℕ) → AllRight c rs f → is_all_right c rs f ≡ true
unfolding is_all_right
all_right_is c rs f h = all_every_below (λ i. is_right c (rs.course i) f) rs.many (λ i low. right_is c (rs.course i) f (h i low))

is_shaped_lem : (t : Task) → is_shaped t ≡ true → Shaped t
unfolding is_shaped
is_shaped_lem t h =
    let p =
    both (eqb (length t.table.needs) max_actions && eqb (length t.table.adds) max_actions && eqb (length t.table.deletes) max_actions && eqb (length t.table.locks) max_actions) _ h in
    let o = both _ _ p.0 in
    let q = both _ _ o.0 in
    let r = both _ _ q.0 in
    let u = both _ _ p.1 in
    let v = both _ _ u.0 in
    let w = both _ _ v.0 in
    record {
      needs = eqb-true _ _ r.0;
      adds = eqb-true _ _ r.1;
      deletes = eqb-true _ _ q.1;
      locks = eqb-true _ _ o.1;
      starts = eqb-true _ _ w.0;
      goals = eqb-true _ _ w.1;
      counts = eqb-true _ _ v.1;
      steps = eqb-true _ _ u.1;
    }

every_place_lem : (test : ℕ → ℕ → Bool) (l : List ℕ) (p : ℕ) → every_place test l p ≡ true → (i : ℕ) → i < length l → test (p + i) (get_or l i 0) ≡ true
unfolding every_place
every_place_lem test [] p h i low = absurd (omega arith)
every_place_lem test (a ∷ l) p h zero low =
    let e : p ≡ p + 0 = omega arith in
    subst (λ (k : ℕ). test k a ≡ true) e (both (test p a) (every_place test l (suc p)) h).0
every_place_lem test (a ∷ l) p h (suc i) low =
    let e : suc p + i ≡ p + suc i = omega arith in
    subst (λ (k : ℕ). test k (get_or l i 0) ≡ true) e (every_place_lem test l (suc p) (both (test p a) (every_place test l (suc p)) h).1 i (omega arith))

pub is_formed_lem : (t : Task) → is_formed t ≡ true → Shaped t × (formed t ≡ true)
unfolding is_formed formed step_formed
is_formed_lem t h =
    let p = both _ _ h in
    let q = both _ _ p.0 in
    let s = is_shaped_lem t q.0 in (
      s,
      and_both _ _ q.1 (all_every_below (step_formed t) all_steps (λ i low.
          let e : 0 + i ≡ i = omega arith in
          subst (λ (k : ℕ). step_fits t k (get_or t.runs.steps i 0) ≡ true) e
          (every_place_lem (step_fits t) t.runs.steps 0 p.1 i (omega (arith, s.steps))))),
    )
