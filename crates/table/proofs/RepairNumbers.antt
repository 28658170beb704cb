-- The number of a repair and back (document 01, "The model and its run"), both ways round; what a permitted number names. Assumes nothing.
use mathlib.Core.Bool.{true, false, ◌&&◌}
use mathlib.Core.Path.{◌≡◌, refl}
use Prim.Native.Nat.{ℕ, zero, suc, ◌≤◌, ◌<◌}
use native.Mathlib.Omega.{arith}
use lib.Dec.{ltb}
use borrow.Author.Tests.{ltb-true, lt-ltb, le-ltb}
use Rattle.table.specs.Sizes.{max_facts, max_actions, kinds, unused}
use Rattle.table.specs.Strips.{Cells}
use Rattle.table.specs.Repairs.{drop_delete, add_effect, drop_need, number_of, fact_of, kind_of, action_of, numbered, repairable, permits, permitted}
use Rattle.table.proofs.FlagLaws.{both, and_both}

-- ---- the number and back

pub kind_of_lt : (n : ℕ) → kind_of n < kinds
kind_of_lt n = omega arith

pub action_of_lt : (n : ℕ) → action_of n < max_actions
action_of_lt n = omega arith

pub number_back : (n : ℕ) → number_of (fact_of n) (kind_of n) (action_of n) ≡ n
number_back n = omega arith

pub fact_back : (f k a : ℕ) → k < kinds → a < max_actions → fact_of (number_of f k a) ≡ f
fact_back f k a hk ha = omega arith

pub kind_back : (f k a : ℕ) → k < kinds → a < max_actions → kind_of (number_of f k a) ≡ k
kind_back f k a hk ha = omega arith

pub action_back : (f k a : ℕ) → k < kinds → a < max_actions → action_of (number_of f k a) ≡ a
action_back f k a hk ha = omega arith

-- ---- the code's number, which a repair outside has too

pub numbered_inside : (f k a : ℕ) → f < max_facts → k < kinds → a < max_actions → numbered f k a ≡ number_of f k a
unfolding numbered
numbered_inside f k a hf hk ha = rw (lt-ltb f max_facts hf, lt-ltb k kinds hk, lt-ltb a max_actions ha)

-- ---- what a permitted repair names

pub permits_inside : (c : Cells) (f k a : ℕ) → permits c f k a ≡ true → (f < c.facts) × (a < c.actions)
unfolding permits
permits_inside c f k a h =
    let p = (both (ltb f c.facts && ltb a c.actions) (repairable c f k a) h).0 in
    let q = both (ltb f c.facts) (ltb a c.actions) p in
    (ltb-true f c.facts q.0, ltb-true a c.actions q.1)

pub inside_permits : (c : Cells) (f k a : ℕ) → f < c.facts → a < c.actions → repairable c f k a ≡ true → permits c f k a ≡ true
unfolding permits
inside_permits c f k a hf ha h = and_both _ _ (and_both _ _ (lt-ltb f c.facts hf) (lt-ltb a c.actions ha)) h

pub permitted_permits : (c : Cells) (n : ℕ) → permitted c n ≡ permits c (fact_of n) (kind_of n) (action_of n)
unfolding permitted
permitted_permits c n = refl

pub permitted_inside : (c : Cells) (n : ℕ) → permitted c n ≡ true → (fact_of n < c.facts) × (action_of n < c.actions)
unfolding permitted
permitted_inside c n h = permits_inside c (fact_of n) (kind_of n) (action_of n) h

-- `unused` is past every number of a task in range
pub permitted_unused : (c : Cells) → c.facts ≤ max_facts → permitted c unused ≡ false
unfolding permitted permits
permitted_unused c hc = rw (le-ltb (fact_of unused) c.facts (omega arith))

pub permitted_number : (c : Cells) (f k a : ℕ) → k < kinds → a < max_actions → permitted c (number_of f k a) ≡ permits c f k a
unfolding permitted
permitted_number c f k a hk ha = rw (fact_back f k a hk ha, kind_back f k a hk ha, action_back f k a hk ha)

-- ---- the three kinds alike

-- what holds of each of the three kinds holds of every kind
pub kind_cases : (P : ℕ → Type 0) → P drop_delete → P add_effect → P drop_need → (k : ℕ) → k < kinds → P k
kind_cases P d a n zero h = d
kind_cases P d a n (suc zero) h = a
kind_cases P d a n (suc (suc zero)) h = n
kind_cases P d a n (suc (suc (suc k))) h = absurd (omega arith)
