-- Laws of flags: when a join, a meeting or a denial of flags is true; and a choice by the order of two numbers.
use mathlib.Core.Bool.{Bool, true, false, not, ◌&&◌, ◌||◌, cond, and_comm, false≢true}
use mathlib.Core.Logic.{◌⊎◌, inl, inr}
use mathlib.Core.Path.{◌≡◌, refl, sym, ap, ◌∙◌}
use Prim.Native.Nat.{ℕ, ◌<◌, ◌≤◌}
use lib.Dec.{ltb}
use borrow.Author.Tests.{ltb-true, ltb-false}

pub or_cases : (a b : Bool) → (a || b) ≡ true → (a ≡ true) ⊎ (b ≡ true)
or_cases true b h = inl refl
or_cases false b h = inr h

pub or_left : (a b : Bool) → a ≡ true → (a || b) ≡ true
or_left true b h = refl
or_left false b h = absurd (false≢true h)

pub or_right : (a b : Bool) → b ≡ true → (a || b) ≡ true
or_right true b h = refl
or_right false b h = h

pub or_other : {a b : Bool} → (a || b) ≡ true → a ≡ false → b ≡ true
or_other h p = rw p at h

pub or_neither : (a b : Bool) → (a || b) ≡ false → (a ≡ false) × (b ≡ false)
or_neither true b h = absurd (false≢true (sym h))
or_neither false b h = (refl, h)

pub and_left : (a b : Bool) → (a && b) ≡ true → a ≡ true
and_left true b h = refl
and_left false b h = h

pub and_right : (a b : Bool) → (a && b) ≡ true → b ≡ true
and_right true b h = h
and_right false b h = absurd (false≢true h)

pub both : (a b : Bool) → (a && b) ≡ true → (a ≡ true) × (b ≡ true)
both a b h = (and_left a b h, and_right a b h)

pub and_both : (a b : Bool) → a ≡ true → b ≡ true → (a && b) ≡ true
and_both true b h k = k
and_both false b h k = h

-- Two pairs of flags, paired the other way.
pub and_swap : (a b c d : Bool) → (a && b && (c && d)) ≡ (a && c && (b && d))
and_swap true true c d = refl
and_swap true false true d = refl
and_swap true false false d = refl
and_swap false b c d = refl

-- Three flags, the last two exchanged.
pub and_exchange : (a b c : Bool) → (a && b && c) ≡ (a && c && b)
and_exchange true b c = and_comm b c
and_exchange false b c = refl

-- The larger a flag, the smaller its denial.
pub not_shrinks : (a b : Bool) → (a ≡ true → b ≡ true) → not b ≡ true → not a ≡ true
not_shrinks true b grows h = absurd (false≢true (ap not (sym (grows refl)) ∙ h))
not_shrinks false b grows h = refl

pub or_grows : (a b c : Bool) → (b ≡ true → c ≡ true) → (a || b) ≡ true → (a || c) ≡ true
or_grows true b c grows h = refl
or_grows false b c grows h = grows h

pub and_grows : (a b c : Bool) → (b ≡ true → c ≡ true) → (a && b) ≡ true → (a && c) ≡ true
and_grows true b c grows h = grows h
and_grows false b c grows h = h

-- Flags that are true together are equal.
pub same_flag : (a b : Bool) → (a ≡ true → b ≡ true) → (b ≡ true → a ≡ true) → a ≡ b
same_flag true b there back = sym (there refl)
same_flag false true there back = back refl
same_flag false false there back = refl

-- A flag that is not true is false.
pub is_false : (a : Bool) → (a ≡ true → ⊥) → a ≡ false
is_false true h = absurd (h refl)
is_false false h = refl

-- What holds of both sides of a choice, each where it is taken, holds of the choice.
pub cond_by {ℓ ℓ'} : {A : Type ℓ} (P : A → Type ℓ') (b : Bool) {x y : A} → (b ≡ true → P x) → (b ≡ false → P y) → P (cond b x y)
cond_by P true f g = f refl
cond_by P false f g = g refl

pub by_order {ℓ} : {C : Type ℓ} (a b : ℕ) → (a < b → C) → (b ≤ a → C) → C
by_order {C} a b f g = cond_by {A = Bool} (λ _. C) (ltb a b) {x = true} {y = false} (λ e. f (ltb-true a b e)) (λ e. g (ltb-false a b e))
