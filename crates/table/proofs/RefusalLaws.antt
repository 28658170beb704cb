-- Laws of specs/Refusals: of an ordered list of checks, none fires, the first that fires has its place and its number. Assumes nothing.
use mathlib.Core.Bool.{Bool, true, false, cond}
use mathlib.Core.List.{List, [], ◌∷◌}
use mathlib.Core.Path.{◌≡◌, refl, sym}
use Prim.Native.Nat.{ℕ, ◌<◌}
use native.Mathlib.Omega.{arith}
use lib.ListN.{drop}
use Rattle.table.proofs.FlagLaws.{cond_by}
use Rattle.table.specs.Refusals.{Check, Refusal, accepted, none, first_of}

-- ---- none fires

-- No check of a list fires; each has a number above 0.
abbrev pub Silent : List Check → Type 0
Silent [] = Unit {0}
Silent (c ∷ cs) = (c.fires ≡ false) × Silent cs

abbrev pub Numbered : List Check → Type 0
Numbered [] = Unit {0}
Numbered (c ∷ cs) = (0 < c.number) × Numbered cs

passed : (b : Bool) (n p : ℕ) (rest : Refusal) → 0 < n → (cond {A = Refusal} b (record { number = n; place = p }) rest).number ≡ 0
    → (b ≡ false) × (rest.number ≡ 0)
passed true n p rest pos e = absurd (omega arith)
passed false n p rest pos e = (refl, e)

pub silent : (cs : List Check) → Numbered cs → (first_of cs).number ≡ 0 → Silent cs
unfolding first_of
silent [] pos e = tt
silent (c ∷ cs) pos e =
    let first = passed c.fires c.number c.place (first_of cs) pos.0 e in
    (first.0, silent cs pos.1 first.1)

pub accepts : (cs : List Check) → Silent cs → (first_of cs).number ≡ 0
unfolding first_of
accepts [] q = refl
accepts (c ∷ cs) q = rw q.0 (accepts cs q.1)

-- ---- the first that fires

-- The first n checks do not fire.
abbrev pub Past : List Check → ℕ → Type 0
Past cs n = first_of cs ≡ first_of (drop n cs)

-- Each check of the list is at the place that p gives its number.
abbrev pub Placed : (ℕ → ℕ) → List Check → Type 0
Placed p [] = Unit {0}
Placed p (c ∷ cs) = (c.place ≡ p c.number) × Placed p cs

pub first_placed : (p : ℕ → ℕ) (cs : List Check) → p accepted ≡ 0 → Placed p cs → (first_of cs).place ≡ p (first_of cs).number
unfolding first_of
first_placed p [] none a = sym none
first_placed p (c ∷ cs) none a =
    cond_by {A = Refusal} (λ r. r.place ≡ p r.number) c.fires (λ _. a.0) (λ _. first_placed p cs none a.1)

-- Each check is such as P says, where it fires and none before it does.
abbrev pub EachBy : (Refusal → Type 0) → List Check → Type 0
EachBy P [] = Unit {0}
EachBy P (c ∷ cs) = (c.fires ≡ true → P (record { number = c.number; place = c.place })) × (c.fires ≡ false → EachBy P cs)

pub first_of_by : (P : Refusal → Type 0) (cs : List Check) → P none → EachBy P cs → P (first_of cs)
unfolding first_of
first_of_by P [] nothing each = nothing
first_of_by P (c ∷ cs) nothing each = cond_by {A = Refusal} P c.fires each.0 (λ e. first_of_by P cs nothing (each.1 e))

-- Every check's number is such as P says.
abbrev pub NumbersIn : (ℕ → Type 0) → List Check → Type 0
NumbersIn P [] = Unit {0}
NumbersIn P (c ∷ cs) = P c.number × NumbersIn P cs

pub first_of_in : (P : ℕ → Type 0) (cs : List Check) → P accepted → NumbersIn P cs → P (first_of cs).number
unfolding first_of
first_of_in P [] none b = none
first_of_in P (c ∷ cs) none b = cond_by {A = Refusal} (λ r. P r.number) c.fires (λ _. b.0) (λ _. first_of_in P cs none b.1)
