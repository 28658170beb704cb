-- Laws of a call's answer: its number is a refusal's; refused, the call gives back what it was given, and accepted, what it promises.
-- So there is one answer. Assumes nothing.
use mathlib.Core.Path.{◌≡◌, sym, ◌∙◌}
use Prim.Native.Nat.{ℕ}
use lib.Dec.{eqb}
use borrow.Author.Tests.{eqb-true, eqb-false}
use Rattle.table.proofs.FlagLaws.{cond_by}
use Rattle.table.specs.Refusals.{accepted}

-- x and y are what two answers with numbers n and m give beside number and place; Back is what a refusal gives back, Done what is promised.
pub one_answer : {X : Type 0} (Back Done : X → Type 0) (n m : ℕ) (x y : X) → n ≡ m → (Back x → Back y → x ≡ y)
    → (Done x → Done y → x ≡ y) → ((n ≡ accepted → ⊥) → Back x) → ((m ≡ accepted → ⊥) → Back y)
    → (n ≡ accepted → Done x) → (m ≡ accepted → Done y) → x ≡ y
one_answer Back Done n m x y e back done a b p q =
    cond_by (λ _. x ≡ y) (eqb n accepted) {x = x} {y = y}
    (λ h. let k = eqb-true n accepted h in done (p k) (q (sym e ∙ k)))
    (λ h. let k = eqb-false n accepted h in back (a k) (b (λ w. k (e ∙ w))))
