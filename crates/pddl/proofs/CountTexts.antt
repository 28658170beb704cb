-- What a tree of numbered lines says: so many of them, one after another, and then what the rest says of their number. Assumes nothing.
use mathlib.Core.List.{List, ◌++◌, append_assoc}
use mathlib.Core.Path.{◌≡◌, refl, sym, ap, ◌∙◌, subst}
use Prim.Native.Nat.{ℕ, zero, suc, ◌+◌, ◌≤◌}
use native.Mathlib.Omega.{arith}
use Rattle.layout.specs.Layouts.{Layout, Says, stands, missing}
use Rattle.pddl.specs.Trees.{Said, count_from}
use Rattle.pddl.proofs.Pieces.{from}

module _ (line : ℕ → List ℕ) (rest : ℕ → Layout Said) (v : Said) where
  pub record CountSaid (left n : ℕ) (t : List ℕ) : Type 0 where
    pub lines : ℕ
    pub few : lines ≤ left
    pub number : ℕ
    pub number_is : number ≡ n + lines
    pub tail : List ℕ
    pub text : t ≡ from line lines n ++ tail
    pub more : Says v (rest number) tail

  none_said : (left n : ℕ) (t : List ℕ) → Says v (rest n) t → CountSaid left n t
  unfolding from
  none_said left n t s =
      record { lines = 0; few = omega arith; number = n; number_is = omega arith; tail = t; text = refl; more = s }

  pub count_said : (left n : ℕ) (t : List ℕ) → Says v (count_from line left n rest) t → CountSaid left n t
  unfolding count_from from
  count_said zero n t s = none_said 0 n t s
  count_said (suc left) n t (missing s) = none_said (suc left) n t s
  count_said (suc left) n t (stands u e s) =
      let d = count_said left (suc n) u s in
      record {
        lines = suc d.lines;
        few = omega (arith, d.few);
        number = d.number;
        number_is = omega (arith, d.number_is);
        tail = d.tail;
        text = e ∙ ap (λ (l : List ℕ). line n ++ l) d.text ∙ sym (append_assoc (line n) (from line d.lines (suc n)) d.tail);
        more = d.more;
      }

  pub count_made : (left lines n number : ℕ) (tail : List ℕ) → lines ≤ left → number ≡ n + lines → Says v (rest number) tail
      → Says v (count_from line left n rest) (from line lines n ++ tail)
  unfolding count_from from
  count_made zero zero n number tail h e s =
      let same : number ≡ n = omega arith in
      subst (λ x. Says v (rest x) tail) same s
  count_made zero (suc lines) n number tail h e s = absurd (omega arith)
  count_made (suc left) zero n number tail h e s =
      let same : number ≡ n = omega arith in
      missing (subst (λ x. Says v (rest x) tail) same s)
  count_made (suc left) (suc lines) n number tail h e s =
      stands (from line lines (suc n) ++ tail) (append_assoc (line n) (from line lines (suc n)) tail)
      (count_made left lines (suc n) number tail (omega arith) (omega arith) s)
