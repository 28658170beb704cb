-- What a tree of facts says: the lines of a set of them, and then what the rest says of that set. Assumes nothing.
use mathlib.Core.Bool.{Bool, true, false, ◌||◌}
use mathlib.Core.List.{List, ◌++◌, append_assoc}
use mathlib.Core.Path.{◌≡◌, refl, sym, ap, ◌∙◌, subst}
use Prim.Native.Nat.{ℕ, zero, suc, ◌+◌, ◌<◌, ◌≤◌}
use native.Mathlib.Omega.{arith}
use borrow.Author.Tests.{eq-eqb, ne_eqb}
use Rattle.facts.specs.Sets.{has, joined, only, width}
use Rattle.facts.proofs.Laws.{has_empty, has_with, same_sets}
use Rattle.table.specs.Lists.{piece}
use Rattle.table.proofs.FlagLaws.{by_order}
use Rattle.layout.specs.Layouts.{Layout, Says, stands, missing}
use Rattle.pddl.specs.Texts.{lines_of}
use Rattle.pddl.specs.Trees.{Said, set_from, set_tree}
use Rattle.pddl.proofs.Pieces.{from, from_first}

-- The line of a fact where it is in the set.
abbrev pub line_if : (ℕ → List ℕ) → ℕ → ℕ → List ℕ
line_if line set g = piece (has set g) (line g)

-- No fact from n on is in the set.
abbrev pub Inside : ℕ → ℕ → Type 0
Inside n m = (g : ℕ) → n ≤ g → has m g ≡ false

-- The facts below f are in both sets or in neither.
abbrev Alike : ℕ → ℕ → ℕ → Type 0
Alike f a b = (g : ℕ) → g < f → has a g ≡ has b g

module _ (m f : ℕ) (inside : Inside f m) (room : f < width) where
  -- With the fact f, a set of facts below f is one of facts below f + 1; it has f, and is as it was below.
  with_inside : Inside (suc f) (joined m (only f))
  with_inside g h = rw (has_with m f g room, inside g (omega arith), ne_eqb g f (λ e. omega arith))

  with_itself : has (joined m (only f)) f ≡ true
  with_itself = rw (has_with m f f room, inside f (omega arith), eq-eqb f f refl)

  with_below : Alike f (joined m (only f)) m
  with_below g h = rw (has_with m f g room, ne_eqb g f (λ e. omega arith)) (or_false (has m g))
    where
      or_false : (b : Bool) → (b || false) ≡ b
      or_false true = refl
      or_false false = refl

-- ---- a text of the tree is the lines of a set

pub record SetSaid (line : ℕ → List ℕ) (left f m : ℕ) (rest : ℕ → Layout Said) (v : Said) (t : List ℕ) : Type 0 where
  pub set : ℕ
  pub inside : Inside (f + left) set
  pub same : Alike f set m
  pub tail : List ℕ
  pub text : t ≡ from (line_if line set) left f ++ tail
  pub more : Says v (rest set) tail

module _ (line : ℕ → List ℕ) (rest : ℕ → Layout Said) (v : Said) where
  stood : (left f m : ℕ) (t u : List ℕ) → Inside f m → f < width → t ≡ line f ++ u
      → SetSaid line left (suc f) (joined m (only f)) rest v u → SetSaid line (suc left) f m rest v t
  unfolding from
  stood left f m t u inside room e s = record {
    set = s.set;
    inside = λ g h. s.inside g (omega arith);
    same = λ g h. s.same g (omega arith) ∙ with_below m f inside room g h;
    tail = s.tail;
    text = rw (s.same f (omega arith) ∙ with_itself m f inside room) (e ∙ ap (λ (l : List ℕ). line f ++ l) s.text ∙ sym (append_assoc (line f) (from (line_if line s.set) left (suc f)) s.tail));
    more = s.more;
  }

  missed : (left f m : ℕ) (t : List ℕ) → Inside f m → SetSaid line left (suc f) m rest v t → SetSaid line (suc left) f m rest v t
  unfolding from
  missed left f m t inside s = record {
    set = s.set;
    inside = λ g h. s.inside g (omega arith);
    same = λ g h. s.same g (omega arith);
    tail = s.tail;
    text = rw (s.same f (omega arith) ∙ inside f (omega arith)) s.text;
    more = s.more;
  }

  pub set_said : (left f m : ℕ) (t : List ℕ) → Inside f m → f + left ≤ width → Says v (set_from line left f m rest) t
      → SetSaid line left f m rest v t
  unfolding set_from from
  set_said zero f m t inside room s = record {
    set = m;
    inside = λ g h. inside g (omega arith);
    same = λ g h. refl;
    tail = t;
    text = refl;
    more = s;
  }
  set_said (suc left) f m t inside room (stands u e s) =
      stood left f m t u inside (omega arith) e
      (set_said left (suc f) (joined m (only f)) u (with_inside m f inside (omega arith)) (omega arith) s)
  set_said (suc left) f m t inside room (missing s) =
      missed left f m t inside (set_said left (suc f) m t (λ g h. inside g (omega arith)) (omega arith) s)

  -- ---- and the lines of each set, with what the rest says of it, are a text of the tree

  module _ (set : ℕ) (tail : List ℕ) (more : Says v (rest set) tail) where
    pub set_made : (left f m : ℕ) → Inside f m → f + left ≤ width → Inside (f + left) set → Alike f m set
        → Says v (set_from line left f m rest) (from (line_if line set) left f ++ tail)
    unfolding set_from from
    set_made zero f m inside room within same =
        let e : set ≡ m = same_sets set m (λ g. by_order g f (λ h. sym (same g h)) (λ h. within g (omega arith) ∙ sym (inside g h))) in
        subst (λ x. Says v (rest x) tail) e more
    set_made (suc left) f m inside room within same =
        pick_by (has set f) refl
        (λ e. set_made left (suc f) (joined m (only f)) (with_inside m f inside (omega arith)) (omega arith) onward (with_same e))
        (λ e. set_made left (suc f) m (λ g h. inside g (omega arith)) (omega arith) onward (without_same e))
      where
        later : List ℕ
        later = from (line_if line set) left (suc f)

        onward : Inside (suc f + left) set
        onward g h = within g (omega arith)

        with_same : has set f ≡ true → Alike (suc f) (joined m (only f)) set
        with_same e g h =
            by_order g f (λ l. with_below m f inside (omega arith) g l ∙ same g l)
            (λ l.
            let at : g ≡ f = omega arith in
            rw at (with_itself m f inside (omega arith) ∙ sym e))

        without_same : has set f ≡ false → Alike (suc f) m set
        without_same e g h =
            by_order g f (λ l. same g l)
            (λ l.
            let at : g ≡ f = omega arith in
            rw at (inside f (omega arith) ∙ sym e))

        pick_by : (b : Bool) → has set f ≡ b → (has set f ≡ true → Says v (set_from line left (suc f) (joined m (only f)) rest) (later ++ tail))
            → (has set f ≡ false → Says v (set_from line left (suc f) m rest) (later ++ tail))
            → Says v (set_from line (suc left) f m rest) (piece (has set f) (line f) ++ later ++ tail)
        pick_by true e p q = rw e (stands (later ++ tail) (append_assoc (line f) later tail) (p e))
        pick_by false e p q = rw e (missing (q e))

-- ---- the whole tree of the facts below a number

module _ (line : ℕ → List ℕ) (facts : ℕ) (rest : ℕ → Layout Said) (v : Said) (few : facts ≤ width) where
  pub record LinesSaid (t : List ℕ) : Type 0 where
    pub set : ℕ
    pub inside : Inside facts set
    pub tail : List ℕ
    pub text : t ≡ lines_of line facts set ++ tail
    pub more : Says v (rest set) tail

  pub lines_said : (t : List ℕ) → Says v (set_tree line facts rest) t → LinesSaid t
  lines_said t s =
      let d = set_said line rest v facts 0 0 t (λ g h. has_empty g) (omega arith) s in
      record {
        set = d.set;
        inside = λ g h. d.inside g (omega arith);
        tail = d.tail;
        text = rw (← from_first (line_if line d.set) facts) d.text;
        more = d.more;
      }

  pub lines_made : (set : ℕ) (tail : List ℕ) → Inside facts set → Says v (rest set) tail
      → Says v (set_tree line facts rest) (lines_of line facts set ++ tail)
  lines_made set tail inside more =
      rw (← from_first (line_if line set) facts)
      (set_made line rest v set tail more facts 0 0 (λ g h. has_empty g) (omega arith) (λ g h. inside g (omega arith)) (λ g h. absurd (omega arith)))
