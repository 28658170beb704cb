-- Laws of specs/Setting: what one fact of a set, or of the set of one action or run, made present or absent, changes and what it leaves. Assumes nothing.
use mathlib.Core.Bool.{Bool, true, false, not, ◌&&◌, ◌||◌, cond, or-true, or-false, and-true, and-false}
use mathlib.Core.List.{List}
use mathlib.Core.Path.{◌≡◌, refl, ap, ◌∙◌, subst}
use Prim.Native.Nat.{ℕ, ◌<◌}
use native.Mathlib.Omega.{arith}
use lib.Dec.{eqb}
use lib.ListN.{length, get_or}
use lib.Seq.{get_or-set_same, get_or-set_other}
use borrow.Author.Tests.{eqb-true, eqb-false}
use Rattle.facts.specs.Sets.{width, has}
use Rattle.facts.proofs.Laws.{has_with, has_without}
use Rattle.table.proofs.FlagLaws.{cond_by}
use Rattle.table.specs.Setting.{set_fact, set_in}

-- A flag joined with a test, and one that is denied it, as a choice by the test.
pub added : (b e : Bool) → (b || e) ≡ cond e true b
added b true = or-true b
added b false = or-false b

pub dropped : (b e : Bool) → (b && not e) ≡ cond e false b
dropped b true = and-false b
dropped b false = and-true b

pub has_set_fact : (m f : ℕ) (p : Bool) (g : ℕ) → f < width → has (set_fact m f p) g ≡ cond (eqb g f) p (has m g)
has_set_fact m f true g h = has_with m f g h ∙ added (has m g) (eqb g f)
has_set_fact m f false g h = has_without m f g h ∙ dropped (has m g) (eqb g f)

pub get_or_set_in : (s : List ℕ) (a f : ℕ) (p : Bool) (b : ℕ) → a < length s
    → get_or (set_in s a f p) b 0 ≡ cond (eqb b a) (set_fact (get_or s b 0) f p) (get_or s b 0)
get_or_set_in s a f p b h =
    cond_by (λ (m : ℕ). get_or (set_in s a f p) b 0 ≡ m) (eqb b a)
    (λ e.
    let same : a ≡ b = omega (arith, eqb-true b a e) in
    subst (λ (j : ℕ). get_or (set_in s a f p) j 0 ≡ set_fact (get_or s j 0) f p) same (get_or-set_same s a (set_fact (get_or s a 0) f p) 0 h))
    (λ e. get_or-set_other s a b (set_fact (get_or s a 0) f p) 0 (eqb-false b a e))

-- The one law of a cell that is set: it has the value, and every other cell is as it was.
pub has_set_in : (s : List ℕ) (a f : ℕ) (p : Bool) (b g : ℕ) → a < length s → f < width
    → has (get_or (set_in s a f p) b 0) g ≡ cond (eqb b a && eqb g f) p (has (get_or s b 0) g)
has_set_in s a f p b g h l = ap (λ (m : ℕ). has m g) (get_or_set_in s a f p b h) ∙ inner (eqb b a)
  where
    inner : (e : Bool) → has (cond e (set_fact (get_or s b 0) f p) (get_or s b 0)) g ≡ cond (e && eqb g f) p (has (get_or s b 0) g)
    inner true = has_set_fact (get_or s b 0) f p g l
    inner false = refl
