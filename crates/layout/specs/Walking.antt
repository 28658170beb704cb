-- One walk over a text along a layout, word by word: what the readers do. It has come to `at`, and the text shares its bytes with a text of the
-- layout as far as `far`; it is good as long as every word stood that had to.
use Rattle.std.specs.Prelude.{Bool, cond, ◌&&◌, List, ℕ, ◌+◌, max, eqb, length, drop}
use Rattle.layout.specs.Beginnings.{alike}
use Rattle.layout.specs.Layouts.{Layout, done, word, pick}

-- What the text says, or how far it goes with the layout.
pub data Walked (A : Type 0) : Type 0 where
  reads : A → Walked A
  stops : ℕ → Walked A

-- How far the text goes with the word from here, whether the whole word stands here, and the places afterwards.
abbrev pub reach : List ℕ → ℕ → List ℕ → ℕ
reach s at w = alike (drop at s) w

abbrev pub taken : List ℕ → Bool → ℕ → List ℕ → Bool
taken s good at w = good && eqb (reach s at w) (length w)

abbrev pub past : List ℕ → Bool → ℕ → List ℕ → ℕ
past s good at w = cond (taken s good at w) (at + length w) at

abbrev pub farther : List ℕ → Bool → ℕ → ℕ → List ℕ → ℕ
farther s good at far w = cond good (max far (at + reach s at w)) far

unfoldable pub walk : {A : Type 0} → Layout A → List ℕ → Bool → ℕ → ℕ → Walked A
walk {A} (done v) s good at far = cond {A = Walked A} (good && eqb at (length s)) (reads v) (stops far)
walk {A} (word w l) s good at far = walk l s (taken s good at w) (past s good at w) (farther s good at far w)
walk {A} (pick w a b) s good at far =
    cond {A = Walked A} (taken s good at w)
    (walk a s good (past s good at w) (farther s good at far w))
    (walk b s good (past s good at w) (farther s good at far w))
