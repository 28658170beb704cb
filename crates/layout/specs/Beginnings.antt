-- The beginning that two texts share, and the longest that a text shares with some text of a kind: 02, request 4, "refused, at the length
-- of the longest beginning that it shares with some text of the layout".
use Rattle.std.specs.Prelude.{cond, List, [], ◌∷◌, ◌≡◌, ℕ, suc, ◌≤◌, eqb}

-- How many bytes two texts share from the first on.
unfoldable pub alike : List ℕ → List ℕ → ℕ
alike [] t = 0
alike (x ∷ s) [] = 0
alike (x ∷ s) (y ∷ t) = cond (eqb x y) (suc (alike s t)) 0

-- n is the length of the longest beginning that s shares with some text of this kind.
pub record Longest (Text : List ℕ → Type 0) (s : List ℕ) (n : ℕ) : Type 0 where
  pub text : List ℕ
  pub is_one : Text text
  pub reached : alike s text ≡ n
  pub most : (t : List ℕ) → Text t → alike s t ≤ n
