-- Lists put together piece by piece, in order.
use Rattle.std.specs.Prelude.{Bool, cond, List, [], ◌++◌, ℕ, zero, suc}

-- The pieces p 0, p 1, .. p (n - 1), one after another.
unfoldable pub gather : (ℕ → List ℕ) → ℕ → List ℕ
gather p zero = []
gather p (suc n) = gather p n ++ p n

-- The piece where the test holds, and nothing where it does not.
abbrev pub piece : Bool → List ℕ → List ℕ
piece b l = cond b l []
