-- A row of the session table: document 01, "The session table".
use Rattle.std.specs.Prelude.{cond, List, ◌∷◌, ◌++◌, ◌≡◌, ℕ, ◌+◌, ◌-◌, eqb, length, get_or, set, take, drop, replicate}
use Rattle.table.specs.Answer.{Verdict, found, over, hopeless, Within}
use Rattle.table.specs.Sizes.{max_row, unused}
use Rattle.table.specs.Tasks.{KeepsFor}
use Rattle.table.specs.declared.Task.{Task}

-- "A first number 7 means that the fact's shortest list has more than six; 8 means no list of any length."
abbrev pub row_over : ℕ
row_over = 7

abbrev pub row_hopeless : ℕ
row_hopeless = 8

-- "The first number is the length of that fact's least list; then its repairs; unused places are 65535."
unfoldable pub row_of : Verdict → List ℕ
row_of (found l) = length l ∷ (l ++ replicate (max_row - length l) unused)
row_of over = row_over ∷ replicate max_row unused
row_of hopeless = row_hopeless ∷ replicate max_row unused

-- The row with one repair more.
unfoldable pub row_with : List ℕ → ℕ → List ℕ
row_with row n = set (set row (get_or row 0 0 + 1) n) 0 (get_or row 0 0 + 1)

-- What a row says, whether it is right or not.
unfoldable pub verdict_in : List ℕ → Verdict
verdict_in row =
    cond {A = Verdict} (eqb (get_or row 0 0) row_over) over
    (cond {A = Verdict} (eqb (get_or row 0 0) row_hopeless) hopeless (found (take (get_or row 0 0) (drop 1 row))))

-- The row of the lists of G: "A row's list is the first of the shortest".
pub record RowFor (G : List ℕ → Type 0) (row : List ℕ) : Type 0 where
  pub verdict : Verdict
  pub within : Within G max_row verdict
  pub shown : row ≡ row_of verdict

-- The row is the right one for fact f of the task: that of the lists "that keep this one fact right." A fact from F up has no
-- permitted repair and is right without one, so that its row is empty.
abbrev pub RightRow : Task → ℕ → List ℕ → Type 0
RightRow t f row = RowFor (KeepsFor t f) row
