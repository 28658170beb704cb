-- The session table as solving and the session read it: "64 rows of 7 numbers of 16 bits, 448 in all, one row a fact"
-- (document 01, "The session table").
use Rattle.std.specs.Prelude.{cond, List, ◌∷◌, ◌≡◌, ℕ, ◌*◌, ◌<◌, ◌≤◌, leb, length, get_or, take, drop, replicate}
use Rattle.search.specs.Rows.{row_hopeless, verdict_in, RightRow}
use Rattle.table.specs.Answer.{Verdict}
use Rattle.table.specs.Sizes.{max_facts, max_row, row_places, all_rows, session_places, unused}
use Rattle.table.specs.declared.Task.{Task}

-- The row of fact f.
abbrev pub row_at : List ℕ → ℕ → List ℕ
row_at s f = take row_places (drop (row_places * f) s)

-- What the row of fact f says, whether it is right or not.
abbrev pub verdict_at : List ℕ → ℕ → Verdict
verdict_at s f = verdict_in (row_at s f)

-- How many repairs a row's first number announces: none for 7 and 8.
unfoldable pub repairs_in : List ℕ → ℕ
repairs_in row = cond (leb (get_or row 0 0) max_row) (get_or row 0 0) 0

-- Every row is the right one for the task.
abbrev pub RightRows : Task → List ℕ → Type 0
RightRows t s = (f : ℕ) → f < max_facts → RightRow t f (row_at s f)

-- A session table that says what is to be said of the task.
pub record Stored (t : Task) (s : List ℕ) : Type 0 where
  pub places : length s ≡ session_places
  pub rows : RightRows t s

-- The rows of the facts in D are such as R says, and nothing beside the rows was written.
pub record RowsPut (D : ℕ → Type 0) (R : ℕ → List ℕ → Type 0) (s after : List ℕ) : Type 0 where
  pub places : length after ≡ length s
  pub rows : (f : ℕ) → f < max_facts → D f → R f (row_at after f)
  pub rest : (i : ℕ) → all_rows ≤ i → get_or after i 0 ≡ get_or s i 0

-- Every row is the right one.
abbrev pub Filled : Task → List ℕ → List ℕ → Type 0
Filled t s after = RowsPut (λ f. Unit {0}) (RightRow t) s after

-- The row of a fact that is right without repairs.
abbrev pub empty_row : List ℕ
empty_row = 0 ∷ replicate max_row unused

abbrev pub EmptyRows : List ℕ → Type 0
EmptyRows s = (f : ℕ) → f < max_facts → row_at s f ≡ empty_row

abbrev pub Emptied : List ℕ → List ℕ → Type 0
Emptied s after = RowsPut (λ f. Unit {0}) (λ f row. row ≡ empty_row) s after

-- The row of fact f is such as R says, and every other row is as it was: "other rows are kept as found"; and so is whatever stands after
-- the rows.
pub record RowPut (R : List ℕ → Type 0) (f : ℕ) (s after : List ℕ) : Type 0 where
  pub places : length after ≡ length s
  pub row : R (row_at after f)
  pub others : (g : ℕ) → g < max_facts → (g ≡ f → ⊥) → row_at after g ≡ row_at s g
  pub rest : (i : ℕ) → all_rows ≤ i → get_or after i 0 ≡ get_or s i 0

-- The row of fact f written afresh is the right one for the task.
abbrev pub Rewritten : Task → ℕ → List ℕ → List ℕ → Type 0
Rewritten t f s after = RowPut (RightRow t f) f s after

-- What reading the list off a table asks of it: all rows, and of each row below n "a first number 0 to 8".
pub record Readable (s : List ℕ) (n : ℕ) : Type 0 where
  pub places : all_rows ≤ length s
  pub firsts : (f : ℕ) → f < n → get_or (row_at s f) 0 0 ≤ row_hopeless
