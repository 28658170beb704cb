-- When a session table is in form for a task. (Its rows, and when they are the right ones: rows/specs/Tables.)
use Rattle.std.specs.Prelude.{Bool, cond, ◌&&◌, ◌||◌, List, ℕ, ◌+◌, eqb, leb, ltb, length, get_or}
use Rattle.search.specs.Rows.{row_hopeless}
use Rattle.rows.specs.Tables.{row_at, repairs_in}
use Rattle.table.specs.Counting.{every_below}
use Rattle.table.specs.Repairs.{permitted, fact_of}
use Rattle.table.specs.Sizes.{max_facts, max_row, session_places, unused}
use Rattle.table.specs.Strips.{Cells}
use Rattle.table.specs.Tasks.{cells_of}
use Rattle.table.specs.declared.Task.{Task}

-- The i-th repair of the row of fact f: permitted, of its own fact, and above the one before.
unfoldable pub repair_in_form : Cells → ℕ → List ℕ → ℕ → Bool
repair_in_form c f row i =
    permitted c (get_or row (i + 1) 0) && eqb (fact_of (get_or row (i + 1) 0)) f &&
    (eqb i 0 || ltb (get_or row i 0) (get_or row (i + 1) 0))

-- "a first number 0 to 8, that many permitted, ascending repairs of its own fact (none for 7 and 8), and 65535
-- elsewhere; rows from F up are empty"
unfoldable pub place_in_form : Cells → ℕ → List ℕ → ℕ → Bool
place_in_form c f row i = cond (ltb i (repairs_in row)) (repair_in_form c f row i) (eqb (get_or row (i + 1) 0) unused)

unfoldable pub row_in_form : Cells → ℕ → List ℕ → Bool
row_in_form c f row =
    leb (get_or row 0 0) row_hopeless && (ltb f c.facts || eqb (get_or row 0 0) 0) && every_below (place_in_form c f row) max_row

-- "A table is in form for a task if it has 448 numbers and each row" is.
unfoldable pub in_form : Task → List ℕ → Bool
in_form t s = eqb (length s) session_places && every_below (λ f. row_in_form (cells_of t.table) f (row_at s f)) max_facts
