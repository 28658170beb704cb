-- Laws of a row: writing a list into it repair by repair, and which row is right. Assumes nothing.
use Rattle.std.specs.Prelude.{None}
use mathlib.Core.Bool.{true, false}
use mathlib.Core.List.{List, [], ◌∷◌, ◌++◌}
use mathlib.Core.Path.{◌≡◌, sym, ap, ◌∙◌, subst}
use Prim.Native.Nat.{ℕ, suc, ◌+◌, ◌-◌, ◌<◌, ◌≤◌}
use native.Mathlib.Numerals.{add-one}
use native.Mathlib.Omega.{arith}
use lib.ListN.{length, get_or, replicate, length-append}
use lib.Seq.{set-append_seam, append_snoc}
use Rattle.table.specs.Answer.{found, over, hopeless}
use Rattle.table.specs.Lists.{gather, piece}
use Rattle.table.specs.Repairs.{number_of, numbered}
use Rattle.table.specs.Sizes.{max_facts, max_row, per_fact, unused}
use Rattle.table.specs.Strips.{Courses}
use Rattle.table.specs.Tasks.{KeepsFor}
use Rattle.table.specs.declared.Task.{Task}
use Rattle.table.proofs.AnswerLaws.{within_same}
use Rattle.table.proofs.GatherLaws.{gather_none, gather_part, gather_step, passing}
use Rattle.table.proofs.RepairNumbers.{numbered_inside}
use Rattle.choices.specs.Choices.{code_kind, code_action, in_choice, list_of, code_number}
use Rattle.search.specs.declared.Column.{Column}
use Rattle.search.specs.Columns.{courses_in, KeepsIn}
use Rattle.search.specs.Rows.{row_of, row_with, row_over, row_hopeless, RowFor, RightRow}
use Rattle.search.specs.Searching.{Rightness, Shortest}
use Rattle.choices.specs.Trying.{NextIn}
use Rattle.search.specs.Views.{Shows, Fullest}
use Rattle.choices.specs.declared.Choice.{Choice}
use Rattle.choices.proofs.ChoiceLaws.{codes, codes_length, weight}
use Rattle.search.proofs.ViewLaws.{keeps_in, in_keeps, fullest_right, fullest_keeps}

-- ---- writing a list repair by repair

-- The number that a repair of fact f gets by its kind and action is the one that its code stands for.
pub code_numbered : (f code : ℕ) → f < max_facts → code < per_fact → numbered f (code_kind code) (code_action code) ≡ code_number f code
code_numbered f code hf hc =
    let same : number_of f (code_kind code) (code_action code) ≡ code_number f code = omega arith in
    numbered_inside f (code_kind code) (code_action code) hf (omega arith) (omega arith) ∙ same

-- A row with room takes one repair more at its end.
pub row_grows : (l : List ℕ) (n : ℕ) → length l < max_row → row_with (row_of (found l)) n ≡ row_of (found (l ++ (n ∷ [])))
unfolding row_with row_of
row_grows l n h =
    let rest : max_row - length l ≡ suc (max_row - suc (length l)) = omega arith in
    let longer : length (l ++ (n ∷ [])) ≡ suc (length l) = length-append l (n ∷ []) ∙ add-one (length l) in
    rw (add-one (length l), longer, rest, set-append_seam l unused (replicate (max_row - suc (length l)) unused) n, append_snoc l n (replicate (max_row - suc (length l)) unused))

module _ (f : ℕ) (s : Choice) where
  -- The row of the chosen codes below i.
  abbrev pub row_below : ℕ → List ℕ
  row_below i = row_of (found (codes (in_choice s) f i))

  codes_chosen : (i : ℕ) → in_choice s i ≡ true → codes (in_choice s) f (i + 1) ≡ codes (in_choice s) f i ++ (code_number f i ∷ [])
  unfolding passing
  codes_chosen i chosen = gather_step (λ code. piece (in_choice s code) (code_number f code ∷ [])) i ∙ rw chosen

  pub bare_below : (row : List ℕ) → row ≡ (0 ∷ replicate max_row unused) → row ≡ row_below 0
  unfolding row_of passing gather
  bare_below row e = e

  -- No chosen code between: the same row.
  pub passed : (i k : ℕ) → i ≤ per_fact → NextIn s i k → row_below k ≡ row_below i
  unfolding passing
  passed i k inside next = ap (λ (l : List ℕ). row_of (found l)) none
    where
      none : codes (in_choice s) f k ≡ codes (in_choice s) f i
      none =
          subst (λ n. codes (in_choice s) f n ≡ codes (in_choice s) f i) (omega (arith, next.after))
          (gather_none (λ code. piece (in_choice s code) (code_number f code ∷ [])) i (k - i)
          (λ code l h. ap (λ b. piece b (code_number f code ∷ [])) (next.absent code (omega (arith, next.after)) l)))

  announced : (i : ℕ) (row : List ℕ) → row ≡ row_below i → get_or row 0 0 ≡ length (codes (in_choice s) f i)
  unfolding row_of
  announced i row e = rw e

  pub below_fits : (i : ℕ) (row : List ℕ) → length (list_of f s) ≤ max_row → i < per_fact → row ≡ row_below i → in_choice s i ≡ true
      → get_or row 0 0 < max_row
  unfolding list_of passing
  below_fits i row short h e chosen =
      let one : weight (in_choice s i) ≡ 1 = ap weight chosen in
      let all : length (codes (in_choice s) f per_fact) ≤ max_row = short in
      omega (arith, announced i row e, codes_length (in_choice s) f i, gather_part (λ code. piece (in_choice s code) (code_number f code ∷ [])) (suc i) per_fact (omega arith))

  -- One chosen code more.
  pub below_more : (i : ℕ) (row more : List ℕ) → row ≡ row_below i → in_choice s i ≡ true → get_or row 0 0 < max_row
      → more ≡ row_with row (code_number f i) → more ≡ row_below (i + 1)
  below_more i row more e chosen fits made = made ∙ grown ∙ one_more
    where
      room : length (codes (in_choice s) f i) < max_row
      room = omega (arith, announced i row e, fits)

      grown : row_with row (code_number f i) ≡ row_of (found (codes (in_choice s) f i ++ (code_number f i ∷ [])))
      grown = rw e (row_grows (codes (in_choice s) f i) (code_number f i) room)

      one_more : row_of (found (codes (in_choice s) f i ++ (code_number f i ∷ []))) ≡ row_below (i + 1)
      one_more = ap (λ (l : List ℕ). row_of (found l)) (sym (codes_chosen i chosen))

  pub below_end : (i : ℕ) (row : List ℕ) → i ≡ per_fact → row ≡ row_below i → row ≡ row_of (found (list_of f s))
  unfolding list_of passing
  below_end i row all e = e ∙ ap (λ (n : ℕ). row_of (found (codes (in_choice s) f n))) all

-- ---- which row is right

module _ (col : Column) (rs : Courses) (row : List ℕ) where
  pub over_row : (full : Choice) → Shortest col rs None → Fullest col full → Rightness col rs full true
      → row ≡ (row_over ∷ replicate max_row unused) → RowFor (KeepsIn col rs) row
  unfolding row_of
  over_row full short most right e =
      record { verdict = over; within = ((list_of col.fact full, fullest_keeps col rs full most right), short); shown = e }

  pub hopeless_row : (full : Choice) → Fullest col full → Rightness col rs full false → row ≡ (row_hopeless ∷ replicate max_row unused)
      → RowFor (KeepsIn col rs) row
  unfolding row_of
  hopeless_row full most wrong e =
      record { verdict = hopeless; within = λ m keeps. wrong (fullest_right col rs full most m keeps); shown = e }

-- The row of a column that shows the task's fact is the task's.
module _ (t : Task) (col : Column) (shows : Shows t col) (inside : col.fact < t.table.facts) where
  pub row_shown : (row : List ℕ) → RowFor (KeepsIn col (courses_in col t.runs.counts t.runs.steps)) row → RightRow t col.fact row
  row_shown row right = record { verdict = right.verdict; within = within_same (KeepsIn col (courses_in col t.runs.counts t.runs.steps)) (KeepsFor t col.fact) (in_keeps t col shows inside) (keeps_in t col shows inside) max_row right.verdict right.within; shown = right.shown }
