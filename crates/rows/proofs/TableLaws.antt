-- Laws of the session table's rows, once over the fact number: a row written, every other row, equal rows; and what a right row says.
-- Assumes nothing.
use mathlib.Core.Bool.{Bool, true, false}
use mathlib.Core.List.{List}
use mathlib.Core.Path.{◌≡◌, refl, sym, ap, ◌∙◌, subst}
use Prim.Native.Nat.{ℕ, ◌+◌, ◌-◌, ◌*◌, ◌/◌, ◌%◌, ◌<◌, ◌≤◌}
use native.Mathlib.Omega.{arith}
use lib.Dec.{eqb}
use lib.ListN.{length, get_or, drop, replicate, length-drop}
use lib.Seq.{get_or-take, get_or-drop, ext_get_or, length-take-le, take-append_seam}
use borrow.Author.Tests.{ne_eqb, eqb-true, eqb-false}
use Rattle.search.specs.declared.Column.{Column}
use Rattle.search.specs.Columns.{courses_in, KeepsIn}
use Rattle.search.specs.Rows.{row_over, row_hopeless, row_of, verdict_in, RowFor, RightRow}
use Rattle.search.specs.Views.{Shows}
use Rattle.search.proofs.RowLaws.{row_shown}
use Rattle.table.specs.Answer.{Verdict, found, over, hopeless, Within}
use Rattle.table.specs.Join.{join_verdicts}
use Rattle.table.specs.Sizes.{max_facts, max_row, row_places, all_rows, session_places, unused}
use Rattle.table.specs.Tasks.{cells_of, WorksFor, KeepsFor, WellFormed, with_limit}
use Rattle.table.specs.declared.Task.{Task}
use Rattle.table.proofs.AnswerLaws.{within_unique}
use Rattle.table.proofs.FlagLaws.{by_order}
use Rattle.table.proofs.JoinLaws.{join_for}
use Rattle.table.proofs.Strides.{session_places_rows}
use Rattle.rows.specs.Copies.{pasted}
use Rattle.rows.specs.Tables.{row_at, verdict_at, RightRows, Stored, RowPut, RowsPut, Emptied, Filled, Rewritten}
use Rattle.rows.proofs.CopyLaws.{pasted_length, pasted_before, pasted_after, pasted_at}

-- ---- where the numbers of a row stand

pub row_number : (s : List ℕ) (f j : ℕ) → j < row_places → get_or (row_at s f) j 0 ≡ get_or s (row_places * f + j) 0
row_number s f j h = get_or-take row_places (drop (row_places * f) s) j 0 h ∙ get_or-drop (row_places * f) s j 0

pub row_length : (s : List ℕ) (f : ℕ) → row_places * f + row_places ≤ length s → length (row_at s f) ≡ row_places
row_length s f h = length-take-le row_places (drop (row_places * f) s) (omega (arith, length-drop (row_places * f) s))

-- Two tables with equal rows, and equal after them, are equal.
pub rows_equal : (s u : List ℕ) → length s ≡ length u → ((f : ℕ) → f < max_facts → row_at s f ≡ row_at u f)
    → ((i : ℕ) → all_rows ≤ i → i < length s → get_or s i 0 ≡ get_or u i 0) → s ≡ u
rows_equal s u e same rest = ext_get_or 0 s u e (λ i h. by_order i all_rows (at i) (λ l. rest i l h))
  where
    at : (i : ℕ) → i < all_rows → get_or s i 0 ≡ get_or u i 0
    at i h =
        let f : ℕ = i / row_places in
        let j : ℕ = i % row_places in
        let e : row_places * f + j ≡ i = omega arith in
        let low : f < max_facts = omega arith in
        let short : j < row_places = omega arith in
        ap (λ (k : ℕ). get_or s k 0) (sym e) ∙ sym (row_number s f j short) ∙ ap (λ (r : List ℕ). get_or r j 0) (same f low) ∙
        row_number u f j short ∙ ap (λ (k : ℕ). get_or u k 0) e

-- ---- a row written

module _ (s : List ℕ) (f : ℕ) (row : List ℕ) (fits : row_places * f + row_places ≤ length s) (whole : length row ≡ row_places) where
  pub written_length : length (pasted s (row_places * f) row row_places) ≡ length s
  written_length = pasted_length s (row_places * f) row row_places fits (omega arith)

  -- This row is the one written.
  pub written_here : row_at (pasted s (row_places * f) row row_places) f ≡ row
  written_here =
      let after : List ℕ = pasted s (row_places * f) row row_places in
      let long : length (row_at after f) ≡ row_places = row_length after f (omega (arith, written_length)) in
      ext_get_or 0 (row_at after f) row (long ∙ sym whole) (λ i h.
      let low : i < row_places = omega arith in
      row_number after f i low ∙ pasted_at s (row_places * f) row row_places fits (omega arith) i low)

  -- Every other row is as it was.
  pub written_others : (g : ℕ) → (g ≡ f → ⊥) → row_places * g + row_places ≤ length s
      → row_at (pasted s (row_places * f) row row_places) g ≡ row_at s g
  written_others g ne room =
      let after : List ℕ = pasted s (row_places * f) row row_places in
      let long : length (row_at after g) ≡ row_places = row_length after g (omega (arith, written_length)) in
      ext_get_or 0 (row_at after g) (row_at s g) (long ∙ sym (row_length s g room)) (λ i h.
      let low : i < row_places = omega arith in
      row_number after g i low ∙ elsewhere i low ∙ sym (row_number s g i low))
    where
      elsewhere : (i : ℕ) → i < row_places
          → get_or (pasted s (row_places * f) row row_places) (row_places * g + i) 0 ≡ get_or s (row_places * g + i) 0
      elsewhere i low =
          by_order g f (λ less. pasted_before s (row_places * f) row row_places fits (omega arith) (row_places * g + i) (omega arith))
          (λ more.
          let apart : f < g = apart_of more in
          pasted_after s (row_places * f) row row_places fits (omega arith) (row_places * g + i) (omega arith))
        where
          apart_of : f ≤ g → f < g
          apart_of h = by_order f g (λ l. l) (λ l. absurd (ne (omega arith)))

-- ---- what a row says

-- A verdict within six is read back off its row.
pub verdict_back : (G : List ℕ → Type 0) (v : Verdict) → Within G max_row v → verdict_in (row_of v) ≡ v
unfolding verdict_in row_of
verdict_back G (found l) w =
    rw (ne_eqb (length l) row_over (λ e. omega (arith, w.1)), ne_eqb (length l) row_hopeless (λ e. omega (arith, w.1)))
    (ap found (take-append_seam l (replicate (max_row - length l) unused)))
verdict_back G over w = refl
verdict_back G hopeless w = refl

-- "a first number 0 to 8"
first_low : (G : List ℕ → Type 0) (v : Verdict) → Within G max_row v → get_or (row_of v) 0 0 ≤ row_hopeless
unfolding row_of
first_low G (found l) w = omega (arith, w.1)
first_low G over w = omega arith
first_low G hopeless w = omega arith

module _ (t : Task) (f : ℕ) where
  pub right_verdict : (row : List ℕ) → RightRow t f row → Within (KeepsFor t f) max_row (verdict_in row)
  right_verdict row r =
      subst (λ (v : Verdict). Within (KeepsFor t f) max_row v)
      (sym (ap verdict_in r.shown ∙ verdict_back (KeepsFor t f) r.verdict r.within)) r.within

  pub right_first : (row : List ℕ) → RightRow t f row → get_or row 0 0 ≤ row_hopeless
  right_first row r =
      subst (λ (x : List ℕ). get_or x 0 0 ≤ row_hopeless) (sym r.shown) (first_low (KeepsFor t f) r.verdict r.within)

  -- There is one right row.
  pub right_unique : (row other : List ℕ) → RightRow t f row → RightRow t f other → row ≡ other
  right_unique row other r o =
      r.shown ∙ ap row_of (within_unique (KeepsFor t f) max_row r.verdict o.verdict r.within o.within) ∙ sym o.shown

-- ---- a row put into its place

pub row_written : (f : ℕ) (s row after : List ℕ) → f < max_facts → all_rows ≤ length s → length row ≡ row_places
    → after ≡ pasted s (row_places * f) row row_places → RowPut (λ r. r ≡ row) f s after
row_written f s row after h e whole w =
    let fits : row_places * f + row_places ≤ length s = omega arith in
    record {
      places = ap length w ∙ written_length s f row fits whole;
      row = ap (λ (u : List ℕ). row_at u f) w ∙ written_here s f row fits whole;
      others = λ g l ne. ap (λ (u : List ℕ). row_at u g) w ∙ written_others s f row fits whole g ne (omega arith);
      rest = λ i l. ap (λ (u : List ℕ). get_or u i 0) w ∙ pasted_after s (row_places * f) row row_places fits (omega arith) i (omega arith);
    }

-- The row of a column that shows the task's fact is the right one for it.
pub row_rewritten : (t : Task) (f : ℕ) (col : Column) (row s after : List ℕ) → (col.fact ≡ f) × Shows t col → f < t.table.facts
    → RowFor (KeepsIn col (courses_in col t.runs.counts t.runs.steps)) row → RowPut (λ r. r ≡ row) f s after → Rewritten t f s after
row_rewritten t f col row s after shown inside searched put =
    let right : RightRow t f row =
    subst (λ (g : ℕ). RightRow t g row) shown.0 (row_shown t col shown.1 (omega (arith, shown.0)) row searched) in
    record { places = put.places; row = subst (RightRow t f) (sym put.row) right; others = put.others; rest = put.rest }

-- ---- the table filled row by row

module _ (R : ℕ → List ℕ → Type 0) (s : List ℕ) where
  -- One row more: of the facts in E all but f were in D.
  pub rows_more : (D E : ℕ → Type 0) (f : ℕ) (u after : List ℕ) → ((g : ℕ) → E g → (g ≡ f → ⊥) → D g) → RowsPut D R s u → RowPut (R f) f u after
      → RowsPut E R s after
  rows_more D E f u after more b w = record {
    places = w.places ∙ b.places;
    rows = λ g h e. pick g h e (eqb g f) refl;
    rest = λ i l. w.rest i l ∙ b.rest i l;
  }
    where
      pick : (g : ℕ) → g < max_facts → E g → (x : Bool) → eqb g f ≡ x → R g (row_at after g)
      pick g h e true same = subst (λ (k : ℕ). R k (row_at after k)) (sym (eqb-true g f same)) w.row
      pick g h e false apart =
          let ne = eqb-false g f apart in
          subst (R g) (sym (w.others g h ne)) (b.rows g h (more g e ne))

pub rows_filled : (t : Task) (E : ℕ → Type 0) (s after : List ℕ) → RowsPut E (RightRow t) s after → ((f : ℕ) → E f) → Filled t s after
rows_filled t E s after q all = record { places = q.places; rows = λ f h d. q.rows f h (all f); rest = q.rest }

pub emptied_filled : (t : Task) (s u after : List ℕ) → Emptied s u → Filled t u after → Filled t s after
emptied_filled t s u after p q = record {
  places = q.places ∙ p.places;
  rows = q.rows;
  rest = λ i h. q.rest i h ∙ p.rest i h;
}

pub filled_stored : (t : Task) (s after : List ℕ) → length s ≡ session_places → Filled t s after → Stored t after
filled_stored t s after e b = record { places = b.places ∙ e; rows = λ f h. b.rows f h tt }

module _ (t : Task) where
  -- ---- what right rows say

  -- The rows joined are the verdict over all permitted lists: each fact can be diagnosed by itself.
  pub right_within : WellFormed t → (s : List ℕ) → RightRows t s
      → Within (WorksFor t) t.table.limit (join_verdicts (verdict_at s) t.table.facts t.table.limit)
  right_within w s rows =
      join_for t w (verdict_at s) (λ f h. right_verdict t f (row_at s f) (rows f (omega (arith, w.facts_high))))

  -- There is one such table, and one that an edit of one row leaves.
  pub stored_unique : (s u : List ℕ) → Stored t s → Stored t u → s ≡ u
  stored_unique s u p q =
      rows_equal s u (p.places ∙ sym q.places) (λ f h. right_unique t f (row_at s f) (row_at u f) (p.rows f h) (q.rows f h))
      (λ i h l. absurd (omega (arith, p.places, session_places_rows)))

  pub rewritten_unique : (f : ℕ) (s after other : List ℕ) → Rewritten t f s after → Rewritten t f s other → after ≡ other
  rewritten_unique f s after other p q =
      rows_equal after other (p.places ∙ sym q.places) (λ g h. pick g h (eqb g f) refl) (λ i h l. p.rest i h ∙ sym (q.rest i h))
    where
      pick : (g : ℕ) → g < max_facts → (b : Bool) → eqb g f ≡ b → row_at after g ≡ row_at other g
      pick g h true same =
          subst (λ (k : ℕ). row_at after k ≡ row_at other k) (sym (eqb-true g f same)) (right_unique t f (row_at after f) (row_at other f) p.row q.row)
      pick g h false apart = p.others g h (eqb-false g f apart) ∙ sym (q.others g h (eqb-false g f apart))

-- "The rows don't depend on L": rows that are right with one limit are right with every other.
pub stored_limit : (t : Task) (l : ℕ) (s : List ℕ) → Stored t s → Stored (with_limit t l) s
unfolding cells_of
stored_limit t l s b = record {
  places = b.places;
  rows = λ f h. record { verdict = (b.rows f h).verdict; within = (b.rows f h).within; shown = (b.rows f h).shown };
}
