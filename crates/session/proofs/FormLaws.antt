-- A right row is in form, and so is a table of right rows: document 01, "The session table". Proved once over the fact number and the
-- place. Assumes nothing.
use mathlib.Core.Bool.{Bool, true, ◌&&◌, ◌||◌}
use mathlib.Core.List.{List, [], ◌∷◌, ◌++◌}
use mathlib.Core.Path.{◌≡◌, refl, sym, ap, ◌∙◌}
use Prim.Native.Nat.{ℕ, zero, suc, ◌+◌, ◌-◌, ◌<◌, ◌≤◌}
use native.Mathlib.Numerals.{add-one}
use native.Mathlib.Omega.{arith}
use lib.Dec.{eqb, leb, ltb}
use lib.ListN.{length, get_or, replicate, get_or-append, get_or-replicate}
use lib.Seq.{get_or-append-add}
use borrow.Author.Tests.{lt-ltb, le-ltb, le-leb, lt-leb, eq-eqb, eqb-true, leb-true}
use Rattle.change.proofs.MemberLaws.{get_or_is_in, ascending_steps}
use Rattle.search.specs.Rows.{row_over, row_hopeless, row_of, RightRow}
use Rattle.rows.specs.Tables.{row_at, repairs_in, Stored, Readable}
use Rattle.table.specs.Counting.{every_below}
use Rattle.table.proofs.AnswerLaws.{first_unique}
use Rattle.table.proofs.FlagLaws.{both, and_both, or_right, by_order}
use Rattle.table.proofs.CountingLaws.{all_every_below, every_below_all}
use Rattle.table.proofs.JoinLaws.{keeps_for_outside}
use Rattle.table.proofs.Strides.{session_places_rows}
use Rattle.table.specs.Answer.{Verdict, found, over, hopeless, Within, Keeps, First}
use Rattle.table.specs.Repairs.{fact_of}
use Rattle.table.specs.Sizes.{max_facts, max_row, session_places, unused}
use Rattle.table.specs.Strips.{Cells, Courses}
use Rattle.table.specs.Tasks.{cells_of, courses_of, KeepsFor, WellFormed}
use Rattle.table.specs.declared.Task.{Task}
use Rattle.session.specs.Sessions.{repair_in_form, place_in_form, row_in_form, in_form}

-- ---- the numbers of a row

-- The number after the first, at the code's i + 1.
get_d_after : (x : ℕ) (l : List ℕ) (i : ℕ) → get_or (x ∷ l) (i + 1) 0 ≡ get_or l i 0
get_d_after x l i = rw add-one

-- The unused places behind a list.
get_or_unused : (l : List ℕ) (n i : ℕ) → length l ≤ i → i < length l + n → get_or (l ++ replicate n unused) i 0 ≡ unused
get_or_unused l n i low high =
    let e : length l + (i - length l) ≡ i = omega arith in
    ap (λ (k : ℕ). get_or (l ++ replicate n unused) k 0) (sym e) ∙ get_or-append-add l (replicate n unused) (i - length l) 0 ∙
    get_or-replicate n (i - length l) unused 0 (omega arith)

-- ---- a right row is in form

module _ (c : Cells) (rs : Courses) (f : ℕ) (l : List ℕ) (keeps : Keeps c rs f l) (rest : List ℕ) where
  -- The i-th repair of a list that keeps fact f right.
  repair_in_form_lem : (i : ℕ) → i < length l → repair_in_form c f (length l ∷ (l ++ rest)) i ≡ true
  unfolding repair_in_form
  repair_in_form_lem i h =
      let e : get_or (length l ∷ (l ++ rest)) (i + 1) 0 ≡ get_or l i 0 = get_d_after (length l) (l ++ rest) i ∙ get_or-append l rest 0 i h in
      let here = get_or_is_in l i h in
      rw e
      (and_both _ _ (and_both _ _ (keeps.permitted.each (get_or l i 0) here) (eq-eqb (fact_of (get_or l i 0)) f (keeps.own (get_or l i 0) here)))
      (above i h))
    where
      above : (i : ℕ) → i < length l → (eqb i 0 || ltb (get_or (length l ∷ (l ++ rest)) i 0) (get_or l i 0)) ≡ true
      above zero h = refl
      above (suc j) h =
          or_right (eqb (suc j) 0) _
          (rw (get_or-append l rest 0 j (omega arith)) (lt-ltb (get_or l j 0) (get_or l (suc j) 0) (ascending_steps 0 l keeps.permitted.ascending j h)))

  -- Every place of such a list's row: its repairs, then the unused places.
  found_place : rest ≡ replicate (max_row - length l) unused → length l ≤ max_row → (i : ℕ) → i < max_row
      → place_in_form c f (length l ∷ (l ++ rest)) i ≡ true
  unfolding place_in_form repairs_in
  found_place shown short i h =
      rw (le-leb (length l) max_row short)
      (by_order i (length l) (λ (m : i < length l). rw (lt-ltb i (length l) m) (repair_in_form_lem i m)) (λ (m : length l ≤ i).
      rw (le-ltb i (length l) m)
      (eq-eqb (get_or (length l ∷ (l ++ rest)) (i + 1) 0) unused
      (get_d_after (length l) (l ++ rest) i ∙ ap (λ (x : List ℕ). get_or (l ++ x) i 0) shown ∙
      get_or_unused l (max_row - length l) i m (omega arith)))))

-- A row that announces 7 or 8 has unused places only.
stuck_in_form : (c : Cells) (f n : ℕ) → max_row < n → n ≤ row_hopeless → f < c.facts → row_in_form c f (n ∷ replicate max_row unused) ≡ true
unfolding row_in_form place_in_form repairs_in
stuck_in_form c f n low high inside =
    and_both _ _ (and_both _ _ (le-leb n row_hopeless high) (rw (lt-ltb f c.facts inside)))
    (all_every_below (place_in_form c f (n ∷ replicate max_row unused)) max_row (λ i h.
    rw (lt-leb n max_row low, le-ltb i 0 (omega arith))
    (eq-eqb (get_or (n ∷ replicate max_row unused) (i + 1) 0) unused
    (get_d_after n (replicate max_row unused) i ∙ get_or-replicate max_row i unused 0 h))))

module _ (t : Task) (w : WellFormed t) (f : ℕ) where
  -- "rows from F up are empty": past the facts the empty list is the first.
  fact_or_none : (l : List ℕ) → First (KeepsFor t f) l → (ltb f t.table.facts || eqb (length l) 0) ≡ true
  fact_or_none l first =
      by_order f t.table.facts (λ (h : f < t.table.facts). rw (lt-ltb f t.table.facts h)) (λ (h : t.table.facts ≤ f).
      or_right (ltb f t.table.facts) _
      (eq-eqb (length l) 0 (ap length (first_unique (KeepsFor t f) l [] first (keeps_for_outside t w f h)))))

  -- A fact without a list of at most six is a fact of the task.
  stuck_fact : ((l : List ℕ) → First (KeepsFor t f) l → l ≡ [] → ⊥) → f < t.table.facts
  stuck_fact none =
      by_order f t.table.facts (λ (h : f < t.table.facts). h) (λ (h : t.table.facts ≤ f).
      absurd (none [] (keeps_for_outside t w f h) refl))

  verdict_in_form : (v : Verdict) → Within (KeepsFor t f) max_row v → row_in_form (cells_of t.table) f (row_of v) ≡ true
  unfolding row_in_form row_of cells_of
  verdict_in_form (found l) p =
      let row : List ℕ = length l ∷ (l ++ replicate (max_row - length l) unused) in
      and_both _ _ (and_both _ _ (le-leb (length l) row_hopeless (omega (arith, p.1))) (fact_or_none l p.0))
      (all_every_below (place_in_form (cells_of t.table) f row) max_row
      (found_place (cells_of t.table) (courses_of t) f l p.0.member (replicate (max_row - length l) unused) refl p.1))
  verdict_in_form over p =
      stuck_in_form (cells_of t.table) f row_over (omega arith) (omega arith)
      (stuck_fact (λ l first e. omega (arith, p.1 l first.member, ap length e)))
  verdict_in_form hopeless p =
      stuck_in_form (cells_of t.table) f row_hopeless (omega arith) (omega arith) (stuck_fact (λ l first e. p l first.member))

  pub right_in_form : (row : List ℕ) → RightRow t f row → row_in_form (cells_of t.table) f row ≡ true
  right_in_form row r = ap (row_in_form (cells_of t.table) f) r.shown ∙ verdict_in_form r.verdict r.within

-- A table of right rows is in form: listing never refuses a session with 13 that was never tampered with.
pub stored_in_form : (t : Task) → WellFormed t → (s : List ℕ) → Stored t s → in_form t s ≡ true
unfolding in_form
stored_in_form t w s b =
    and_both _ _ (eq-eqb (length s) session_places b.places)
    (all_every_below (λ f. row_in_form (cells_of t.table) f (row_at s f)) max_facts (λ f h. right_in_form t w f (row_at s f) (b.rows f h)))

-- ---- what the test tells a caller

pub in_form_readable : (t : Task) → WellFormed t → (s : List ℕ) → in_form t s ≡ true → Readable s t.table.facts
unfolding in_form row_in_form
in_form_readable t w s h =
    let p = both (eqb (length s) session_places) (every_below (λ f. row_in_form (cells_of t.table) f (row_at s f)) max_facts) h in
    record {
      places = omega (arith, eqb-true (length s) session_places p.0, session_places_rows);
      firsts = λ f l.
          let first : Bool = leb (get_or (row_at s f) 0 0) row_hopeless in
          let inside : Bool = ltb f (cells_of t.table).facts || eqb (get_or (row_at s f) 0 0) 0 in
          let row = every_below_all (λ f. row_in_form (cells_of t.table) f (row_at s f)) max_facts p.1 f (omega (arith, w.facts_high)) in
          let q = both (first && inside) (every_below (place_in_form (cells_of t.table) f (row_at s f)) max_row) row in
          leb-true (get_or (row_at s f) 0 0) row_hopeless (both first inside q.0).0;
    }
