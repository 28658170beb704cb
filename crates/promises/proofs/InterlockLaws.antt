-- What the interlocks (02, request 6) need of the calls' contracts: a list that a solve gives, that a session lists or that applying accepts has
-- permitted repairs alone. A session's table may hold anything: listing looks whether it is in form. Assumes nothing.
use mathlib.Core.Bool.{Bool, true, false, cond, ◌&&◌, ◌||◌}
use mathlib.Core.List.{List}
use mathlib.Core.Logic.{⊎_elim}
use mathlib.Core.Path.{◌≡◌, refl, sym, ap, ◌∙◌, subst}
use Prim.Native.Nat.{ℕ, zero, suc, ◌+◌, ◌<◌, ◌≤◌}
use native.Mathlib.Omega.{arith}
use lib.Dec.{eqb, leb, ltb}
use lib.ListN.{length, get_or, take, drop, length-drop}
use lib.Seq.{get_or-take, get_or-drop, length-take-le, take-append_seam}
use borrow.Author.Tests.{eqb-true, eqb-false, leb-true, le-leb, lt-ltb}
use Rattle.apply.proofs.PermittedLaws.{first_wrong_le, permitted_list}
use Rattle.apply.proofs.ApplyLaws.{applies_wrong, applies_unique}
use Rattle.apply.specs.Applying.{first_wrong, Applies}
use Rattle.change.proofs.MemberLaws.{is_in_all}
use Rattle.rows.proofs.TableLaws.{row_length}
use Rattle.rows.specs.Tables.{row_at, verdict_at, repairs_in}
use Rattle.search.specs.Rows.{row_over, row_hopeless, verdict_in}
use Rattle.session.proofs.CallLaws.{listed_not_a_session, listed_told}
use Rattle.session.specs.Calls.{listed}
use Rattle.session.specs.Sessions.{repair_in_form, place_in_form, row_in_form, in_form}
use Rattle.solve.specs.Solving.{told}
use Rattle.table.proofs.CountingLaws.{every_below_all}
use Rattle.table.proofs.FlagLaws.{both, by_order}
use Rattle.table.proofs.GatherLaws.{gather_zero, gather_next}
use Rattle.table.proofs.OrderLaws.{is_in_none, is_in_either}
use Rattle.table.proofs.OutcomeLaws.{given_cases}
use Rattle.table.specs.Answer.{Verdict, found, over, hopeless, Permitted}
use Rattle.table.specs.Counting.{every_below, some_below, first_where}
use Rattle.table.specs.Join.{is_hopeless, is_over, found_list, Joined, no_list, beyond, in_order, join_lists, join_rows, read_against}
use Rattle.table.specs.Lists.{gather}
use Rattle.table.specs.Order.{is_in}
use Rattle.table.specs.Outcomes.{Outcome, answered}
use Rattle.table.specs.Refusals.{accepted}
use Rattle.table.specs.Repairs.{permitted, fact_of}
use Rattle.table.specs.Sizes.{max_facts, max_row, row_places, session_places}
use Rattle.table.specs.Strips.{Cells}
use Rattle.table.specs.Tasks.{cells_of, formed, WellFormed}
use Rattle.table.specs.declared.Task.{Task}
use Rattle.table.specs.declared.TaskReply.{TaskReply}

-- Each number of the list names a permitted repair.
abbrev pub EachPermitted : Cells → List ℕ → Type 0
EachPermitted c l = (n : ℕ) → is_in l n ≡ true → permitted c n ≡ true

-- ---- a row in form, and the rows joined

module _ (c : Cells) (f : ℕ) (row : List ℕ) (long : length row ≡ row_places) (form : row_in_form c f row ≡ true) where
  -- The i-th number of a row that announces more than i repairs.
  row_repair : (i : ℕ) → get_or row 0 0 ≤ max_row → i < get_or row 0 0 → permitted c (get_or row (i + 1) 0) ≡ true
  unfolding row_in_form place_in_form repair_in_form repairs_in
  row_repair i low h =
      let first : Bool = leb (get_or row 0 0) row_hopeless in
      let inside : Bool = ltb f c.facts || eqb (get_or row 0 0) 0 in
      let places = (both (first && inside) (every_below (place_in_form c f row) max_row) form).1 in
      let place = every_below_all (place_in_form c f row) max_row places i (omega arith) in
      let repair : repair_in_form c f row i ≡ true = rw (le-leb (get_or row 0 0) max_row low, lt-ltb i (get_or row 0 0) h) at place in
      (both (permitted c (get_or row (i + 1) 0)) _ (both (permitted c (get_or row (i + 1) 0) && eqb (fact_of (get_or row (i + 1) 0)) f) _ repair).0).0

  row_permitted : EachPermitted c (found_list (verdict_in row))
  unfolding verdict_in found_list row_in_form
  row_permitted = pick (eqb (get_or row 0 0) row_over) (eqb (get_or row 0 0) row_hopeless) refl refl
    where
      pick : (o h : Bool) → eqb (get_or row 0 0) row_over ≡ o → eqb (get_or row 0 0) row_hopeless ≡ h
          → EachPermitted c (found_list (cond {A = Verdict} o over (cond {A = Verdict} h hopeless (found (take (get_or row 0 0) (drop 1 row))))))
      pick true h e g = λ n m. absurd (is_in_none n m)
      pick false true e g = λ n m. absurd (is_in_none n m)
      pick false false e g =
          let first : Bool = leb (get_or row 0 0) row_hopeless in
          let inside : Bool = ltb f c.facts || eqb (get_or row 0 0) 0 in
          let high = leb-true (get_or row 0 0) row_hopeless (both first inside (both (first && inside) _ form).0).0 in
          let low : get_or row 0 0 ≤ max_row = omega (arith, high, eqb-false (get_or row 0 0) row_over e, eqb-false (get_or row 0 0) row_hopeless g) in
          let places = length-take-le (get_or row 0 0) (drop 1 row) (omega (arith, length-drop 1 row)) in
          is_in_all (λ (n : ℕ). permitted c n ≡ true) (take (get_or row 0 0) (drop 1 row)) (λ i h.
          let below : i < get_or row 0 0 = omega (arith, places) in
          let next : 1 + i ≡ i + 1 = omega arith in
          let at : get_or (take (get_or row 0 0) (drop 1 row)) i 0 ≡ get_or row (i + 1) 0 =
          get_or-take (get_or row 0 0) (drop 1 row) i 0 below ∙ get_or-drop 1 row i 0 ∙ ap (λ (j : ℕ). get_or row j 0) next in
          ap (permitted c) at ∙ row_repair i low below)

joined_permitted : (c : Cells) (v : ℕ → Verdict) (n : ℕ) → ((f : ℕ) → f < n → EachPermitted c (found_list (v f))) → EachPermitted c (join_lists v n)
joined_permitted c v zero each m h = absurd (is_in_none m (ap (λ (l : List ℕ). is_in l m) (sym (gather_zero (λ f. found_list (v f)))) ∙ h))
joined_permitted c v (suc n) each m h =
    ⊎_elim (joined_permitted c v n (λ f l. each f (omega arith)) m) (each n (omega arith) m)
    (is_in_either (gather (λ f. found_list (v f)) n) (found_list (v n)) m (ap (λ (l : List ℕ). is_in l m) (sym (gather_next (λ f. found_list (v f)) n)) ∙ h))

-- ---- what a call wrote

-- Where the outcome is no refusal, what was written are permitted repairs.
Fine : Cells → Outcome → Type 0
Fine c o = o.reply.number ≡ accepted → EachPermitted c (take o.reply.length o.room)

answered_fine : (c : Cells) (l room : List ℕ) → EachPermitted c l → EachPermitted c (take (length l) (answered l room).room)
answered_fine c l room each n h = each n (ap (λ (m : List ℕ). is_in m n) (sym (take-append_seam l (drop (length l) room))) ∙ h)

told_fine : (c : Cells) (limit : ℕ) (v : ℕ → Verdict) (n : ℕ) (room : List ℕ) → EachPermitted c (join_lists v n)
    → Fine c (told (read_against limit (join_rows v n)) room)
unfolding told read_against join_rows Fine
told_fine c limit v n room each =
    joined (some_below (λ f. is_hopeless (v f)) n) (ltb (first_where (λ f. is_over (v f)) n) n)
  where
    list : (b : Bool) → Fine c (told (cond {A = Verdict} b over (found (join_lists v n))) room)
    list true = λ e. absurd (omega arith)
    list false =
        given_cases (join_lists v n) room (Fine c) (λ short e. absurd (omega arith)) (λ fits e. answered_fine c (join_lists v n) room each)

    joined : (x y : Bool)
        → Fine c (told (read_against limit (cond {A = Joined} x no_list (cond {A = Joined} y (beyond (first_where (λ f. is_over (v f)) n)) (in_order (join_lists v n))))) room)
    joined true y = λ e. absurd (omega arith)
    joined false true = λ e. absurd (omega arith)
    joined false false = list (ltb limit (length (join_lists v n)))

rows_permitted : (t : Task) → WellFormed t → (s : List ℕ) → in_form t s ≡ true → EachPermitted (cells_of t.table) (join_lists (verdict_at s) t.table.facts)
unfolding in_form
rows_permitted t w s h =
    let c = cells_of t.table in
    let p = both (eqb (length s) session_places) (every_below (λ f. row_in_form c f (row_at s f)) max_facts) h in
    let long = eqb-true (length s) session_places p.0 in
    joined_permitted c (verdict_at s) t.table.facts (λ f low.
    row_permitted c f (row_at s f) (row_length s f (omega (arith, w.facts_high)))
    (every_below_all (λ f. row_in_form c f (row_at s f)) max_facts p.1 f (omega (arith, w.facts_high))))

told_permitted : (t : Task) → WellFormed t → (s room : List ℕ) (o : Outcome)
    → o ≡ told (read_against t.table.limit (join_rows (verdict_at s) t.table.facts)) room
    → EachPermitted (cells_of t.table) (join_lists (verdict_at s) t.table.facts) → o.reply.number ≡ accepted
    → EachPermitted (cells_of t.table) (take o.reply.length o.room)
unfolding Fine
told_permitted t w s room o e each =
    subst (Fine (cells_of t.table)) (sym e) (told_fine (cells_of t.table) t.table.limit (verdict_at s) t.table.facts room each)

-- A session's list, whatever numbers its table holds.
pub listed_permitted : (t : Task) → WellFormed t → (s room : List ℕ) (o : Outcome) → o ≡ listed t s room → o.reply.number ≡ accepted
    → EachPermitted (cells_of t.table) (take o.reply.length o.room)
listed_permitted t w s room o e ok = pick (in_form t s) refl
  where
    pick : (b : Bool) → in_form t s ≡ b → EachPermitted (cells_of t.table) (take o.reply.length o.room)
    pick false h = absurd (omega (arith, ap (λ (x : Outcome). x.reply.number) (e ∙ listed_not_a_session t s room w h)))
    pick true h = told_permitted t w s room o (e ∙ listed_told t s room w h) (rows_permitted t w s h) ok

-- A list that applying accepts.
pub applied_permitted : (t : Task) → formed t ≡ true → (l : List ℕ) (r : TaskReply) → Applies t l r → r.number ≡ accepted
    → Permitted (cells_of t.table) l
applied_permitted t well l r a ok =
    by_order (first_wrong (cells_of t.table) l) (length l)
    (λ h. absurd (omega (arith, ap (λ (x : TaskReply). x.number) (applies_unique t l r _ a (applies_wrong t l _ refl well h)))))
    (λ h. permitted_list (cells_of t.table) l (omega (arith, first_wrong_le (cells_of t.table) l)))
