-- Laws of the rows joined as they come: the wrong facts come in order, and a fact that is right adds nothing. Assumes nothing.
use mathlib.Core.Bool.{Bool, true, false, ◌||◌, cond, true≢false}
use mathlib.Core.List.{List, [], ◌++◌}
use mathlib.Core.Logic.{◌⊎◌, inl, inr}
use mathlib.Core.Path.{◌≡◌, refl, sym, ap, ◌∙◌, subst}
use Prim.Native.Nat.{ℕ, ◌+◌, ◌-◌, ◌*◌, ◌<◌, ◌≤◌}
use native.Mathlib.Omega.{arith}
use borrow.Author.Tests.{eqb-true, eqb-false, eq-eqb, ne_eqb}
use lib.Dec.{eqb, leb}
use lib.ListN.{length, get_or, take, drop, length-drop}
use lib.Seq.{length-take-le, length_paste_head, take-append_seam, take-length}
use Rattle.facts.specs.Sets.{has, only, removed, lowest}
use Rattle.facts.proofs.Counting.{lowest_first}
use Rattle.facts.proofs.Laws.{has_empty}
use Rattle.search.specs.Rows.{row_hopeless, verdict_in, RowFor, RightRow}
use Rattle.search.specs.declared.Column.{Column}
use Rattle.search.specs.Columns.{courses_in, KeepsIn, ColumnFormed}
use Rattle.search.specs.Views.{Shows}
use Rattle.search.proofs.RowLaws.{row_shown}
use Rattle.search.proofs.ViewLaws.{shows_formed}
use Rattle.table.specs.Answer.{Verdict, found, over, hopeless, Within}
use Rattle.table.specs.Counting.{some_below}
use Rattle.table.specs.Join.{is_hopeless, is_over, found_list, join_lists, join_verdicts}
use Rattle.table.specs.Refusals.{accepted}
use Rattle.table.specs.Sizes.{max_facts, max_limit, max_row, row_places, all_rows}
use Rattle.table.specs.Tasks.{KeepsFor, WellFormed}
use Rattle.table.specs.declared.Reply.{Reply}
use Rattle.table.specs.declared.Task.{Task}
use Rattle.table.proofs.CountingLaws.{some_below_first, some_below_next, some_passes}
use Rattle.table.proofs.FlagLaws.{same_flag, by_order}
use Rattle.table.proofs.GatherLaws.{gather_zero, gather_same, gather_none, gather_step, gather_step_length}
use Rattle.table.proofs.JoinLaws.{join_for}
use Rattle.rows.specs.Copies.{pasted}
use Rattle.rows.specs.Tables.{empty_row, repairs_in}
use Rattle.rows.specs.Wrong.{WrongFacts}
use Rattle.rows.proofs.TableLaws.{right_verdict}
use Rattle.rows.proofs.LeftLaws.{wrong_low, lowest_in, lowest_inside, without_in, without_out}
use Rattle.rows.proofs.WrongLaws.{right_empty}
use Rattle.solve.specs.Joins.{Joins}
use Rattle.solve.specs.Reports.{with_first, reply_for}
use Rattle.solve.specs.Solving.{Solves}
use Rattle.solve.specs.declared.join.Tally.{Tally}
use Rattle.solve.proofs.ReportLaws.{row_hopeless_lem, row_over_lem, row_list, announced_repairs, repairs_low, passes_some, ComeTo, reply_given, numbers_told}
use Rattle.solve.proofs.SolveLaws.{solves_verdict}

-- ---- one row more

-- A list with another one copied behind its first places, up to there.
taken_pasted : (s : List ℕ) (at : ℕ) (x : List ℕ) (n : ℕ) → at ≤ length s → n ≤ length x → take (at + n) (pasted s at x n) ≡ take at s ++ take n x
unfolding pasted
taken_pasted s at x n h k =
    ap (λ (i : ℕ). take i (pasted s at x n)) (sym (length_paste_head s at x n h k)) ∙ take-append_seam (take at s ++ take n x) (drop (at + n) s)

-- What is copied to the first places.
pub first_pasted : (s l after : List ℕ) (n k : ℕ) → after ≡ pasted s 0 (drop 0 l) n → k ≡ n → after ≡ take k l ++ drop k s
unfolding pasted
first_pasted s l after n k w e =
    let z : 0 + n ≡ k = omega arith in
    w ∙ (λ i. take (sym e i) l ++ drop (z i) s)

module _ (j : Tally) (row : List ℕ) (whole : length row ≡ row_places) (low : get_or row 0 0 ≤ row_hopeless) (count : ℕ)
    (d : count ≡ cond (leb (get_or row 0 0) max_row) (get_or row 0 0) 0) where
  same_count : count ≡ repairs_in row
  same_count = announced_repairs row (get_or row 0 0) count refl d

  pub count_low : count ≤ max_row
  count_low = omega (arith, same_count, repairs_low row)

  enough : count ≤ length (drop 1 row)
  enough = omega (arith, count_low, whole, length-drop 1 row)

  same_list : take count (drop 1 row) ≡ found_list (verdict_in row)
  same_list = ap (λ (k : ℕ). take k (drop 1 row)) same_count ∙ sym (row_list row low)

  -- The row's numbers added, with this list.
  abbrev added : List ℕ → Tally
  added l = record { sum = with_first j.sum (get_or row 0 0); list = l }

  joins_with : (l : List ℕ) → (j.sum.total + count ≤ max_limit → take (j.sum.total + count) l ≡ take j.sum.total j.list ++ take count (drop 1 row))
      → Joins j (verdict_in row) (added l)
  joins_with l put = record {
    hopeless = ap (λ (b : Bool). j.sum.hopeless || b) (sym (row_hopeless_lem row));
    over = ap (λ (b : Bool). j.sum.over || b) (sym (row_over_lem row));
    total = ap (λ (k : ℕ). j.sum.total + k) (sym d ∙ sym (ap length (sym same_list) ∙ length-take-le count (drop 1 row) enough));
    list = λ k.
        ap (λ (n : ℕ). take (j.sum.total + n) l) (sym d) ∙ put (omega (arith, d)) ∙ ap (λ (x : List ℕ). take j.sum.total j.list ++ x) same_list;
  }

  pub joins_none : max_limit < (with_first j.sum (get_or row 0 0)).total → Joins j (verdict_in row) (added j.list)
  joins_none h = joins_with j.list (λ k. absurd (omega (arith, d)))

  pub joins_row : (l : List ℕ) → j.sum.total ≤ length j.list → l ≡ pasted j.list j.sum.total (drop 1 row) count
      → Joins j (verdict_in row) (added l)
  joins_row l h w =
      joins_with l (λ k. ap (take (j.sum.total + count)) w ∙ taken_pasted j.list j.sum.total (drop 1 row) count h enough)

-- ---- tests and lists that nothing is added to

-- Two tests that agree below m, and of which the second fails from there up to n.
some_along : (p q : ℕ → Bool) (m n : ℕ) → m ≤ n → ((i : ℕ) → i < m → p i ≡ q i) → ((i : ℕ) → m ≤ i → i < n → q i ≡ false)
    → some_below p m ≡ some_below q n
some_along p q m n h same none =
    same_flag (some_below p m) (some_below q n)
    (λ s.
    let x = some_passes p m s in
    passes_some q n x.0 (omega (arith, x.1)) (sym (same x.0 x.1) ∙ x.2))
    (λ s.
    let x = some_passes q n s in
    by_order x.0 m (λ l. passes_some p m x.0 l (same x.0 l ∙ x.2)) (λ l. absurd (true≢false (sym x.2 ∙ none x.0 l x.1))))

-- ---- the join

-- What the verdicts of the facts below n come to, with the joined list as long as an answer can be.
pub record JoinOf (v : ℕ → Verdict) (n : ℕ) (j : Tally) : Type 0 where
  pub hopeless : j.sum.hopeless ≡ some_below (λ f. is_hopeless (v f)) n
  pub over : j.sum.over ≡ some_below (λ f. is_over (v f)) n
  pub total : j.sum.total ≡ length (join_lists v n)
  pub list : j.sum.total ≤ max_limit → take j.sum.total j.list ≡ join_lists v n

-- Facts without repairs add nothing.
join_along : (v u : ℕ → Verdict) (m n : ℕ) (j : Tally) → m ≤ n → ((f : ℕ) → f < m → v f ≡ u f) → ((f : ℕ) → m ≤ f → f < n → u f ≡ found [])
    → JoinOf v m j → JoinOf u n j
unfolding is_hopeless is_over found_list
join_along v u m n j h same none b =
    let e : m + (n - m) ≡ n = omega arith in
    let lists : join_lists v m ≡ join_lists u n =
    gather_same (λ f. found_list (v f)) (λ f. found_list (u f)) m (λ f l. ap found_list (same f l)) ∙
    sym (gather_none (λ f. found_list (u f)) m (n - m) (λ f l k. ap found_list (none f l (omega arith)))) ∙ ap (join_lists u) e in
    record {
      hopeless = b.hopeless ∙ some_along (λ f. is_hopeless (v f)) (λ f. is_hopeless (u f)) m n h (λ f l. ap is_hopeless (same f l)) (λ f l k. ap is_hopeless (none f l k));
      over = b.over ∙ some_along (λ f. is_over (v f)) (λ f. is_over (u f)) m n h (λ f l. ap is_over (same f l)) (λ f l k. ap is_over (none f l k));
      total = b.total ∙ ap length lists;
      list = λ k. b.list k ∙ lists;
    }

join_next : (v : ℕ → Verdict) (f : ℕ) (j next : Tally) → JoinOf v f j → Joins j (v f) next → JoinOf v (f + 1) next
join_next v f j next b a = record {
  hopeless = a.hopeless ∙ ap (λ (x : Bool). x || is_hopeless (v f)) b.hopeless ∙ sym (some_below_next (λ g. is_hopeless (v g)) f);
  over = a.over ∙ ap (λ (x : Bool). x || is_over (v f)) b.over ∙ sym (some_below_next (λ g. is_over (v g)) f);
  total = a.total ∙ ap (λ (k : ℕ). k + length (found_list (v f))) b.total ∙ sym (gather_step_length (λ g. found_list (v g)) f);
  list = λ k.
      a.list k ∙ ap (λ (l : List ℕ). l ++ found_list (v f)) (b.list (omega (arith, a.total))) ∙ sym (gather_step (λ g. found_list (v g)) f);
}

-- ---- the wrong facts, in order

-- The rows of the facts below `at` are joined: of those that were wrong, and of the others, which are without repairs. The wrong facts that are left
-- come after; as long as they are left, nothing is said of them.
pub record Joining (t : Task) (left : ℕ) (j : Tally) : Type 0 where
  pub well : WellFormed t
  pub says : ℕ → Verdict
  pub within : (f : ℕ) → has left f ≡ false → Within (KeepsFor t f) max_row (says f)
  pub at : ℕ
  pub low : at ≤ t.table.facts
  pub none : (f : ℕ) → at ≤ f → says f ≡ found []
  pub ahead : (f : ℕ) → has left f ≡ true → (at ≤ f) × (f < t.table.facts)
  pub bound : j.sum.total ≤ max_row * at
  pub joined : JoinOf says at j

pub joining_none : (t : Task) → WellFormed t → (wrong : ℕ) → WrongFacts t wrong → (l : List ℕ)
    → Joining t wrong (record { sum = record { hopeless = false; over = false; total = 0 }; list = l })
unfolding verdict_in found_list is_hopeless is_over
joining_none t w wrong known l = record {
  well = w;
  says = λ f. found [];
  within = λ f h. right_verdict t f empty_row (right_empty t wrong known f h);
  at = 0;
  low = omega arith;
  none = λ f h. refl;
  ahead = λ f h. (omega arith, wrong_low t w wrong known f h);
  bound = omega arith;
  joined = record {
    hopeless = sym (some_below_first (λ f. is_hopeless (found [])));
    over = sym (some_below_first (λ f. is_over (found [])));
    total = sym (ap length (gather_zero (λ f. found_list (found []))));
    list = λ k. sym (gather_zero (λ f. found_list (found [])));
  };
}

-- A list that was found is no longer than was asked for.
found_low : (G : List ℕ → Type 0) (k : ℕ) (v : Verdict) → Within G k v → length (found_list v) ≤ k
unfolding found_list
found_low G k (found l) w = w.1
found_low G k over w = omega arith
found_low G k hopeless w = omega arith

-- The repairs of one row more can be counted.
pub joining_small : (t : Task) → WellFormed t → (left : ℕ) (j : Tally) → Joining t left j → j.sum.total ≤ all_rows
joining_small t w left j b = omega (arith, b.bound, b.low, w.facts_high)

-- A turn: the lowest of the facts that are left.
module _ (t : Task) (w : WellFormed t) (left : ℕ) (j : Tally) (b : Joining t left j) (some : 0 < left) (f : ℕ) (e : f ≡ lowest left) where
  inside : f < t.table.facts
  inside = lowest_inside t w left some (λ g h. (b.ahead g h).1) f e

  -- The column of that fact is searched for its row.
  module _ (col : Column) (shown : (col.fact ≡ f) × Shows t col) where
    pub joining_column : ColumnFormed col t.runs.counts t.runs.steps × (col.fact < max_facts)
    joining_column = (shows_formed t col shown.1 w, omega (arith, shown.0, inside, w.facts_high))

    pub joining_row : (row : List ℕ) → RowFor (KeepsIn col (courses_in col t.runs.counts t.runs.steps)) row → RightRow t f row
    joining_row row right =
        subst (λ (g : ℕ). RightRow t g row) shown.0 (row_shown t col shown.1 (omega (arith, shown.0, inside)) row right)

  -- Its row is joined behind the others, and the facts between have none to join.
  pub joining_more : (row : List ℕ) (next : Tally) (rest : ℕ) → RightRow t f row → Joins j (verdict_in row) next → rest ≡ removed left (only f)
      → Joining t rest next
  joining_more row next rest right a n =
      let at : b.at ≤ f = (b.ahead f (lowest_in t w left some (λ g h. (b.ahead g h).1) f e)).0 in
      record {
        well = w;
        says = v;
        within = λ g h. within g h (eqb g f) refl;
        at = f + 1;
        low = omega (arith, inside);
        none = λ g h. v_other g (λ k. omega arith) ∙ b.none g (omega arith);
        ahead = λ g h. let k = without_in t w left some (λ i l. (b.ahead i l).1) f e rest n g h in (after g k.0 k.1, (b.ahead g k.0).1);
        bound = omega (arith, b.bound, a.total, found_low (KeepsFor t f) max_row (verdict_in row) (right_verdict t f row right));
        joined = join_next v f j next
            (join_along b.says v b.at f j at (λ g l. sym (v_other g (λ k. omega arith)))
            (λ g l m. v_other g (λ k. omega arith) ∙ b.none g l) b.joined)
            (subst (λ (x : Verdict). Joins j x next) (sym v_here) a);
      }
    where
      v : ℕ → Verdict
      v g = cond {A = Verdict} (eqb g f) (verdict_in row) (b.says g)

      v_here : v f ≡ verdict_in row
      v_here = rw (eq-eqb f f refl)

      v_other : (g : ℕ) → (g ≡ f → ⊥) → v g ≡ b.says g
      v_other g ne = rw (ne_eqb g f ne)

      within : (g : ℕ) → has rest g ≡ false → (x : Bool) → eqb g f ≡ x → Within (KeepsFor t g) max_row (v g)
      within g h true q =
          subst (λ (k : ℕ). Within (KeepsFor t k) max_row (v k)) (sym (eqb-true g f q))
          (subst (λ (x : Verdict). Within (KeepsFor t f) max_row x) (sym v_here) (right_verdict t f row right))
      within g h false q =
          let ne = eqb-false g f q in
          subst (λ (x : Verdict). Within (KeepsFor t g) max_row x) (sym (v_other g ne))
          (b.within g (without_out t w left some (λ i l. (b.ahead i l).1) f e rest n g h ne))

      after : (g : ℕ) → has left g ≡ true → (g ≡ f → ⊥) → f + 1 ≤ g
      after g h ne =
          by_order g (f + 1)
          (λ l. absurd (by_order g f (λ m. true≢false (sym h ∙ lowest_first left g (omega (arith, e)))) (λ m. ne (omega arith)))) (λ l. l)

-- None is left: what the rows come to, answered, is the solve.
module _ (t : Task) (w : WellFormed t) (room : List ℕ) (left : ℕ) (done : left ≡ 0) (j : Tally) (b : Joining t left j) where
  abbrev all : List ℕ
  all = join_lists b.says t.table.facts

  whole : JoinOf b.says t.table.facts j
  whole = join_along b.says b.says b.at t.table.facts j b.low (λ f l. refl) (λ f l k. b.none f l) b.joined

  -- What is written of the list held is written of the joined list.
  same_taken : (r : Reply) → r ≡ reply_for j.sum.hopeless j.sum.over j.sum.total t.table.limit (length room)
      → take r.length j.list ≡ take r.length all
  same_taken r e = pick (reply_given j.sum.hopeless j.sum.over j.sum.total t.table.limit (length room) r e)
    where
      pick : ((r.number ≡ accepted → ⊥) × (r.length ≡ 0)) ⊎ ((r.length ≡ j.sum.total) × (j.sum.total ≤ t.table.limit) × (j.sum.total ≤ length room))
          → take r.length j.list ≡ take r.length all
      pick (inl z) = ap (λ (k : ℕ). take k j.list) z.1 ∙ sym (ap (λ (k : ℕ). take k all) z.1)
      pick (inr g) =
          ap (λ (k : ℕ). take k j.list) g.0 ∙ whole.list (omega (arith, g.1, w.limit_high)) ∙ sym (take-length all) ∙
          ap (λ (k : ℕ). take k all) (sym (g.0 ∙ whole.total))

  pub joining_solves : (r : Reply) (after : List ℕ) → r ≡ reply_for j.sum.hopeless j.sum.over j.sum.total t.table.limit (length room)
      → after ≡ take r.length j.list ++ drop r.length room → Solves t room (record { reply = r; room = after })
  joining_solves r after e d =
      let n : ℕ = t.table.facts in
      let comes : ComeTo b.says n j.sum.hopeless j.sum.over j.sum.total = record {
        hopeless = whole.hopeless;
        over = whole.over;
        total = whole.total;
      } in
      solves_verdict t room w (join_verdicts b.says n t.table.limit)
      (join_for t w b.says (λ f h. b.within f (ap (λ (m : ℕ). has m f) done ∙ has_empty f))) _
      (numbers_told b.says n t.table.limit room j.sum.hopeless j.sum.over j.sum.total comes r after e
      (d ∙ ap (λ (l : List ℕ). l ++ drop r.length room) (same_taken r e)))
