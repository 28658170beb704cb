-- Laws of the report: what one row more adds to the sum and to the room, and what the numbers tell.
-- Assumes nothing.
use mathlib.Core.Bool.{Bool, true, false, cond, ◌||◌, true≢false}
use mathlib.Core.List.{List, ◌++◌}
use mathlib.Core.Logic.{◌⊎◌, inl, inr}
use mathlib.Core.Path.{◌≡◌, refl, sym, ap, ◌∙◌, subst}
use Prim.Native.Nat.{ℕ, ◌+◌, ◌*◌, ◌<◌, ◌≤◌}
use Rattle.std.specs.Prelude.{Ok, Err}
use native.Mathlib.Omega.{arith}
use lib.Dec.{eqb, leb, ltb}
use lib.ListN.{length, get_or, take, drop, length-append, length-drop}
use lib.Seq.{get_or-take, get_or-drop, ext_get_or, length-take-le, take-append_seam, take-length, drop-append-add, drop-drop}
use borrow.Author.Tests.{lt-ltb, eqb-true, eqb-false, leb-true, leb-false, le-leb, lt-leb, ltb-true, ltb-false}
use Rattle.search.specs.Rows.{row_over, row_hopeless, verdict_in}
use Rattle.table.specs.Counting.{some_below, first_where}
use Rattle.table.specs.Answer.{Verdict, found, over, hopeless}
use Rattle.table.specs.Join.{is_hopeless, is_over, found_list, join_lists, Joined, no_list, beyond, in_order, join_rows, read_against, join_verdicts}
use Rattle.table.specs.Refusals.{accepted, no_list_works, over_the_limit, room_too_short}
use Rattle.table.specs.Sizes.{max_facts, max_row, row_places}
use Rattle.table.proofs.FlagLaws.{or_neither, same_flag, by_order}
use Rattle.table.proofs.CountingLaws.{some_below_first, some_below_next, some_passes, none_passes, first_where_at}
use Rattle.table.proofs.GatherLaws.{gather_zero, gather_step, gather_part}
use Rattle.rows.specs.Copies.{pasted}
use Rattle.solve.specs.Reports.{with_first, sum_of, reply_for}
use Rattle.solve.specs.Solving.{told}
use Rattle.table.specs.Outcomes.{Outcome, refusal, reply_of}
use Rattle.table.specs.declared.Reply.{Reply}
use Rattle.table.specs.declared.refusals.Refusal.{Refusal}
use Rattle.table.proofs.OutcomeLaws.{given_short, given_whole}
use Rattle.rows.specs.Tables.{row_at, verdict_at, repairs_in, Readable}
use Rattle.solve.specs.declared.report.Sum.{Sum}
use Rattle.rows.proofs.CopyLaws.{pasted_length}
use Rattle.rows.proofs.TableLaws.{row_number, row_length}

-- ---- what the first number of a row says

module _ (row : List ℕ) where
  pub row_hopeless_lem : is_hopeless (verdict_in row) ≡ eqb (get_or row 0 0) row_hopeless
  unfolding verdict_in is_hopeless
  row_hopeless_lem = pick (eqb (get_or row 0 0) row_over) (eqb (get_or row 0 0) row_hopeless) refl refl
    where
      pick : (a b : Bool) → eqb (get_or row 0 0) row_over ≡ a → eqb (get_or row 0 0) row_hopeless ≡ b
          → is_hopeless (cond {A = Verdict} a over (cond {A = Verdict} b hopeless (found (take (get_or row 0 0) (drop 1 row))))) ≡ b
      pick true true p q =
          absurd (omega (arith, eqb-true (get_or row 0 0) row_over p, eqb-true (get_or row 0 0) row_hopeless q))
      pick true false p q = refl
      pick false true p q = refl
      pick false false p q = refl

  pub row_over_lem : is_over (verdict_in row) ≡ eqb (get_or row 0 0) row_over
  unfolding verdict_in is_over
  row_over_lem = pick (eqb (get_or row 0 0) row_over) (eqb (get_or row 0 0) row_hopeless)
    where
      pick : (a b : Bool)
          → is_over (cond {A = Verdict} a over (cond {A = Verdict} b hopeless (found (take (get_or row 0 0) (drop 1 row))))) ≡ a
      pick true b = refl
      pick false true = refl
      pick false false = refl

  -- What the first number announces is what the row does.
  pub announced_repairs : (first count : ℕ) → first ≡ get_or row 0 0 → count ≡ cond (leb first max_row) first 0 → count ≡ repairs_in row
  unfolding repairs_in
  announced_repairs first count e d = d ∙ ap (λ (x : ℕ). cond (leb x max_row) x 0) e

  pub repairs_low : repairs_in row ≤ max_row
  unfolding repairs_in
  repairs_low =
      by_order max_row (get_or row 0 0) (λ h. rw (lt-leb (get_or row 0 0) max_row h) (omega arith)) (λ h. rw (le-leb (get_or row 0 0) max_row h) h)

  -- The list that a row says is as many of its numbers as it announces.
  pub row_list : get_or row 0 0 ≤ row_hopeless → found_list (verdict_in row) ≡ take (repairs_in row) (drop 1 row)
  unfolding verdict_in repairs_in found_list
  row_list h = pick (eqb (get_or row 0 0) row_over) (eqb (get_or row 0 0) row_hopeless) (leb (get_or row 0 0) max_row) refl refl refl
    where
      between : max_row < get_or row 0 0 → (get_or row 0 0 ≡ row_over → ⊥) → (get_or row 0 0 ≡ row_hopeless → ⊥) → ⊥
      between l p q = by_order (get_or row 0 0) row_hopeless (λ m. p (omega arith)) (λ m. q (omega arith))

      pick : (a b d : Bool) → eqb (get_or row 0 0) row_over ≡ a → eqb (get_or row 0 0) row_hopeless ≡ b → leb (get_or row 0 0) max_row ≡ d
          → found_list (cond {A = Verdict} a over (cond {A = Verdict} b hopeless (found (take (get_or row 0 0) (drop 1 row))))) ≡
          take (cond d (get_or row 0 0) 0) (drop 1 row)
      pick true b true p q r = absurd (omega (arith, eqb-true (get_or row 0 0) row_over p, leb-true (get_or row 0 0) max_row r))
      pick true b false p q r = refl
      pick false true true p q r = absurd (omega (arith, eqb-true (get_or row 0 0) row_hopeless q, leb-true (get_or row 0 0) max_row r))
      pick false true false p q r = refl
      pick false false true p q r = refl
      pick false false false p q r =
          absurd (between (leb-false (get_or row 0 0) max_row r) (eqb-false (get_or row 0 0) row_over p) (eqb-false (get_or row 0 0) row_hopeless q))

-- The numbers after the first stand in the table from the place after it on.
pub row_tail : (s : List ℕ) (f n : ℕ) → n ≤ max_row → row_places * f + row_places ≤ length s
    → take n (drop 1 (row_at s f)) ≡ take n (drop (row_places * f + 1) s)
row_tail s f n h fits =
    let tail : n ≤ length (drop 1 (row_at s f)) = omega (arith, length-drop 1 (row_at s f), row_length s f fits) in
    let rest : n ≤ length (drop (row_places * f + 1) s) = omega (arith, length-drop (row_places * f + 1) s) in
    let p = length-take-le n (drop 1 (row_at s f)) tail in
    ext_get_or 0 (take n (drop 1 (row_at s f))) (take n (drop (row_places * f + 1) s)) (p ∙ sym (length-take-le n (drop (row_places * f + 1) s) rest))
    (λ i k. at i (omega arith))
  where
    at : (i : ℕ) → i < n → get_or (take n (drop 1 (row_at s f))) i 0 ≡ get_or (take n (drop (row_places * f + 1) s)) i 0
    at i k =
        let e : row_places * f + (1 + i) ≡ row_places * f + 1 + i = omega arith in
        get_or-take n (drop 1 (row_at s f)) i 0 k ∙ get_or-drop 1 (row_at s f) i 0 ∙ row_number s f (1 + i) (omega arith) ∙
        ap (λ (j : ℕ). get_or s j 0) e ∙ sym (get_or-drop (row_places * f + 1) s i 0) ∙ sym (get_or-take n (drop (row_places * f + 1) s) i 0 k)

module _ (s : List ℕ) (n : ℕ) (low : n ≤ max_facts) (r : Readable s n) (f : ℕ) (h : f < n) where
  pub listed_at : found_list (verdict_at s f) ≡ take (repairs_in (row_at s f)) (drop (row_places * f + 1) s)
  listed_at =
      row_list (row_at s f) (r.firsts f h) ∙
      row_tail s f (repairs_in (row_at s f)) (repairs_low (row_at s f)) (omega (arith, r.places))

  pub listed_length : length (found_list (verdict_at s f)) ≡ repairs_in (row_at s f)
  listed_length =
      ap length listed_at ∙
      length-take-le (repairs_in (row_at s f)) (drop (row_places * f + 1) s)
      (omega (arith, repairs_low (row_at s f), length-drop (row_places * f + 1) s, r.places))

-- ---- the sum, row by row

-- The rows below f are summed.
pub record Summed (s : List ℕ) (n : ℕ) (sum : Sum) (f : ℕ) : Type 0 where
  pub low : f ≤ n
  pub same : sum ≡ sum_of s f
  pub bound : sum.total ≤ max_row * f

module _ (s : List ℕ) (n : ℕ) where
  pub summed_none : Summed s n (record { hopeless = false; over = false; total = 0 }) 0
  unfolding sum_of
  summed_none = record {
    low = omega arith;
    same = λ j. record {
      hopeless = sym (some_below_first (λ g. is_hopeless (verdict_at s g))) j;
      over = sym (some_below_first (λ g. is_over (verdict_at s g))) j;
      total = sym (ap length (gather_zero (λ g. found_list (verdict_at s g)))) j;
    };
    bound = omega arith;
  }

  -- The list of row f comes after those of the rows below.
  joined_length : n ≤ max_facts → Readable s n → (f : ℕ) → f < n
      → length (join_lists (verdict_at s) (f + 1)) ≡ length (join_lists (verdict_at s) f) + repairs_in (row_at s f)
  joined_length low r f h =
      ap length (gather_step (λ g. found_list (verdict_at s g)) f) ∙ length-append (join_lists (verdict_at s) f) (found_list (verdict_at s f)) ∙
      ap (λ (k : ℕ). length (join_lists (verdict_at s) f) + k) (listed_length s n low r f h)

  sum_next : n ≤ max_facts → Readable s n → (f : ℕ) → f < n → with_first (sum_of s f) (get_or (row_at s f) 0 0) ≡ sum_of s (f + 1)
  unfolding sum_of repairs_in
  sum_next low r f h = λ j. record {
    hopeless = (ap (λ (b : Bool). some_below (λ g. is_hopeless (verdict_at s g)) f || b) (sym (row_hopeless_lem (row_at s f))) ∙
        sym (some_below_next (λ g. is_hopeless (verdict_at s g)) f)) j;
    over = (ap (λ (b : Bool). some_below (λ g. is_over (verdict_at s g)) f || b) (sym (row_over_lem (row_at s f))) ∙
        sym (some_below_next (λ g. is_over (verdict_at s g)) f)) j;
    total = sym (joined_length low r f h) j;
  }

  total_next : (sum : Sum) (first : ℕ) → (with_first sum first).total ≤ sum.total + max_row
  total_next sum first =
      by_order max_row first (λ h. rw (lt-leb first max_row h) (omega arith)) (λ h. rw (le-leb first max_row h) (omega arith))

  pub summed_more : n ≤ max_facts → Readable s n → (sum next : Sum) (f first : ℕ) → f < n → first ≡ get_or (row_at s f) 0 0
      → next ≡ with_first sum first → Summed s n sum f → Summed s n next (f + 1)
  summed_more low r sum next f first h e d t = record {
    low = omega arith;
    same = d ∙ (λ j. with_first (t.same j) (e j)) ∙ sum_next low r f h;
    bound = omega (arith, ap (λ (x : Sum). x.total) d, total_next sum first, t.bound);
  }

  pub summed_end : (sum : Sum) (f : ℕ) → n ≤ f → Summed s n sum f → sum ≡ sum_of s n
  summed_end sum f h t =
      let e : f ≡ n = omega (arith, t.low) in
      t.same ∙ ap (sum_of s) e

-- ---- the lists, one after another into the room

-- Copying behind what stands there already.
append_pasted : (l x before : List ℕ) (n : ℕ) → n ≤ length x
    → pasted (l ++ drop (length l) before) (length l) x n ≡ (l ++ take n x) ++ drop (length (l ++ take n x)) before
unfolding pasted
append_pasted l x before n h =
    let e : length (l ++ take n x) ≡ length l + n =
    length-append l (take n x) ∙ ap (λ (k : ℕ). length l + k) (length-take-le n x h) in
    let p = drop-append-add l (drop (length l) before) n ∙ drop-drop n (length l) before in
    (λ j. (take-append_seam l (drop (length l) before) j ++ take n x) ++ p j) ∙
    ap (λ (k : ℕ). (l ++ take n x) ++ drop k before) (sym e)

-- The lists of the rows below f stand in the room from the first place on, and nothing beside.
pub record Listed (s : List ℕ) (n : ℕ) (before after : List ℕ) (at f : ℕ) : Type 0 where
  pub low : f ≤ n
  pub place : at ≡ length (join_lists (verdict_at s) f)
  pub places : length after ≡ length before
  pub room : after ≡ join_lists (verdict_at s) f ++ drop (length (join_lists (verdict_at s) f)) before

module _ (s : List ℕ) (n : ℕ) (before : List ℕ) where
  pub listed_none : Listed s n before before 0 0
  listed_none = record {
    low = omega arith;
    place = sym (ap length (gather_zero (λ g. found_list (verdict_at s g))));
    places = refl;
    room = sym (ap (λ (l : List ℕ). l ++ drop (length l) before) (gather_zero (λ g. found_list (verdict_at s g))));
  }

  module _ (low : n ≤ max_facts) (r : Readable s n) (fits : length (join_lists (verdict_at s) n) ≤ length before) where
    -- The next list fits.
    pub listed_fits : (after : List ℕ) (at f : ℕ) → f < n → Listed s n before after at f → at + repairs_in (row_at s f) ≤ length after
    listed_fits after at f h t =
        omega (arith, t.place, t.places, joined_length s n low r f h, gather_part (λ g. found_list (verdict_at s g)) (f + 1) n (omega arith))

    pub listed_more : (after u : List ℕ) (at f count : ℕ) → f < n → count ≡ repairs_in (row_at s f)
        → u ≡ pasted after at (drop (row_places * f + 1) s) count → Listed s n before after at f → Listed s n before u (at + count) (f + 1)
    listed_more after u at f count h d e t =
        let x : List ℕ = drop (row_places * f + 1) s in
        let l : List ℕ = join_lists (verdict_at s) f in
        let enough : count ≤ length x = omega (arith, d, repairs_low (row_at s f), length-drop (row_places * f + 1) s, r.places) in
        let next : l ++ take count x ≡ join_lists (verdict_at s) (f + 1) =
        ap (λ (k : ℕ). l ++ take k x) d ∙ ap (λ (y : List ℕ). l ++ y) (sym (listed_at s n low r f h)) ∙ sym (gather_step (λ g. found_list (verdict_at s g)) f) in
        record {
          low = omega arith;
          place = (λ j. t.place j + d j) ∙ sym (joined_length s n low r f h);
          places = ap length e ∙ pasted_length after at x count (omega (arith, d, listed_fits after at f h t)) enough ∙ t.places;
          room = e ∙ (λ j. pasted (t.room j) (t.place j) x count) ∙ append_pasted l x before count enough ∙
              ap (λ (y : List ℕ). y ++ drop (length y) before) next;
        }

  pub listed_end : (after : List ℕ) (at f : ℕ) → n ≤ f → Listed s n before after at f
      → after ≡ join_lists (verdict_at s) n ++ drop (length (join_lists (verdict_at s) n)) before
  listed_end after at f h t =
      let e : f ≡ n = omega (arith, t.low) in
      (subst (λ (g : ℕ). Listed s n before after at g) e t).room

-- ---- some test passes, and the first that does

pub passes_some : (p : ℕ → Bool) (n i : ℕ) → i < n → p i ≡ true → some_below p n ≡ true
passes_some p n i h e = pick (some_below p n) refl
  where
    pick : (b : Bool) → some_below p n ≡ b → b ≡ true
    pick true q = refl
    pick false q = absurd (true≢false (sym e ∙ none_passes p n q i h))

-- the first that passes
first_some : (p : ℕ → Bool) (n : ℕ) → some_below p n ≡ ltb (first_where p n) n
first_some p n =
    same_flag (some_below p n) (ltb (first_where p n) n)
    (λ h.
    let q = some_passes p n h in
    lt-ltb (first_where p n) n
    (by_order (first_where p n) n (λ l. l) (λ l. absurd (true≢false (sym q.2 ∙ (first_where_at p n).before q.0 (omega (arith, q.1)))))))
    (λ h.
    let l = ltb-true (first_where p n) n h in
    passes_some p n (first_where p n) l ((first_where_at p n).holds l))

-- ---- what the numbers tell

-- What the verdicts of the facts below n come to: one is hopeless, one is beyond a row, and the sum of the lengths.
pub record ComeTo (v : ℕ → Verdict) (n : ℕ) (a b : Bool) (m : ℕ) : Type 0 where
  pub hopeless : a ≡ some_below (λ f. is_hopeless (v f)) n
  pub over : b ≡ some_below (λ f. is_over (v f)) n
  pub total : m ≡ length (join_lists v n)

-- The answer, by the three tests that it depends on.
abbrev by_tests : ℕ → Bool → Bool → Bool → Reply
by_tests m x y z =
    cond {A = Reply} x (refusal no_list_works)
    (cond {A = Reply} y (refusal over_the_limit)
    (cond {A = Reply} z (refusal room_too_short) (record { number = accepted; place = 0; length = m })))

-- An accepted answer is the sum, within the limit and the room; a refusal has no length.
pub reply_given : (a b : Bool) (m limit places : ℕ) (r : Reply) → r ≡ reply_for a b m limit places
    → ((r.number ≡ accepted → ⊥) × (r.length ≡ 0)) ⊎ ((r.length ≡ m) × (m ≤ limit) × (m ≤ places))
unfolding reply_for
reply_given a b m limit places r e = pick a (b || ltb limit m) (ltb places m) refl refl e
  where
    pick : (x y z : Bool) → (b || ltb limit m) ≡ y → ltb places m ≡ z
        → r ≡ by_tests m x y z → ((r.number ≡ accepted → ⊥) × (r.length ≡ 0)) ⊎ ((r.length ≡ m) × (m ≤ limit) × (m ≤ places))
    pick true y z p q k = inl (λ n. omega (arith, ap (λ (u : Reply). u.number) k), ap (λ (u : Reply). u.length) k)
    pick false true z p q k = inl (λ n. omega (arith, ap (λ (u : Reply). u.number) k), ap (λ (u : Reply). u.length) k)
    pick false false true p q k = inl (λ n. omega (arith, ap (λ (u : Reply). u.number) k), ap (λ (u : Reply). u.length) k)
    pick false false false p q k =
        inr (ap (λ (u : Reply). u.length) k, ltb-false limit m (or_neither b (ltb limit m) p).1, ltb-false places m q)

-- So the length that is answered is the sum.
pub total_given : (a b : Bool) (m limit places n : ℕ) → reply_of (Ok n) ≡ reply_for a b m limit places → (n ≡ m) × (m ≤ limit) × (m ≤ places)
total_given a b m limit places n e = pick (reply_given a b m limit places (reply_of (Ok n)) e)
  where
    pick : ((accepted ≡ accepted → ⊥) × (n ≡ 0)) ⊎ ((n ≡ m) × (m ≤ limit) × (m ≤ places)) → (n ≡ m) × (m ≤ limit) × (m ≤ places)
    pick (inl x) = absurd (x.0 refl)
    pick (inr x) = x

module _ (v : ℕ → Verdict) (n limit : ℕ) (room : List ℕ) (a b : Bool) (m : ℕ) (c : ComeTo v n a b m) where
  -- What the verdicts join to, by the numbers.
  abbrev by_numbers : Bool → Bool → ℕ → Verdict
  by_numbers x y k = cond {A = Verdict} x hopeless (cond {A = Verdict} (y || ltb limit k) over (found (join_lists v n)))

  numbers_say : join_verdicts v n limit ≡ by_numbers a b m
  unfolding join_rows read_against
  numbers_say =
      pick (some_below (λ f. is_hopeless (v f)) n) (ltb (first_where (λ f. is_over (v f)) n) n) ∙
      (λ j. by_numbers (sym c.hopeless j) ((sym (first_some (λ f. is_over (v f)) n) ∙ sym c.over) j) (sym c.total j))
    where
      pick : (x y : Bool)
          → read_against limit
          (cond {A = Joined} x no_list (cond {A = Joined} y (beyond (first_where (λ f. is_over (v f)) n)) (in_order (join_lists v n)))) ≡
          by_numbers x y (length (join_lists v n))
      pick true y = refl
      pick false true = refl
      pick false false = refl

  -- The answer, and as many of the joined list's numbers as it says: the verdict told.
  pub numbers_told : (r : Reply) (after : List ℕ) → r ≡ reply_for a b m limit (length room)
      → after ≡ take r.length (join_lists v n) ++ drop r.length room
      → ◌≡◌ {A = Outcome} (record { reply = r; room = after }) (told (join_verdicts v n limit) room)
  unfolding told reply_for
  numbers_told r after e w =
      (λ j. record { reply = r; room = w j }) ∙ (λ j. record { reply = e j; room = take (e j).length (join_lists v n) ++ drop (e j).length room }) ∙
      pick a (b || ltb limit m) (ltb (length room) m) refl ∙ ap (λ (u : Verdict). told u room) (sym numbers_say)
    where
      pick : (x y z : Bool) → ltb (length room) m ≡ z
          → ◌≡◌ {A = Outcome}
          (record { reply = by_tests m x y z; room = take (by_tests m x y z).length (join_lists v n) ++ drop (by_tests m x y z).length room })
          (told (cond {A = Verdict} x hopeless (cond {A = Verdict} y over (found (join_lists v n)))) room)
      pick true y z q = refl
      pick false true z q = refl
      pick false false true q = sym (given_short (join_lists v n) room (omega (arith, c.total, ltb-true (length room) m q)))
      pick false false false q =
          given_whole (join_lists v n) room (take m (join_lists v n) ++ drop m room) m (omega (arith, c.total, ltb-false (length room) m q)) c.total
          ((λ j. take (c.total j) (join_lists v n) ++ drop (c.total j) room) ∙
          ap (λ (l : List ℕ). l ++ drop (length (join_lists v n)) room) (take-length (join_lists v n)))

-- ---- the same of a table's rows

module _ (s : List ℕ) (n limit : ℕ) (room : List ℕ) (y : Sum) (e : y ≡ sum_of s n) where
  comes : ComeTo (verdict_at s) n y.hopeless y.over y.total
  unfolding sum_of
  comes = record {
    hopeless = ap (λ (x : Sum). x.hopeless) e;
    over = ap (λ (x : Sum). x.over) e;
    total = ap (λ (x : Sum). x.total) e;
  }

  told_with : (r : Reply) → r ≡ reply_for y.hopeless y.over y.total limit (length room) → (after : List ℕ)
      → after ≡ take r.length (join_lists (verdict_at s) n) ++ drop r.length room
      → ◌≡◌ {A = Outcome} (record { reply = r; room = after }) (told (join_verdicts (verdict_at s) n limit) room)
  told_with r d after = numbers_told (verdict_at s) n limit room y.hopeless y.over y.total comes r after d

  -- Nothing is to be written, and nothing was.
  pub refusal_told : (f : Refusal) → reply_of (Err f) ≡ reply_for y.hopeless y.over y.total limit (length room)
      → ◌≡◌ {A = Outcome} (record { reply = reply_of (Err f); room = room }) (told (join_verdicts (verdict_at s) n limit) room)
  refusal_told f d = told_with (reply_of (Err f)) d room refl

  module _ (m : ℕ) (d : reply_of (Ok m) ≡ reply_for y.hopeless y.over y.total limit (length room)) where
    fits : (m ≡ y.total) × (y.total ≤ limit) × (y.total ≤ length room)
    fits = total_given y.hopeless y.over y.total limit (length room) m d

    pub sum_fits : length (join_lists (verdict_at s) n) ≤ length room
    sum_fits = omega (arith, comes.total, fits.2)

    pub total_told : (after : List ℕ) → after ≡ join_lists (verdict_at s) n ++ drop (length (join_lists (verdict_at s) n)) room
        → ◌≡◌ {A = Outcome} (record { reply = reply_of (Ok m); room = after }) (told (join_verdicts (verdict_at s) n limit) room)
    total_told after w =
        let l : List ℕ = join_lists (verdict_at s) n in
        let k : length l ≡ m = sym (fits.0 ∙ comes.total) in
        told_with (reply_of (Ok m)) d after (w ∙ ap (λ (x : List ℕ). x ++ drop (length l) room) (sym (take-length l)) ∙ ap (λ (i : ℕ). take i l ++ drop i room) k)
