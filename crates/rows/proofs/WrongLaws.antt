-- Laws of the passes that say which facts are wrong: before step i the state's mask is the run's state there, and a fact that was absent where a
-- step before i needs it is noted; and so on over the runs. Assumes nothing.
use mathlib.Core.Bool.{Bool, true, false, not, ◌&&◌, ◌||◌}
use mathlib.Core.List.{List, []}
use mathlib.Core.Path.{◌≡◌, refl, sym, ap, ◌∙◌, subst}
use Prim.Native.Nat.{ℕ, ◌+◌, ◌<◌, ◌≤◌}
use native.Mathlib.Omega.{arith}
use lib.ListN.{get_or}
use borrow.Author.Tests.{not-false}
use Rattle.facts.specs.Sets.{has, only, joined, removed, lowest}
use Rattle.facts.proofs.Laws.{has_empty, has_joined, has_removed}
use Rattle.search.specs.Rows.{row_of, RightRow}
use Rattle.table.specs.Answer.{found}
use Rattle.table.specs.Counting.{every_below}
use Rattle.table.specs.Deciding.{is_right, is_all_right}
use Rattle.table.specs.Strips.{state_at}
use Rattle.table.specs.Tasks.{cells_of, start_of, goal_of, count_of, step_of, course_of, courses_of, WellFormed}
use Rattle.table.specs.declared.Task.{Task}
use Rattle.table.proofs.CountingLaws.{every_below_none, every_below_more, every_below_next}
use Rattle.table.proofs.DecidingLaws.{is_all_right_lem}
use Rattle.table.proofs.JoinLaws.{keeps_right}
use Rattle.table.proofs.RunLaws.{state_at_first, state_at_next}
use Rattle.rows.specs.Tables.{empty_row, RowsPut, EmptyRows, Rewritten}
use Rattle.rows.specs.Wrong.{WrongIn, WrongFacts}
use Rattle.rows.proofs.LeftLaws.{wrong_low, without_in, without_out}
use Rattle.rows.proofs.TableLaws.{rows_more}

-- absent where it is needed
missed : (before needed present : Bool) → (not before || (needed && not present)) ≡ not (before && (not needed || present))
missed true true p = refl
missed true false p = refl
missed false n p = refl

module _ (t : Task) (run : ℕ) where
  -- Fact f is there for step i of the run, if the step needs it.
  abbrev there_at : ℕ → ℕ → Bool
  there_at f i =
      not ((cells_of t.table).needs ((course_of t.runs run).step i) f) || state_at (cells_of t.table) (course_of t.runs run) i f

  -- The pass is before step i, with the masks m of the state and w of the facts noted.
  pub record Passed (m w i : ℕ) : Type 0 where
    pub low : i ≤ count_of t.runs run
    pub state : (f : ℕ) → has m f ≡ state_at (cells_of t.table) (course_of t.runs run) i f
    pub wrong : (f : ℕ) → has w f ≡ not (every_below (there_at f) i)

  pub passed_none : Passed (start_of t.runs run) 0 0
  unfolding course_of
  passed_none = record {
    low = omega arith;
    state = λ f. sym (state_at_first (cells_of t.table) (course_of t.runs run) f);
    wrong = λ f. has_empty f ∙ ap not (every_below_none (there_at f));
  }

  -- What a mask of needs, or of goals, adds to the wrong facts.
  noted : (needs state wrong absent next : ℕ) → absent ≡ removed needs state → next ≡ joined wrong absent → (f : ℕ)
      → has next f ≡ (has wrong f || (has needs f && not (has state f)))
  noted needs state wrong absent next a n f =
      ap (λ (m : ℕ). has m f) n ∙ has_joined wrong absent f ∙
      ap (λ (b : Bool). has wrong f || b) (ap (λ (m : ℕ). has m f) a ∙ has_removed needs state f)

  pub passed_more : (state wrong i absent next held after : ℕ) → i < count_of t.runs run
      → absent ≡ removed (get_or t.table.needs (step_of t.runs run i) 0) state → next ≡ joined wrong absent
      → held ≡ removed state (get_or t.table.deletes (step_of t.runs run i) 0)
      → after ≡ joined held (get_or t.table.adds (step_of t.runs run i) 0) → Passed state wrong i → Passed after next (i + 1)
  unfolding cells_of course_of
  passed_more state wrong i absent next held after h a n k e p =
      let act = step_of t.runs run i in
      let needs = get_or t.table.needs act 0 in
      let adds = get_or t.table.adds act 0 in
      let deletes = get_or t.table.deletes act 0 in
      record {
        low = omega arith;
        state = λ f.
            ap (λ (m : ℕ). has m f) e ∙ has_joined held adds f ∙
            ap (λ (b : Bool). b || has adds f) (ap (λ (m : ℕ). has m f) k ∙ has_removed state deletes f) ∙
            (λ j. p.state f j && not (has deletes f) || has adds f) ∙ sym (state_at_next (cells_of t.table) (course_of t.runs run) i f);
        wrong = λ f.
            noted needs state wrong absent next a n f ∙ (λ j. p.wrong f j || (has needs f && not (p.state f j))) ∙
            missed (every_below (there_at f) i) (has needs f) (state_at (cells_of t.table) (course_of t.runs run) i f) ∙
            ap not (sym (every_below_next (there_at f) i));
      }

  pub passed_end : (state wrong i absent next : ℕ) → count_of t.runs run ≤ i → absent ≡ removed (goal_of t.runs run) state
      → next ≡ joined wrong absent → Passed state wrong i → WrongIn t run next
  unfolding cells_of course_of is_right
  passed_end state wrong i absent next h a n p f =
      let last : i ≡ count_of t.runs run = omega (arith, p.low) in
      let q = subst (λ (j : ℕ). Passed state wrong j) last p in
      noted (goal_of t.runs run) state wrong absent next a n f ∙ (λ j. q.wrong f j || (has (goal_of t.runs run) f && not (q.state f j))) ∙
      missed (every_below (there_at f) (count_of t.runs run)) (has (goal_of t.runs run) f)
      (state_at (cells_of t.table) (course_of t.runs run) (count_of t.runs run) f)

module _ (t : Task) where
  -- The mask w has the facts that are wrong in some run below n.
  abbrev pub WrongBelow : ℕ → ℕ → Type 0
  WrongBelow n w = (f : ℕ) → has w f ≡ not (every_below (λ i. is_right (cells_of t.table) (course_of t.runs i) f) n)

  pub wrong_first : (here : ℕ) → WrongIn t 0 here → WrongBelow 1 here
  wrong_first here h f = h f ∙ ap not (every_below_more (λ i. is_right (cells_of t.table) (course_of t.runs i) f) 0 (every_below_none (λ i. is_right (cells_of t.table) (course_of t.runs i) f)) refl)

  pub wrong_more : (wrong here next n : ℕ) → next ≡ joined wrong here → WrongIn t n here → WrongBelow n wrong → WrongBelow (n + 1) next
  wrong_more wrong here next n e h w f =
      let right : ℕ → Bool = λ i. is_right (cells_of t.table) (course_of t.runs i) f in
      ap (λ (m : ℕ). has m f) e ∙ has_joined wrong here f ∙ (λ j. w f j || h f j) ∙ not_both (every_below right n) (right n) ∙
      ap not (sym (every_below_next right n))
    where
      not_both : (a b : Bool) → (not a || not b) ≡ not (a && b)
      not_both true b = refl
      not_both false b = refl

  pub wrong_all : (wrong : ℕ) → WrongBelow t.runs.many wrong → WrongFacts t wrong
  unfolding is_all_right
  wrong_all wrong w = w

  -- A fact that is right as it stands has the row without repairs.
  pub right_empty : (wrong : ℕ) → WrongFacts t wrong → (f : ℕ) → has wrong f ≡ false → RightRow t f empty_row
  unfolding row_of
  right_empty wrong e f h =
      let right =
      is_all_right_lem (cells_of t.table) (courses_of t) f (not-false (is_all_right (cells_of t.table) (courses_of t) f) (sym (e f) ∙ h)) in
      record { verdict = found []; within = (keeps_right (cells_of t.table) (courses_of t) f right, omega arith); shown = refl }

  -- ---- the rows of the wrong facts, one after another

  -- The facts in `left` are still to be searched; the rows of all others are right.
  pub record Searched (left : ℕ) (s u : List ℕ) : Type 0 where
    pub low : (f : ℕ) → has left f ≡ true → f < t.table.facts
    pub rows : RowsPut (λ f. has left f ≡ false) (RightRow t) s u

  -- Every row empty: those of the right facts are right.
  pub searched_none : WellFormed t → (wrong : ℕ) (s : List ℕ) → WrongFacts t wrong → EmptyRows s → Searched wrong s s
  searched_none well wrong s known e = record {
    low = wrong_low t well wrong known;
    rows = record {
      places = refl;
      rows = λ f h right. subst (RightRow t f) (sym (e f h)) (right_empty wrong known f right);
      rest = λ i h. refl;
    };
  }

-- One row more, that of the lowest fact that is left.
pub searched_more : (t : Task) → WellFormed t → (m : ℕ) → 0 < m → (s u : List ℕ) → Searched t m s u → (f : ℕ) → f ≡ lowest m → (next : ℕ)
    → next ≡ removed m (only f) → (after : List ℕ) → Rewritten t f u after → Searched t next s after
searched_more t well m some s u done f e next n after put = record {
  low = λ g h. done.low g (without_in t well m some done.low f e next n g h).0;
  rows = rows_more (RightRow t) s (λ g. has m g ≡ false) (λ g. has next g ≡ false) f u after (without_out t well m some done.low f e next n) done.rows put;
}
