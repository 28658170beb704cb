-- Demand 3: "I could not test an edited table without solving all of it again." Whatever is edited after opening, listing says what a
-- fresh solve of the edited task would say, and the rows that no edit named are as opening wrote them. From the calls' contracts alone,
-- by induction over the edits. Assumes nothing.
use mathlib.Core.Bool.{Bool, true, false, false≢true}
use mathlib.Core.List.{List, [], ◌∷◌}
use mathlib.Core.Path.{◌≡◌, refl, sym, ap, ◌∙◌, subst}
use Prim.Native.Nat.{ℕ, ◌<◌}
use lib.Dec.{eqb}
use lib.ListN.{length}
use borrow.Author.Tests.{eqb-true, eqb-false}
use Rattle.change.proofs.EditLaws.{edited_well, keeps_elsewhere, keeps_elsewhere_back}
use Rattle.change.specs.Editing.{cell_fact, accepts, EditedTo}
use Rattle.change.specs.declared.Edit.{Edit}
use Rattle.search.specs.Rows.{RightRow}
use Rattle.solve.proofs.SolveLaws.{solves_told, solve_unique}
use Rattle.solve.specs.Solving.{Solves}
use Rattle.table.specs.Outcomes.{Outcome}
use Rattle.rows.specs.Tables.{row_at, Stored, Rewritten}
use Rattle.table.proofs.AnswerLaws.{within_same}
use Rattle.table.proofs.FlagLaws.{or_neither}
use Rattle.table.proofs.Formation.{well_formed}
use Rattle.table.specs.Order.{is_in}
use Rattle.table.specs.Refusals.{accepted}
use Rattle.table.specs.Sizes.{max_facts, max_row, session_places}
use Rattle.table.specs.Tasks.{KeepsFor, WellFormed}
use Rattle.table.specs.declared.Reply.{Reply}
use Rattle.table.specs.declared.Task.{Task}
use Rattle.session.proofs.CallLaws.{open_clear, edit_clear, edit_accepted}
use Rattle.session.proofs.FormLaws.{stored_in_form}
use Rattle.session.specs.Calls.{Opens, listed, Story, told_all, then, Made, made_none, made_set, made_refused}
use Rattle.table.specs.declared.TaskReply.{TaskReply}

-- ---- one edit keeps every row right

module _ (t : Task) (e : Edit) (q : Task) (d : EditedTo t e q) where
  -- The row of a fact that the edit does not name is right for the edited task too.
  row_elsewhere : (g : ℕ) → (g ≡ cell_fact e.cell → ⊥) → (row : List ℕ) → RightRow t g row → RightRow q g row
  row_elsewhere g other row r = record {
    verdict = r.verdict;
    within = within_same (KeepsFor t g) (KeepsFor q g) (keeps_elsewhere t e q d g other) (keeps_elsewhere_back t e q d g other) max_row
        r.verdict r.within;
    shown = r.shown;
  }

  stored_edited : (s after : List ℕ) → Stored t s → Rewritten q (cell_fact e.cell) s after → Stored q after
  stored_edited s after b r = record {
    places = r.places ∙ b.places;
    rows = λ g h. pick g h (eqb g (cell_fact e.cell)) refl;
  }
    where
      pick : (g : ℕ) → g < max_facts → (x : Bool) → eqb g (cell_fact e.cell) ≡ x → RightRow q g (row_at after g)
      pick g h true same =
          subst (λ (k : ℕ). RightRow q k (row_at after k)) (sym (eqb-true g (cell_fact e.cell) same)) r.row
      pick g h false apart =
          let other = eqb-false g (cell_fact e.cell) apart in
          subst (λ (row : List ℕ). RightRow q g row) (sym (r.others g h other)) (row_elsewhere g other (row_at s g) (b.rows g h))

-- ---- a story of edits

-- What a story comes to: the facts that the accepted edits name and the task that they make, every row right for it, and the row of every
-- other fact kept.
pub record Ends (t : Task) (s : List ℕ) (es : List Edit) (u : Task) (end : List ℕ) : Type 0 where
  pub named : List ℕ
  pub made : Made t es named u
  pub well : WellFormed u
  pub stored : Stored u end
  pub kept : (f : ℕ) → f < max_facts → is_in named f ≡ false → row_at end f ≡ row_at s f

module _ (t : Task) (s : List ℕ) (e : Edit) (es : List Edit) (r : TaskReply) (after : List ℕ) (u : Task) (end : List ℕ) where
  ends_accepted : accepts t e ≡ true → EditedTo t e r.task → Rewritten r.task (cell_fact e.cell) s after
      → Ends r.task after es u end → Ends t s (e ∷ es) u end
  unfolding is_in
  ends_accepted good d new rest = record {
    named = cell_fact e.cell ∷ rest.named;
    made = made_set good d rest.made;
    well = rest.well;
    stored = rest.stored;
    kept = λ f h n.
        let none = or_neither (eqb f (cell_fact e.cell)) (is_in rest.named f) n in
        rest.kept f h none.1 ∙ new.others f h (eqb-false f (cell_fact e.cell) none.0);
  }

  ends_refused : accepts t e ≡ false → r.task ≡ t → after ≡ s → Ends r.task after es u end → Ends t s (e ∷ es) u end
  ends_refused bad same kept rest = record {
    named = rest.named;
    made = made_refused bad (subst (λ (x : Task). Made x es rest.named u) same rest.made);
    well = rest.well;
    stored = rest.stored;
    kept = λ f h n. rest.kept f h n ∙ ap (λ (x : List ℕ). row_at x f) kept;
  }

pub story_ends : (t : Task) (s : List ℕ) (es : List Edit) (u : Task) (end : List ℕ) → WellFormed t → Stored t s → Story t s es u end → Ends t s es u end
story_ends t s [] u end w b told_all = record { named = []; made = made_none; well = w; stored = b; kept = λ f h n. refl }
story_ends t s (e ∷ es) u end w b (then {r = r} {after = after} a story) =
    pick (accepts t e) refl (story_ends r.task after es u end)
  where
    pick : (x : Bool) → accepts t e ≡ x
        → (WellFormed r.task → Stored r.task after → Story r.task after es u end → Ends r.task after es u end)
        → Ends t s (e ∷ es) u end
    pick true good rest =
        let clear = edit_clear t s e (well_formed t w) b.places good in
        let done = a.accepted (a.number ∙ ap (λ (x : _). x.number) clear) in
        ends_accepted t s e es r after u end good done.0 done.1
        (rest (edited_well t e r.task done.0 w good) (stored_edited t e r.task done.0 s after b done.1) story)
    pick false bad rest =
        let done = a.refused (λ k. false≢true (sym bad ∙ (edit_accepted t s e (sym a.number ∙ k)).2)) in
        ends_refused t s e es r after u end bad done.0 done.1
        (rest (subst WellFormed (sym done.0) w)
        (subst (λ (x : Task). Stored x after) (sym done.0) (subst (Stored t) (sym done.1) b)) story)

-- ---- listing

-- Listing a table of right rows is the solve.
pub listing_solves : (u : Task) (end room : List ℕ) → WellFormed u → Stored u end → Solves u room (listed u end room)
unfolding listed
listing_solves u end room w b =
    solves_told u room w end b.rows (listed u end room) (rw (well_formed u w, stored_in_form u w end b))

-- ---- demand 3

-- Opening is accepted for every well-formed task and every table of 448 numbers.
pub opening_accepts : (t : Task) (s after : List ℕ) (r : Reply) → WellFormed t → length s ≡ session_places → Opens t s r after → r.number ≡ accepted
opening_accepts t s after r w n o = o.number ∙ ap (λ (x : _). x.number) (open_clear t s (well_formed t w) n)

-- Listing at the end of a story, and a fresh solve of its task, into equal room, give the same.
pub ends_solved : {t u : Task} {s end : List ℕ} {es : List Edit} → Ends t s es u end → (room : List ℕ) (o p : Outcome) → o ≡ listed u end room
    → Solves u room p → o ≡ p
ends_solved {u = u} {end = end} done room o p e q =
    e ∙ solve_unique u room (listed u end room) p (listing_solves u end room done.well done.stored) q
