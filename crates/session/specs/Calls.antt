-- What opening, editing and listing a session give, for every input; and demand 3's words.
use Rattle.std.specs.Prelude.{true, false, cond, not, List, [], ◌∷◌, ◌≡◌, ℕ, eqb, length}
use Rattle.change.specs.Editing.{cell_fact, cell_inside, leaves_lock, accepts, EditedTo}
use Rattle.change.specs.declared.Edit.{Edit}
use Rattle.search.specs.Rows.{verdict_in}
use Rattle.solve.specs.Solving.{told}
use Rattle.table.specs.Outcomes.{Outcome, refused}
use Rattle.rows.specs.Tables.{row_at, Stored, Rewritten}
use Rattle.table.specs.Join.{join_verdicts}
use Rattle.table.specs.Refusals.{Refusal, first_of, refuse, accepted, not_well_formed, not_a_session, not_there, lock_without_need}
use Rattle.table.specs.Sizes.{session_places}
use Rattle.table.specs.Tasks.{formed}
use Rattle.table.specs.declared.Task.{Task}
use Rattle.table.specs.declared.Reply.{Reply}
use Rattle.table.specs.declared.TaskReply.{TaskReply}
use Rattle.session.specs.Sessions.{in_form}

-- The refusals of opening, in order: "Opening gives 12 or 13 only."
unfoldable pub open_refusal : Task → List ℕ → Refusal
open_refusal t s = first_of (refuse (not (formed t)) not_well_formed ∷ refuse (not (eqb (length s) session_places)) not_a_session ∷ [])

-- "Opening fills all rows"; a refusal writes nothing.
pub record Opens (t : Task) (s : List ℕ) (r : Reply) (after : List ℕ) : Type 0 where
  pub number : r.number ≡ (open_refusal t s).number
  pub place : r.place ≡ (open_refusal t s).place
  pub refused : (r.number ≡ accepted → ⊥) → (r.length ≡ 0) × (after ≡ s)
  pub opened : r.number ≡ accepted → (r.length ≡ session_places) × Stored t after

-- The refusals of an edit, in order; 18 is "at 0 after 14" (02, request 6).
unfoldable pub edit_refusal : Task → List ℕ → Edit → Refusal
edit_refusal t s e =
    first_of
    (refuse (not (formed t)) not_well_formed ∷ refuse (not (eqb (length s) session_places)) not_a_session ∷
    refuse (not (cell_inside t e.cell)) not_there ∷ refuse (leaves_lock t e) lock_without_need ∷ [])

-- "It gives the edited task and writes the fact's row afresh; other rows are kept as found, right or not." A refused
-- edit returns the task it was given and writes nothing.
pub record Edits (t : Task) (s : List ℕ) (e : Edit) (r : TaskReply) (after : List ℕ) : Type 0 where
  pub number : r.number ≡ (edit_refusal t s e).number
  pub place : r.place ≡ (edit_refusal t s e).place
  pub refused : (r.number ≡ accepted → ⊥) → (r.task ≡ t) × (after ≡ s)
  pub accepted : r.number ≡ accepted → EditedTo t e r.task × Rewritten r.task (cell_fact e.cell) s after

-- "Listing joins the rows in order of fact: refusal 9 if a row says 8; else 10 if a row says 7 or the lengths sum to more
-- than L; else the joined list." Before that 12, and 13 for a table that is not in form.
unfoldable pub listed : Task → List ℕ → List ℕ → Outcome
listed t s room =
    cond {A = Outcome} (not (formed t)) (refused not_well_formed room)
    (cond {A = Outcome} (not (in_form t s)) (refused not_a_session room)
    (told (join_verdicts (λ f. verdict_in (row_at s f)) t.table.facts t.table.limit) room))

-- A story of edits: each step is any result that the edit's contract allows.
pub data Story : Task → List ℕ → List Edit → Task → List ℕ → Type 0 where
  told_all : {t : Task} {s : List ℕ} → Story t s [] t s
  then : {t : Task} {s : List ℕ} {e : Edit} {r : TaskReply} {after : List ℕ} {es : List Edit} {u : Task} {end : List ℕ}
      → Edits t s e r after → Story r.task after es u end → Story t s (e ∷ es) u end

-- "the table as the accepted edits make it one after another": u is t with the accepted edits made in turn, of each exactly its cell, and
-- fs the facts that these name, in order. An edit is judged on the task as it then stands: a lock may go, and after it the need.
pub data Made : Task → List Edit → List ℕ → Task → Type 0 where
  made_none : {t : Task} → Made t [] [] t
  made_set : {t q u : Task} {e : Edit} {es : List Edit} {fs : List ℕ}
      → accepts t e ≡ true → EditedTo t e q → Made q es fs u → Made t (e ∷ es) (cell_fact e.cell ∷ fs) u
  made_refused : {t u : Task} {e : Edit} {es : List Edit} {fs : List ℕ} → accepts t e ≡ false → Made t es fs u → Made t (e ∷ es) fs u
