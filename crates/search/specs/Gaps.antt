-- What looking along a run for a missing fact gives, and what looking back from it gives: document 01, "A conflict".
use Rattle.std.specs.Prelude.{Bool, true, false, List, ◌↔◌, ◌≡◌, ℕ, ◌+◌, ◌-◌, ◌<◌, ◌≤◌}
use Rattle.facts.specs.Sets.{has}
use Rattle.table.specs.Repairs.{drop_delete, add_effect, drop_need}
use Rattle.table.specs.Sizes.{per_fact}
use Rattle.table.specs.Strips.{Course, one, Right}
use Rattle.choices.specs.declared.Choice.{Choice}
use Rattle.search.specs.declared.Column.{Column}
use Rattle.search.specs.Columns.{KeepsIn}
use Rattle.search.specs.declared.narrow.Place.{Place}
use Rattle.choices.specs.Choices.{in_choice, code_of}
use Rattle.search.specs.Searching.{cells_with, Missing, Conflicts}

-- A place where the fact is missing, the place after the last step standing for the goal; or the one after that, and
-- then the candidate keeps the fact right.
pub data Gap (col : Column) (r : Course) (s : Choice) (j : ℕ) : Type 0 where
  missing_at : j ≤ r.count → Missing col r s j → Gap col r s j
  nowhere : j ≡ r.count + 1 → Right (cells_with col s) r col.fact → Gap col r s j

-- The place chosen so far stays, or gives way to place i, if the fact is missing there; a place past `count` is none, and
-- gives way.
pub data Noted (count : ℕ) (best : Place) (i : ℕ) (missing : Bool) (r : Place) : Type 0 where
  stays : r ≡ best → (missing ≡ true → best.at ≤ count) → Noted count best i missing r
  moves : missing ≡ true → r.at ≡ i → Noted count best i missing r

-- "Look back from j until the last step that deleted f is met, or the start. (A step deleted f if its action, with the
-- candidate applied, has f as a delete.)" The steps count from 1, and 0 is the start.
pub record LastDelete (col : Column) (step : ℕ → ℕ) (s : Choice) (j i : ℕ) : Type 0 where
  pub within : i ≤ j
  pub deleted : 0 < i → (cells_with col s).deletes (step (i - 1)) col.fact ≡ true
  pub since : (k : ℕ) → i ≤ k → k < j → (cells_with col s).deletes (step k) col.fact ≡ false

-- "one of: drop the need at j (not for a goal), drop that delete, add f at any step from the deleting one up to j-1": a repair
-- of these, by its code. Step i stands at place i - 1; where looking back met the start, the adds are from the first step on. "a conflict
-- leaves locked needs out" (02, request 6).
pub data Named (col : Column) (r : Course) (s : Choice) (j : ℕ) : ℕ → Type 0 where
  need_at : j < r.count → has col.locks (r.step j) ≡ false → Named col r s j (code_of drop_need (r.step j))
  that_delete : (p : ℕ) → LastDelete col r.step s j (p + 1) → Named col r s j (code_of drop_delete (r.step p))
  add_between : (i p : ℕ) → LastDelete col r.step s j i → i ≤ p + 1 → p < j → Named col r s j (code_of add_effect (r.step p))

-- q is the conflict of the candidate s at place j: its repairs are those named there, no more and no fewer, and "Every
-- working list that contains the present candidate has one of" them. So where it is empty, as locks can make it, no list helps.
pub record ConflictAt (col : Column) (r : Course) (s : Choice) (j : ℕ) (q : Choice) : Type 0 where
  pub named : (code : ℕ) → code < per_fact → (in_choice q code ≡ true) ↔ Named col r s j code
  pub conflicts : Conflicts col (one r) s q
  pub empty : ((code : ℕ) → code < per_fact → in_choice q code ≡ false) → (l : List ℕ) → KeepsIn col (one r) l → ⊥

-- m is the set of the actions of the steps at the places from `start` on and before `end`.
pub record ActionsOf (step : ℕ → ℕ) (start end : ℕ) (m : ℕ) : Type 0 where
  pub each : (i : ℕ) → start ≤ i → i < end → has m (step i) ≡ true
  pub only : (a : ℕ) → has m a ≡ true → (i : ℕ) × (start ≤ i) × (i < end) × (step i ≡ a)
