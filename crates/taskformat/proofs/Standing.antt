-- What holds of what has been seen after the first record: a well-formed task whose last record is the last record read.
-- Every good record keeps it and comes later in rank. Assumes nothing.
use mathlib.Core.Bool.{Bool, true, false}
use mathlib.Core.List.{List, []}
use mathlib.Core.Logic.{◌⊎◌, inl, inr}
use mathlib.Core.Path.{◌≡◌, refl, sym, ap, ◌∙◌}
use Prim.Native.Nat.{ℕ, ◌+◌, ◌<◌, ◌≤◌}
use native.Mathlib.Omega.{arith}
use lib.Dec.{eqb}
use borrow.Author.Tests.{eqb-true, eqb-false, eq-eqb, ne_eqb}
use Rattle.table.specs.Tasks.{count_of, WellFormed}
use Rattle.table.specs.declared.Task.{Task}
use Rattle.taskformat.specs.Format.{sizes_kind, run_kind, start_kind, lock_kind, step_kind, end_kind, position_of}
use Rattle.taskformat.specs.Reading.{Seen, last_run, kind_at, byte_at, body_at, disordered, runs_after, seen_after}
use Rattle.taskformat.proofs.Ordered.{ordered_parts}
use Rattle.taskformat.proofs.Ranks.{slots, rank, piece_at}
use Rattle.taskformat.proofs.PositionLaws.{order, position_known, one_kind}
use Rattle.taskformat.proofs.Families.{FactKind, CellKind, family_between}
use Rattle.taskformat.proofs.Fitting.{OnNeed, on_need, Fitted, fitted, fitted_known, in_last_run, before_steps, run_of, slot_of, record_rank}
use Rattle.taskformat.proofs.RunsAfter.{last_after, counts_after}
use Rattle.taskformat.proofs.OneMore.{task_after, formed_after}
use Rattle.taskformat.proofs.RecordsAfter.{piece_after}
use Rattle.taskformat.proofs.Clear.{Clear}
use Rattle.taskformat.proofs.GoodFits.{fits}

-- The rank of the last record read, which is at this place within its kind.
abbrev pub last_rank : Seen → ℕ → ℕ
last_rank seen slot = rank (last_run seen.task.runs) seen.kind slot

-- The last record read is at this place within its kind, and the task has no record above it.
pub record Standing (seen : Seen) (slot : ℕ) : Type 0 where
  pub formed : WellFormed seen.task
  pub low : position_of sizes_kind ≤ position_of seen.kind
  pub high : position_of seen.kind < position_of end_kind
  pub small : slot < slots
  pub ordered : position_of start_kind ≤ position_of seen.kind → position_of seen.kind ≤ position_of lock_kind → slot ≡ seen.body
  pub steps : seen.kind ≡ step_kind → slot + 1 ≡ count_of seen.task.runs (last_run seen.task.runs)
  pub above : (r : ℕ) → last_rank seen slot < r → piece_at seen.task r ≡ []

-- ---- it comes later than the last record

module _ (seen : Seen) (slot k x y z : ℕ) (stands : Standing seen slot) (tells : Fitted seen.task k x y) where
  abbrev next : ℕ
  next = record_rank seen.task k x y

  -- b is the body as one number; for kinds 2 to 6 and 10 it is the place within the kind.
  pub later : (b : ℕ) → (position_of start_kind ≤ position_of k → position_of k ≤ position_of lock_kind → slot_of seen.task k x y ≡ b)
      → disordered seen k b ≡ false
      → last_rank seen slot < next
  later b same e = at (eqb k run_kind) (eqb k seen.kind) (eqb k step_kind) refl refl refl
    where
      at : (a c d : Bool) → eqb k run_kind ≡ a → eqb k seen.kind ≡ c → eqb k step_kind ≡ d → last_rank seen slot < next
      at true c d o p q =
          let opened = tells.opened (ap position_of (eqb-true k run_kind o)) in
          let some = stands.formed.many_low in omega (arith, order)
      at false false d o p q =
          let up = (ordered_parts seen k b e).up (eqb-false k run_kind o) in
          let run = in_last_run seen.task k x y tells (eqb-false k run_kind o) in
          let known = position_known seen.kind (omega (arith, order)) (omega arith) in
          let other : position_of k ≡ position_of seen.kind → ⊥ =
          λ same. eqb-false k seen.kind p (one_kind k seen.kind (fitted_known tells) known same) in omega arith
      at false true true o p q =
          let is = eqb-true k step_kind q in
          let run = in_last_run seen.task k x y tells (eqb-false k run_kind o) in
          let kind = eqb-true k seen.kind p in
          let position = ap position_of kind in
          let count = stands.steps (sym kind ∙ is) in
          let here = tells.step_slot (ap position_of is) in omega arith
      at false true false o p q =
          let kind = eqb-true k seen.kind p in
          let run = in_last_run seen.task k x y tells (eqb-false k run_kind o) in
          let position = ap position_of kind in
          let range = before_steps seen.task k x y tells (eqb-false k run_kind o) (eqb-false k step_kind q) in
          let low = range.0 in
          let high = range.1 in
          let more = (ordered_parts seen k b e).ascends kind low high in
          let last = stands.ordered (omega arith) (omega arith) in
          let here = same low high in omega arith

  above_after : last_rank seen slot < next → (r : ℕ) → next < r → piece_at (task_after seen.task k x y z) r ≡ []
  above_after after r l =
      piece_after seen.task k x y z stands.formed tells r ∙ rw (ne_eqb r next (omega arith)) (stands.above r (omega arith))

  -- The steps of the record's run, where it is a step.
  steps_after : k ≡ step_kind → slot_of seen.task k x y + 1 ≡ count_of (runs_after seen.task.runs k x) (run_of seen.task k)
  steps_after is =
      let position = ap position_of is in
      let run : run_of seen.task k ≡ last = tells.same_run (omega (arith, order)) in
      let slot = tells.step_slot position in
      rw (counts_after seen.task k x y stands.formed tells (run_of seen.task k), eq-eqb k step_kind is, run, eq-eqb last last refl) (omega arith)
    where
      last : ℕ
      last = last_run seen.task.runs

  pub stands_after : (b : ℕ) → (position_of start_kind ≤ position_of k → position_of k ≤ position_of lock_kind → slot_of seen.task k x y ≡ b)
      → last_rank seen slot < next → OnNeed seen.task k x y
      → Standing (record { task = task_after seen.task k x y z; kind = k; body = b }) (slot_of seen.task k x y)
  unfolding task_after
  stands_after b same after need =
      let last = last_after seen.task k x y stands.formed tells in
      record {
        formed = formed_after seen.task k x y z stands.formed tells need;
        low = omega arith;
        high = tells.last;
        small = tells.small;
        ordered = same;
        steps = λ is. rw last (steps_after is);
        above = rw last (above_after after);
      }

-- ---- the body as one number

pub body_slot : (s : List ℕ) (at : ℕ) (t : Task) → Fitted t (kind_at s at) (byte_at s at 0) (byte_at s at 1)
    → position_of start_kind ≤ position_of (kind_at s at) → position_of (kind_at s at) ≤ position_of lock_kind
    → slot_of t (kind_at s at) (byte_at s at 0) (byte_at s at 1) ≡ body_at s at
unfolding body_at
body_slot s at t tells l h = by (family_between (kind_at s at) l h)
  where
    by : FactKind (kind_at s at) ⊎ CellKind (kind_at s at) → slot_of t (kind_at s at) (byte_at s at 0) (byte_at s at 1) ≡ body_at s at
    by (inl kind) = rw kind.not_cell (tells.fact_slot kind.low kind.high)
    by (inr kind) = rw kind.cell (tells.cell_slot kind.low kind.high)

-- ---- one record more

pub record Next (s : List ℕ) (at : ℕ) (seen : Seen) (slot next : ℕ) : Type 0 where
  pub tells : Fitted seen.task (kind_at s at) (byte_at s at 0) (byte_at s at 1)
  pub rank : last_rank (seen_after s at seen) next ≡ record_rank seen.task (kind_at s at) (byte_at s at 0) (byte_at s at 1)
  pub later : last_rank seen slot < record_rank seen.task (kind_at s at) (byte_at s at 0) (byte_at s at 1)
  pub stands : Standing (seen_after s at seen) next

pub good_next : (s : List ℕ) (at : ℕ) (seen : Seen) (slot : ℕ) → Standing seen slot → Clear s at seen → (kind_at s at ≡ end_kind → ⊥)
    → Next s at seen slot (slot_of seen.task (kind_at s at) (byte_at s at 0) (byte_at s at 1))
unfolding seen_after task_after
good_next s at seen slot stands clear more =
    let k = kind_at s at in
    let x = byte_at s at 0 in
    let y = byte_at s at 1 in
    let first = (ordered_parts seen k (body_at s at) clear.ordered).first in
    let fit = fits seen k x y stands.low clear.known clear.placed clear.inside first clear.runs clear.locked clear.room more in
    let tells = fitted seen.task k x y stands.formed fit in
    let same = body_slot s at seen.task tells in
    let after = later seen slot k x y (byte_at s at 2) stands tells (body_at s at) same clear.ordered in
    record {
      tells = tells;
      rank = rw (last_after seen.task k x y stands.formed tells);
      later = after;
      stands = stands_after seen slot k x y (byte_at s at 2) stands tells (body_at s at) same after (on_need seen.task k x y fit);
    }
