-- A record after the first that is not the end, with its numbers inside the task's sizes: its family, its run, its place within its kind,
-- its bytes. Assumes nothing.
use mathlib.Core.Bool.{true, cond}
use mathlib.Core.List.{List, [], ◌∷◌}
use mathlib.Core.Path.{◌≡◌, refl, sym, ap}
use Prim.Native.Nat.{ℕ, suc, ◌+◌, ◌*◌, ◌%◌, ◌<◌, ◌≤◌}
use native.Mathlib.Omega.{arith}
use lib.Dec.{eqb}
use lib.ListN.{length, get_or}
use Rattle.facts.specs.Sets.{has}
use Rattle.table.specs.Sizes.{max_runs, max_steps}
use Rattle.table.specs.Tasks.{count_of, WellFormed}
use Rattle.table.specs.declared.Task.{Task}
use Rattle.taskformat.specs.Format.{body_length, sizes_kind, run_kind, start_kind, goal_kind, need_kind, lock_kind, step_kind, end_kind, is_kind, is_cell_kind, position_of}
use Rattle.taskformat.specs.Reading.{byte_room, last_run}
use Rattle.taskformat.proofs.PositionLaws.{order, position_known, apart, one_kind}
use Rattle.taskformat.proofs.Ranks.{slots, rank, run_at_rank, kind_at_rank, rank_whole, Digits, digits}
use Rattle.taskformat.proofs.Families.{FactKind, CellKind, Family, of_none, of_sizes, of_run, of_fact, of_cell, of_step, family}

-- A lock is on a need.
abbrev pub OnNeed : Task → ℕ → ℕ → ℕ → Type 0
OnNeed t k x y = k ≡ lock_kind → has (get_or t.table.needs x 0) y ≡ true

-- A record after the first that is not the end, with its numbers inside the task's sizes. What is said of one run is said of the one that
-- was opened last; the cells are said with the first run.
pub data Fits (t : Task) (k x y : ℕ) : Type 0 where
  opens_run : k ≡ run_kind → t.runs.many < max_runs → Fits t k x y
  fact_fits : FactKind k → x < t.table.facts → Fits t k x y
  cell_fits : CellKind k → x < t.table.actions → y < t.table.facts → last_run t.runs ≡ 0 → OnNeed t k x y → Fits t k x y
  step_fits : k ≡ step_kind → x < t.table.actions → count_of t.runs (last_run t.runs) < max_steps → Fits t k x y

-- Its run, its place within its kind, its rank, and its bytes.
unfoldable pub run_of : Task → ℕ → ℕ
run_of t k = cond (eqb k run_kind) t.runs.many (last_run t.runs)

unfoldable pub slot_of : Task → ℕ → ℕ → ℕ → ℕ
slot_of t k x y =
    cond (is_cell_kind k) (byte_room * x + y) (cond (eqb k step_kind) (count_of t.runs (last_run t.runs)) (cond (eqb k run_kind) 0 x))

abbrev pub record_rank : Task → ℕ → ℕ → ℕ → ℕ
record_rank t k x y = rank (run_of t k) k (slot_of t k x y)

unfoldable pub record_bytes : ℕ → ℕ → ℕ → List ℕ
record_bytes k x y = k ∷ cond (eqb k run_kind) [] (x ∷ cond (is_cell_kind k) (y ∷ []) [])

-- What fitting says of the numbers, whatever the kind.
pub record Fitted (t : Task) (k x y : ℕ) : Type 0 where
  pub later : position_of sizes_kind < position_of k
  pub last : position_of k < position_of end_kind
  pub opens : position_of k ≡ position_of run_kind → t.runs.many < max_runs
  pub fact : position_of start_kind ≤ position_of k → position_of k ≤ position_of goal_kind → x < t.table.facts
  pub action : position_of need_kind ≤ position_of k → x < t.table.actions
  pub cell : position_of need_kind ≤ position_of k → position_of k ≤ position_of lock_kind → y < t.table.facts
  pub first : position_of need_kind ≤ position_of k → position_of k ≤ position_of lock_kind → last_run t.runs ≡ 0
  pub room : position_of k ≡ position_of step_kind → count_of t.runs (last_run t.runs) < max_steps
  pub opened : position_of k ≡ position_of run_kind → run_of t k ≡ t.runs.many
  pub same_run : (position_of k ≡ position_of run_kind → ⊥) → run_of t k ≡ last_run t.runs
  pub small : slot_of t k x y < slots
  pub run_slot : position_of k ≡ position_of run_kind → slot_of t k x y ≡ 0
  pub fact_slot : position_of start_kind ≤ position_of k → position_of k ≤ position_of goal_kind → slot_of t k x y ≡ x
  pub cell_slot : position_of need_kind ≤ position_of k → position_of k ≤ position_of lock_kind → slot_of t k x y ≡ byte_room * x + y
  pub step_slot : position_of k ≡ position_of step_kind → slot_of t k x y ≡ count_of t.runs (last_run t.runs)

pub fitted : (t : Task) (k x y : ℕ) → WellFormed t → Fits t k x y → Fitted t k x y
unfolding run_of slot_of is_cell_kind
fitted t k x y formed (opens_run is l) =
    let run : run_of t k ≡ t.runs.many = rw is in
    let slot : slot_of t k x y ≡ 0 = rw is in
    let place = ap position_of is in omega (arith, order)
fitted t k x y formed (fact_fits kind l) =
    let run : run_of t k ≡ last_run t.runs = rw kind.not_run in
    let slot : slot_of t k x y ≡ x = rw (kind.not_cell, kind.not_step, kind.not_run) in omega (arith, order)
fitted t k x y formed (cell_fits kind l m first need) =
    let run : run_of t k ≡ last_run t.runs = rw kind.not_run in
    let slot : slot_of t k x y ≡ byte_room * x + y = rw kind.cell in omega (arith, order)
fitted t k x y formed (step_fits is l m) =
    let run : run_of t k ≡ last_run t.runs = rw is in
    let slot : slot_of t k x y ≡ count_of t.runs (last_run t.runs) = rw is in
    let place = ap position_of is in omega (arith, order)

pub fitted_known : {t : Task} {k x y : ℕ} → Fitted t k x y → is_kind k ≡ true
fitted_known {k = k} f = position_known k (omega (arith, order)) (omega arith)

-- The record's rank has its run, its kind and its place; and a rank with that run, kind and place is it.
pub rank_there : {t : Task} {k x y : ℕ} → Fitted t k x y → (r : ℕ) → r ≡ record_rank t k x y → Digits r (run_of t k) k (slot_of t k x y)
rank_there {t} {k} {x} {y} f r e = digits r (run_of t k) k (slot_of t k x y) (fitted_known f) f.last f.small e

pub is_rank : {t : Task} {k x y : ℕ} → Fitted t k x y → (r : ℕ) → k ≡ kind_at_rank r → run_at_rank r ≡ run_of t k → r % slots ≡ slot_of t k x y
    → r ≡ record_rank t k x y
is_rank {t} {k} {x} {y} f r kind run place = rank_whole r (run_of t k) k (slot_of t k x y) (rw (← kind) (fitted_known f)) run (sym kind) place

-- A record that opens no run is of the run that was opened last.
pub in_last_run : (t : Task) (k x y : ℕ) → Fitted t k x y → (k ≡ run_kind → ⊥) → run_of t k ≡ last_run t.runs
in_last_run t k x y f other =
    let known : is_kind run_kind ≡ true = position_known run_kind (omega (arith, order)) (omega (arith, order)) in
    f.same_run (λ same. other (one_kind k run_kind (fitted_known f) known same))

-- Of a record that fits, a kind that neither opens a run nor is the steps' is from start to lock.
pub before_steps : (t : Task) (k x y : ℕ) → Fitted t k x y → (k ≡ run_kind → ⊥) → (k ≡ step_kind → ⊥)
    → (position_of start_kind ≤ position_of k) × (position_of k ≤ position_of lock_kind)
before_steps t k x y f opens other = by (family k)
  where
    by : Family k → (position_of start_kind ≤ position_of k) × (position_of k ≤ position_of lock_kind)
    by (of_none out nothing) = absurd (apart k end_kind f.last (sym (out (fitted_known f))))
    by (of_sizes is) = absurd (apart sizes_kind k f.later is)
    by (of_run is) = absurd (opens is)
    by (of_fact kind) = (kind.low, omega (arith, order))
    by (of_cell kind) = (omega (arith, order), kind.high)
    by (of_step is) = absurd (other is)

pub on_need : (t : Task) (k x y : ℕ) → Fits t k x y → OnNeed t k x y
on_need t k x y (opens_run is l) lock = absurd (omega arith)
on_need t k x y (fact_fits kind l) lock = let position = ap position_of lock in absurd (omega (arith, order, kind))
on_need t k x y (cell_fits kind l m first need) lock = need lock
on_need t k x y (step_fits is l m) lock = absurd (omega arith)

pub run_bytes : (x y : ℕ) → record_bytes run_kind x y ≡ run_kind ∷ []
unfolding record_bytes
run_bytes x y = refl

pub fact_bytes : {k : ℕ} → FactKind k → (x y : ℕ) → record_bytes k x y ≡ k ∷ x ∷ []
unfolding record_bytes
fact_bytes kind x y = rw (kind.not_run, kind.not_cell)

pub cell_bytes : {k : ℕ} → CellKind k → (x y : ℕ) → record_bytes k x y ≡ k ∷ x ∷ y ∷ []
unfolding record_bytes
cell_bytes kind x y = rw (kind.not_run, kind.cell)

pub step_bytes : (x y : ℕ) → record_bytes step_kind x y ≡ step_kind ∷ x ∷ []
unfolding record_bytes is_cell_kind
step_bytes x y = refl

pub record_length : (t : Task) (k x y : ℕ) → Fits t k x y → length (record_bytes k x y) ≡ suc (body_length k)
unfolding record_bytes body_length is_cell_kind
record_length t k x y (opens_run is l) = rw is
record_length t k x y (fact_fits kind l) = rw (kind.length, kind.not_run, kind.not_cell)
record_length t k x y (cell_fits kind l m first need) = rw (kind.length, kind.not_run, kind.cell)
record_length t k x y (step_fits is l m) = rw is
