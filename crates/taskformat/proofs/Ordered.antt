-- What a record in order tells. Assumes nothing.
use mathlib.Core.Bool.{true, false, not, ◌&&◌, ◌||◌}
use mathlib.Core.Logic.{◌⊎◌, inl, inr}
use mathlib.Core.Path.{◌≡◌}
use Prim.Native.Nat.{ℕ, ◌<◌, ◌≤◌}
use native.Mathlib.Omega.{arith}
use lib.Dec.{eqb, leb, ltb}
use borrow.Author.Tests.{eq-eqb, ne_eqb, leb-false, ltb-false}
use Rattle.table.proofs.FlagLaws.{or_neither}
use Rattle.taskformat.specs.Format.{run_kind, start_kind, lock_kind, is_cell_kind, is_fact_kind, position_of}
use Rattle.taskformat.specs.Reading.{Seen, last_run, disordered}
use Rattle.taskformat.proofs.Families.{FactKind, CellKind, family_between}

ordered_kind : (k : ℕ) → position_of start_kind ≤ position_of k → position_of k ≤ position_of lock_kind → (is_fact_kind k || is_cell_kind k) ≡ true
ordered_kind k l h = by (family_between k l h)
  where
    by : FactKind k ⊎ CellKind k → (is_fact_kind k || is_cell_kind k) ≡ true
    by (inl kind) = rw kind.fact
    by (inr kind) = rw (kind.not_fact, kind.cell)

-- What it is for a record to be in order.
pub record Ordered (seen : Seen) (k b : ℕ) : Type 0 where
  pub up : (k ≡ run_kind → ⊥) → position_of seen.kind ≤ position_of k
  pub first : is_cell_kind k ≡ true → last_run seen.task.runs ≡ 0
  pub ascends : k ≡ seen.kind → position_of start_kind ≤ position_of k → position_of k ≤ position_of lock_kind → seen.body < b

pub ordered_parts : (seen : Seen) (k b : ℕ) → disordered seen k b ≡ false → Ordered seen k b
unfolding disordered
ordered_parts seen k b e =
    let down = not (eqb k run_kind) && ltb (position_of k) (position_of seen.kind) in
    let stray = is_cell_kind k && ltb 0 (last_run seen.task.runs) in
    let parts = or_neither (down || stray) (eqb k seen.kind && (is_fact_kind k || is_cell_kind k) && leb b seen.body) e in
    let firsts = or_neither down stray parts.0 in
    record {
      up = λ other. ltb-false (position_of k) (position_of seen.kind) (rw (ne_eqb k run_kind other) at firsts.0);
      first = λ cell. let none = ltb-false 0 (last_run seen.task.runs) (rw cell at firsts.1) in omega arith;
      ascends = λ is l h. leb-false b seen.body (rw (eq-eqb k seen.kind is, ordered_kind k l h) at parts.1);
    }
