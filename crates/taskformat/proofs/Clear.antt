-- A good record: none of the faults of the record at a place, by name, and back. Assumes nothing.
use mathlib.Core.Bool.{true, false, ◌&&◌}
use mathlib.Core.List.{List}
use mathlib.Core.Path.{◌≡◌}
use Prim.Native.Nat.{ℕ, ◌+◌, ◌<◌, ◌≤◌}
use native.Mathlib.Omega.{arith}
use lib.Dec.{eqb, leb}
use lib.ListN.{length}
use borrow.Author.Tests.{leb-false, ltb-false, not-false, lt-leb, le-ltb}
use Rattle.table.proofs.RefusalLaws.{silent, accepts}
use Rattle.table.specs.Sizes.{max_runs, max_steps}
use Rattle.table.specs.Tasks.{count_of}
use Rattle.taskformat.specs.Format.{sizes_kind, step_kind, run_kind, is_kind, body_length}
use Rattle.taskformat.specs.Reading.{Seen, last_run, kind_at, byte_at, body_at, misplaced, sizes_wrong, outside, disordered, lock_stray, faults_at, fault_at}

pub record Clear (s : List ℕ) (at : ℕ) (seen : Seen) : Type 0 where
  pub begun : at < length s
  pub known : is_kind (kind_at s at) ≡ true
  pub placed : misplaced seen (kind_at s at) ≡ false
  pub whole : at + 1 + body_length (kind_at s at) ≤ length s
  pub sized : (eqb (kind_at s at) sizes_kind && sizes_wrong (byte_at s at 0) (byte_at s at 1) (byte_at s at 2)) ≡ false
  pub inside : outside seen.task.table (kind_at s at) (byte_at s at 0) (byte_at s at 1) ≡ false
  pub ordered : disordered seen (kind_at s at) (body_at s at) ≡ false
  pub runs : (eqb (kind_at s at) run_kind && leb max_runs seen.task.runs.many) ≡ false
  pub locked : lock_stray seen.task.table.needs (kind_at s at) (byte_at s at 0) (byte_at s at 1) ≡ false
  pub room : (eqb (kind_at s at) step_kind && leb max_steps (count_of seen.task.runs (last_run seen.task.runs))) ≡ false

pub clear : (s : List ℕ) (at : ℕ) (seen : Seen) → (fault_at s at seen).number ≡ 0 → Clear s at seen
unfolding faults_at
clear s at seen e =
    let q = silent (faults_at s at seen) (omega arith) e in
    record {
      begun = leb-false (length s) at q.0;
      known = not-false (is_kind (kind_at s at)) q.1.0;
      placed = q.1.1.0;
      whole = ltb-false (length s) (at + 1 + body_length (kind_at s at)) q.1.1.1.0;
      sized = q.1.1.1.1.0;
      inside = q.1.1.1.1.1.0;
      ordered = q.1.1.1.1.1.1.0;
      runs = q.1.1.1.1.1.1.1.0;
      locked = q.1.1.1.1.1.1.1.1.0;
      room = q.1.1.1.1.1.1.1.1.1.0;
    }

pub faultless : (s : List ℕ) (at : ℕ) (seen : Seen) → Clear s at seen → (fault_at s at seen).number ≡ 0
unfolding faults_at
faultless s at seen c =
    accepts (faults_at s at seen) (
      lt-leb (length s) at c.begun,
      (
        rw c.known,
        (
          c.placed,
          (
            le-ltb (length s) (at + 1 + body_length (kind_at s at)) c.whole,
            (c.sized, (c.inside, (c.ordered, (c.runs, (c.locked, (c.room, tt)))))),
          ),
        ),
      ),
    )
