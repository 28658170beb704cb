-- The byte that a refused read marks is there to be marked. Assumes nothing.
use mathlib.Core.Bool.{true, ◌||◌, ◌&&◌}
use mathlib.Core.List.{List}
use mathlib.Core.Logic.{◌⊎◌, inl, inr, ⊎_elim}
use mathlib.Core.Path.{◌≡◌, refl, ap}
use Prim.Native.Nat.{ℕ, ◌+◌, ◌<◌, ◌≤◌}
use native.Mathlib.Omega.{arith}
use lib.Dec.{eqb, leb}
use lib.ListN.{length}
use borrow.Author.Tests.{eqb-true, leb-false, ltb-false}
use Rattle.table.proofs.FlagLaws.{or_cases, or_other, and_left, and_right, cond_by, by_order}
use Rattle.table.proofs.RefusalLaws.{first_of_by}
use Rattle.table.specs.Refusals.{Refusal, no_end, number_outside, not_ascending}
use Rattle.table.specs.declared.Table.{Table}
use Rattle.table.specs.declared.TaskReply.{TaskReply}
use Rattle.taskformat.specs.Format.{sizes_kind, start_kind, goal_kind, step_kind, is_cell_kind, is_fact_kind, body_length}
use Rattle.taskformat.specs.Reading.{Seen, kind_at, byte_at, body_at, next_at, first_outside, outside, kind_disordered, disordered, wrong_byte, place_of, faults_at, fault_at, Marks, Reads, ReadsFile, faulty, good, ended, trailing}
use Rattle.taskformat.proofs.Clear.{clear}

-- ---- a number that is outside, or that does not ascend, is in the body

cell_numbers : (k : ℕ) → is_cell_kind k ≡ true → 2 ≤ body_length k
unfolding body_length
cell_numbers k e = rw e (cond_by {A = ℕ} (λ n. 2 ≤ n) (eqb k sizes_kind) (λ _. omega arith) (λ _. omega arith))

fact_number : (k : ℕ) → is_fact_kind k ≡ true → 1 ≤ body_length k
unfolding is_fact_kind is_cell_kind body_length
fact_number k e = ⊎_elim (is start_kind (omega arith)) (is goal_kind (omega arith)) (or_cases (eqb k start_kind) (eqb k goal_kind) e)
  where
    is : (j : ℕ) → 1 ≤ body_length j → eqb k j ≡ true → 1 ≤ body_length k
    is j h f = rw (eqb-true k j f) h

-- 5, and 6 of a body: the place is in the body.
first_number : (t : Table) (k x : ℕ) → first_outside t k x ≡ true → 1 ≤ body_length k
unfolding is_cell_kind body_length
first_number t k x e =
    ⊎_elim (λ f. fact_number k (and_left (is_fact_kind k) (leb t.facts x) f))
    (λ f. ⊎_elim (λ c. let two = cell_numbers k c in omega arith) (λ is. rw (eqb-true k step_kind is) (omega arith))
    (or_cases (is_cell_kind k) (eqb k step_kind) (and_left (is_cell_kind k || eqb k step_kind) (leb t.actions x) f)))
    (or_cases (is_fact_kind k && leb t.facts x) ((is_cell_kind k || eqb k step_kind) && leb t.actions x) e)

module _ (s : List ℕ) (at : ℕ) (seen : Seen) (whole : next_at s at ≤ length s) where
  abbrev kind : ℕ
  kind = kind_at s at

  outside_there : outside seen.task.table kind (byte_at s at 0) (byte_at s at 1) ≡ true → place_of number_outside s at seen < length s
  unfolding outside wrong_byte place_of
  outside_there e =
      cond_by {A = ℕ} (λ n. at + n < length s) (first_outside t kind x) (λ f. let one = first_number t kind x f in omega arith)
      (λ f. let two = cell_numbers kind (and_left (is_cell_kind kind) (leb t.facts (byte_at s at 1)) (or_other e f)) in omega arith)
    where
      t : Table
      t = seen.task.table

      x : ℕ
      x = byte_at s at 0

  disordered_there : disordered seen kind (body_at s at) ≡ true → place_of not_ascending s at seen < length s
  unfolding disordered wrong_byte place_of
  disordered_there e =
      cond_by {A = ℕ} (λ n. at + n < length s) (kind_disordered seen kind) (λ _. omega arith)
      (λ f. let one = compared (and_left _ _ (or_other e f)) in omega arith)
    where
      compared : (eqb kind seen.kind && (is_fact_kind kind || is_cell_kind kind)) ≡ true → 1 ≤ body_length kind
      compared h =
          ⊎_elim (fact_number kind) (λ c. let two = cell_numbers kind c in omega arith)
          (or_cases (is_fact_kind kind) (is_cell_kind kind) (and_right (eqb kind seen.kind) (is_fact_kind kind || is_cell_kind kind) h))

-- ---- every refusal

-- Of a record: 1 at its start, or at a byte of the file.
pub fault_marks : (s : List ℕ) (at : ℕ) (seen : Seen) → 0 < (fault_at s at seen).number
    → (((fault_at s at seen).number ≡ no_end) × ((fault_at s at seen).place ≡ at)) ⊎ ((fault_at s at seen).place < length s)
unfolding faults_at wrong_byte place_of
fault_marks s at seen =
    first_of_by (λ (r : Refusal). 0 < r.number → ((r.number ≡ no_end) × (r.place ≡ at)) ⊎ (r.place < length s)) (faults_at s at seen)
    (λ none. absurd (omega arith)) (
      λ _ _. inl (refl, omega arith),
      λ begun. let there : at + 0 < length s = let here = leb-false (length s) at begun in omega arith in (
        λ _ _. inr there,
        λ _. (
          λ _ _. inr there,
          λ _. (
            λ _ _. inr there,
            λ cut. let whole = ltb-false (length s) (next_at s at) cut in (
              λ _ _. inr there,
              λ _. (
                λ e _. inr (outside_there s at seen whole e),
                λ _. (λ e _. inr (disordered_there s at seen whole e), λ _. (λ _ _. inr there, λ _. (λ _ _. inr there, λ _. (λ _ _. inr there, λ _. tt)))),
              ),
            ),
          ),
        ),
      ),
    )

-- Of a file.
marks_from : {s : List ℕ} {r : TaskReply} {at : ℕ} {seen : Seen} → at ≤ length s → Reads s r at seen → 0 < r.number → Marks s r.number r.place
marks_from {s} up (faulty {at} {seen} f e) _ =
    rw e (⊎_elim (λ end. by_order at (length s) (λ l. inl (omega (arith, end.1))) (λ l. inr (end.0, omega (arith, end.1)))) inl (fault_marks s at seen f))
marks_from up (good {at} {seen} c more rest) nonzero = marks_from (clear _ at seen c).whole rest nonzero
marks_from up (ended c is last e) nonzero = absurd (omega (arith, ap (λ (q : TaskReply). q.number) e))
marks_from up (trailing c is more e) nonzero = rw e (inl more)

pub read_marks : (s : List ℕ) (r : TaskReply) → ReadsFile s r → 0 < r.number → Marks s r.number r.place
read_marks s r reads = marks_from (omega arith) reads
