-- What the loop of the reader keeps. Assumes nothing.
use mathlib.Core.Bool.{true, false, ◌&&◌}
use mathlib.Core.List.{List}
use mathlib.Core.Path.{◌≡◌, refl, sym, ap, ◌∙◌}
use Prim.Native.Nat.{ℕ, ◌≤◌}
use native.Mathlib.Omega.{arith}
use lib.Dec.{eqb, leb}
use borrow.Author.Tests.{eqb-true, eqb-false, leb-false}
use denote.Enum.Bare.{sameb}
use Rattle.std.specs.Prelude.{Err}
use Rattle.table.specs.Refusals.{Refusal, accepted, number_of}
use Rattle.table.specs.Outcomes.{read_of}
use Rattle.table.specs.Sizes.{max_runs}
use Rattle.table.specs.declared.refusals.Refusal as code
use Rattle.table.proofs.WhyLaws.{number_some}
use Rattle.table.proofs.FlagLaws.{cond_by}
use Rattle.table.specs.declared.Task.{Task}
use Rattle.taskformat.specs.Format.{sizes_kind, end_kind, run_kind, is_cell_kind, body_length}
use Rattle.taskformat.specs.Reading.{Seen, Reads, faulty, refused_read, seen_after, runs_after, body_at, fault_at}
use Rattle.records.specs.contracts.kinds.Kind.{the_type}
use Rattle.records.specs.declared.kinds.Kind.{Kind}
use Rattle.records.specs.declared.kinds.Kind.TheVariants.{Sizes, Start, Goal, Need, Add, Delete, Step, End, Run, Lock}
use Rattle.records.specs.Kinds.{kind_number}
use Rattle.records.specs.declared.parts.Parts.{Parts}
use Rattle.records.specs.Records.{Says}
use Rattle.taskfile.specs.Numbers.{task_after, seen_with}

-- A refused record refuses the file, with the same number and place.
pub read_refused : {s : List ℕ} {at : ℕ} {seen : Seen} (e : code.Refusal) → record { number = number_of e.why; place = e.place } ≡ fault_at s at seen
    → Reads s (read_of (Err e)) at seen
read_refused {s} {at} {seen} e told =
    let some : number_of e.why ≡ accepted → ⊥ = number_some e.why in
    let is : number_of e.why ≡ (fault_at s at seen).number = ap (λ (f : Refusal). f.number) told in
    faulty (omega (arith, is)) (ap (λ (f : Refusal). refused_read f.number f.place) told)

-- What is seen after a record, by the file's bytes and by its parts.
pub seen_next : (s : List ℕ) (at : ℕ) (seen : Seen) (p : Parts) → Says s at p → seen_with seen p ≡ seen_after s at seen
unfolding seen_after body_at
seen_next s at seen p said = rw (said.kind, said.first, said.second, said.third)

-- The end by its kind, in the code's words and the definitions'.
same_end : (k : Kind) → sameb the_type k End ≡ eqb (kind_number k) end_kind
same_end Sizes = refl
same_end Start = refl
same_end Goal = refl
same_end Need = refl
same_end Add = refl
same_end Delete = refl
same_end Step = refl
same_end End = refl
same_end Run = refl
same_end Lock = refl

pub is_end : (k : Kind) {n : ℕ} → true ≡ sameb the_type k End → kind_number k ≡ n → n ≡ end_kind
is_end k e is = sym is ∙ eqb-true (kind_number k) end_kind (sym (e ∙ same_end k))

pub not_end : (k : Kind) {n : ℕ} → false ≡ sameb the_type k End → kind_number k ≡ n → n ≡ end_kind → ⊥
not_end k d is e = eqb-false (kind_number k) end_kind (sym (d ∙ same_end k)) (is ∙ e)

pub end_length : body_length end_kind ≡ 0
unfolding body_length is_cell_kind
end_length = refl

-- With room for it a further run is no more than there may be.
pub many_next : (t : Task) (k x y z : ℕ) → t.runs.many ≤ max_runs → (eqb k run_kind && leb max_runs t.runs.many) ≡ false → (task_after t k x y z).runs.many ≤ max_runs
unfolding runs_after
many_next t k x y z low room =
    cond_by (λ (n : ℕ). n ≤ max_runs) (eqb k sizes_kind) (λ _. omega arith)
    (λ _. cond_by (λ (n : ℕ). n ≤ max_runs) (eqb k run_kind) (λ e. omega (arith, leb-false max_runs t.runs.many (rw e at room))) (λ _. low))
