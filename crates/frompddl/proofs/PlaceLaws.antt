-- What the readers tell lies within what they read: places, and the steps of a task file. Assumes nothing.
use mathlib.Core.List.{List}
use mathlib.Core.Logic.{inl, inr}
use mathlib.Core.Path.{◌≡◌, ap}
use Prim.Native.Nat.{ℕ, ◌≤◌}
use native.Mathlib.Omega.{arith}
use lib.ListN.{length, get_or, replicate, get_or-replicate, length-replicate, get_or-eq_default}
use Rattle.layout.proofs.AlikeLaws.{alike_left}
use Rattle.pddl.specs.Readings.{ReadsProblem, no_size, problem, outside}
use Rattle.pddl.specs.declared.ProblemReply.{ProblemReply}
use Rattle.table.proofs.FlagLaws.{by_order}
use Rattle.table.specs.Refusals.{accepted}
use Rattle.table.specs.Sizes.{max_runs, max_steps}
use Rattle.table.specs.Tasks.{count_of}
use Rattle.table.specs.declared.TaskReply.{TaskReply}
use Rattle.taskformat.proofs.AcceptedIsFile.{accepted_file}
use Rattle.taskformat.proofs.FilesAreTasks.{accepted_read_lem}
use Rattle.taskformat.proofs.Places.{read_marks}
use Rattle.taskformat.specs.Reading.{Seen, Reads, ReadsFile, Marks, faulty, good, ended, trailing}

-- ---- places

pub problem_place : {s : List ℕ} {facts : ℕ} {q : ProblemReply} → ReadsProblem s facts q → q.place ≤ length s
problem_place (no_size h e) = omega (arith, ap (λ (q : ProblemReply). q.place) e)
problem_place (problem low high start goal fits text e) = omega (arith, ap (λ (q : ProblemReply). q.place) e)
problem_place {s} (outside low high n none far e) =
    omega (arith, ap (λ (q : ProblemReply). q.place) e, far.reached, alike_left s far.text)

pub file_place : {s : List ℕ} {r : TaskReply} → ReadsFile s r → r.place ≤ length s
file_place {s} {r} reads =
    by_order 0 r.number (λ some. pick (read_marks s r reads some))
    (λ none.
    let ok : r.number ≡ 0 = omega arith in
    omega (arith, ap (λ (q : TaskReply). q.place) (accepted_read_lem reads ok)))
  where
    pick : Marks s r.number r.place → r.place ≤ length s
    pick (inl l) = omega arith
    pick (inr end) = omega (arith, end.1)

-- ---- steps: a refused file has none

no_steps : (i : ℕ) → get_or {A = ℕ} (replicate max_runs 0) i 0 ≡ 0
no_steps i =
    by_order i max_runs (get_or-replicate max_runs i 0 0)
    (λ l. get_or-eq_default (replicate max_runs 0) 0 {n = i} (omega (arith, length-replicate {A = ℕ} max_runs 0)))

few : {s : List ℕ} {r : TaskReply} {at : ℕ} {seen : Seen} (i : ℕ) → Reads s r at seen
    → (r.number ≡ accepted → count_of r.task.runs i ≤ max_steps) → count_of r.task.runs i ≤ max_steps
few i (faulty f e) ok = omega (arith, no_steps i, ap (λ (q : TaskReply). count_of q.task.runs i) e)
few i (good c more rest) ok = few i rest ok
few i (ended c is last e) ok = ok (ap (λ (q : TaskReply). q.number) e)
few i (trailing c is more e) ok = omega (arith, no_steps i, ap (λ (q : TaskReply). count_of q.task.runs i) e)

pub file_steps : {s : List ℕ} {r : TaskReply} → ReadsFile s r → (i : ℕ) → count_of r.task.runs i ≤ max_steps
file_steps reads i = few i reads (λ ok. (accepted_file reads ok).0.count_high i)
