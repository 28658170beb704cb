-- Laws of gathering: the text that is read, the steps that are passed, and one run more. Assumes nothing.
use mathlib.Core.Bool.{true}
use mathlib.Core.List.{List}
use mathlib.Core.Path.{◌≡◌, ap, ◌∙◌, subst}
use Prim.Native.Nat.{ℕ, ◌+◌, ◌-◌, ◌*◌, ◌<◌, ◌≤◌}
use native.Mathlib.Omega.{arith}
use lib.ListN.{length, take, drop, length-take, length-drop}
use Rattle.std.specs.Prelude.{Result, Ok}
use Rattle.addrun.specs.Adding.{run_added, steps_of}
use Rattle.pddl.specs.Readings.{ReadsProblem}
use Rattle.pddl.specs.declared.ProblemReply.{ProblemReply}
use Rattle.table.specs.Sizes.{max_runs, max_steps}
use Rattle.table.specs.Tasks.{count_of}
use Rattle.table.specs.declared.Task.{Task}
use Rattle.table.specs.declared.TaskReply.{TaskReply}
use Rattle.table.specs.declared.refusals.Refusal.{Refusal}
use Rattle.frompddl.specs.Gathering.{NextRun, Gathers, more}
use Rattle.frompddl.specs.Splitting.{text_end, text_at, is_text}
use Rattle.frompddl.specs.declared.gather.Gathered.{Gathered}
use Rattle.frompddl.proofs.PlaceLaws.{problem_place}
use Rattle.frompddl.proofs.SplitLaws.{text_there}

-- ---- the text at a place

module _ (s : List ℕ) (at : ℕ) {facts : ℕ} {q : ProblemReply} where
  pub text_read : (end : ℕ) → end ≡ text_end s at → ReadsProblem (take (end - at) (drop at s)) facts q → ReadsProblem (text_at s at) facts q
  text_read end e = subst (λ (n : ℕ). ReadsProblem (take (n - at) (drop at s)) facts q) e

  -- The place of its refusal, counted from the input's beginning, lies in the input.
  pub text_place : ReadsProblem (text_at s at) facts q → is_text s at ≡ true → at + q.place ≤ length s
  text_place r h = omega (arith, problem_place r, text_there s at h, length-take (text_end s at - at) (drop at s), length-drop at s)

-- ---- the steps that are passed

pub run_added_lem : (t : Task) (start goal : ℕ) (beside : Task) (run : ℕ) (r : TaskReply) (end : ℕ)
    → end ≡ max_steps * run + count_of beside.runs run
    → r ≡ run_added t start goal (take (end - max_steps * run) (drop (max_steps * run) beside.runs.steps))
    → r.task ≡ (run_added t start goal (steps_of beside run)).task
unfolding steps_of
run_added_lem t start goal beside run r end e a =
    let many : end - max_steps * run ≡ count_of beside.runs run = omega arith in
    ap (λ (q : TaskReply). q.task) a ∙
    ap (λ (n : ℕ). (run_added t start goal (take n (drop (max_steps * run) beside.runs.steps))).task) many

-- ---- one run more, as a turn of the loop leaves it

pub gathers_more : {s : List ℕ} {beside t : Task} {at n : ℕ} (u : Task) (end : ℕ) → is_text s at ≡ true → n < max_runs
    → NextRun s beside at n t (Ok u) → end ≡ text_end s at → (r : Result Gathered Refusal)
    → Gathers s beside r end (n + 1) u → Gathers s beside r at n t
gathers_more {s} {beside} {n = n} u end h low run e r g = more u h low run (subst (λ (p : ℕ). Gathers s beside r p (n + 1) u) e g)
