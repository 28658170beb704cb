-- The runs of the problem texts, put to the task one after another: "Steps and L are passed beside" the texts (02, request 4), here by a task
-- file.
use Rattle.std.specs.Prelude.{Result, Ok, Err, true, false, List, ◌≡◌, ℕ, ◌+◌, ◌<◌, ◌≤◌}
use Rattle.addrun.specs.Adding.{run_added, steps_of}
use Rattle.pddl.specs.Readings.{ReadsProblem, problem_told}
use Rattle.pddl.specs.declared.RunEnds.{RunEnds}
use Rattle.table.specs.Sizes.{max_runs}
use Rattle.table.specs.declared.Task.{Task}
use Rattle.table.specs.declared.refusals.Refusal.{Refusal}
use Rattle.table.specs.declared.refusals.Why.TheVariants.{NotWellFormed}
use Rattle.frompddl.specs.Splitting.{text_end, text_at, is_text}
use Rattle.frompddl.specs.declared.gather.Gathered.{Gathered}

-- What the text at a place makes of the task t, as the problem of run n: the steps are those of run n of the task beside.
pub data NextRun (s : List ℕ) (beside : Task) (at n : ℕ) (t : Task) (r : Result Task Refusal) : Type 0 where
  -- it is refused, at a place that is counted from the beginning of the input
  outside : (e : Refusal) → ReadsProblem (text_at s at) t.table.facts (problem_told (Err e))
      → r ≡ Err (record { why = e.why; place = at + e.place }) → NextRun s beside at n t r
  -- its run is put to the task; where that is refused, the task stays as it was
  read : (q : RunEnds) → ReadsProblem (text_at s at) t.table.facts (problem_told (Ok q))
      → r ≡ Ok (run_added t q.start q.goal (steps_of beside n)).task → NextRun s beside at n t r

-- What the texts from a place on come to, where n were read before and made t.
pub data Gathers (s : List ℕ) (beside : Task) (r : Result Gathered Refusal) : ℕ → ℕ → Task → Type 0 where
  -- no text is left
  last : {at n : ℕ} {t : Task} → is_text s at ≡ false → r ≡ Ok (record { texts = n; task = t }) → Gathers s beside r at n t
  -- a ninth
  ninth : {at n : ℕ} {t : Task} → is_text s at ≡ true → max_runs ≤ n → r ≡ Err (record { why = NotWellFormed; place = 0 })
      → Gathers s beside r at n t
  -- a text that is refused
  wrong : {at n : ℕ} {t : Task} (e : Refusal) → is_text s at ≡ true → n < max_runs → NextRun s beside at n t (Err e) → r ≡ Err e
      → Gathers s beside r at n t
  -- a good one: the rest decides
  more : {at n : ℕ} {t : Task} (u : Task) → is_text s at ≡ true → n < max_runs → NextRun s beside at n t (Ok u)
      → Gathers s beside r (text_end s at) (n + 1) u → Gathers s beside r at n t
