-- When a solve gives 9: "A solve gives 9 exactly when a run without steps lacks a goal at its start" (document 02, request 1), and "now also
-- .. in runs with steps" (request 6).
use Rattle.std.specs.Prelude.{true, false, List, [], ◌∷◌, ◌≡◌, ℕ, ◌+◌, ◌<◌}
use Rattle.facts.specs.Sets.{has}
use Rattle.table.specs.Lists.{gather, piece}
use Rattle.table.specs.Repairs.{permitted}
use Rattle.table.specs.Sizes.{last_repair}
use Rattle.table.specs.Strips.{Cells}
use Rattle.table.specs.Tasks.{cells_of, start_of, goal_of, count_of, step_of}
use Rattle.table.specs.declared.Task.{Task}

-- Every permitted repair of the table, in one ascending list: if this one does not work, none does.
unfoldable pub fullest : Cells → List ℕ
fullest c = gather (λ n. piece (permitted c n) (n ∷ [])) (last_repair + 1)

-- What that means in the runs. With the fullest list each action adds every fact, and needs only what is locked; so a fact can be missing
-- only where it is looked at before any step has run: a goal of a run without steps, absent at its start; or a locked need of a run's first
-- step, absent at its start ("So 9, and a row's 8, now also arise in runs with steps").
pub data Stuck (t : Task) : Type 0 where
  without_steps : (run fact : ℕ) → run < t.runs.many → count_of t.runs run ≡ 0 → has (goal_of t.runs run) fact ≡ true
      → has (start_of t.runs run) fact ≡ false → Stuck t
  first_locked : (run fact : ℕ) → run < t.runs.many → 0 < count_of t.runs run → (cells_of t.table).locks (step_of t.runs run 0) fact ≡ true
      → has (start_of t.runs run) fact ≡ false → Stuck t
