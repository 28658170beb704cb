-- The parts of Format's file by name: what the writer's inner functions write.
use Rattle.std.specs.Prelude.{List, [], ◌∷◌, ◌++◌, ℕ, suc, ◌+◌, ◌-◌, ◌*◌, get_or}
use Rattle.facts.specs.Sets.{has}
use Rattle.table.specs.Lists.{gather, piece}
use Rattle.table.specs.Sizes.{max_steps}
use Rattle.table.specs.declared.Task.{Task}
use Rattle.taskformat.specs.Format.{sizes_kind, start_kind, goal_kind, need_kind, add_kind, delete_kind, lock_kind, step_kind, run_kind, fact_records, cell_records, set_records, further_run}

abbrev pub fact_record : ℕ → ℕ → ℕ → List ℕ
fact_record kind set f = piece (has set f) (kind ∷ f ∷ [])

abbrev pub cell_record : ℕ → ℕ → ℕ → ℕ → List ℕ
cell_record kind action set f = piece (has set f) (kind ∷ action ∷ f ∷ [])

-- The cells of one action.
abbrev pub action_records : ℕ → ℕ → ℕ → ℕ → List ℕ
action_records kind facts action set = gather (cell_record kind action set) facts

abbrev pub sizes_of : Task → List ℕ
sizes_of t = sizes_kind ∷ t.table.facts ∷ t.table.actions ∷ t.table.limit ∷ []

-- The start and goal facts of one run; n steps of run i, of the steps of all; and a further run.
unfoldable pub both_sets : ℕ → ℕ → ℕ → List ℕ
both_sets facts start goal = fact_records start_kind facts start ++ fact_records goal_kind facts goal

abbrev pub step_at : List ℕ → ℕ → ℕ → List ℕ
step_at steps i j = step_kind ∷ get_or steps (max_steps * i + j) 0 ∷ []

abbrev pub steps_from : List ℕ → ℕ → ℕ → List ℕ
steps_from steps i n = gather (step_at steps i) n

unfoldable pub run_with : ℕ → ℕ → ℕ → List ℕ → ℕ → ℕ → List ℕ
run_with facts start goal steps i n = (run_kind ∷ []) ++ both_sets facts start goal ++ steps_from steps i n

-- The file up to its last goal fact of the first run, and up to its last cell; and its further runs.
unfoldable pub through_goals : Task → List ℕ
through_goals t = sizes_of t ++ set_records t 0

unfoldable pub through_cells : Task → List ℕ
through_cells t =
    through_goals t ++ cell_records need_kind t.table.facts t.table.actions t.table.needs ++
    cell_records add_kind t.table.facts t.table.actions t.table.adds ++
    cell_records delete_kind t.table.facts t.table.actions t.table.deletes ++
    cell_records lock_kind t.table.facts t.table.actions t.table.locks

abbrev pub further_runs : Task → List ℕ
further_runs t = gather (λ i. further_run t (suc i)) (t.runs.many - 1)
