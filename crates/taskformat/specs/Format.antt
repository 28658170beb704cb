-- The file of a task, as a plain function from tasks to bytes: document 01, "The task file"; 02, requests 1 and 6.
use Rattle.std.specs.Prelude.{Bool, cond, ◌||◌, ◌&&◌, List, [], ◌∷◌, ◌++◌, ℕ, suc, ◌-◌, eqb, leb, get_or}
use Rattle.facts.specs.Sets.{has}
use Rattle.table.specs.Lists.{gather, piece}
use Rattle.table.specs.Tasks.{start_of, goal_of, count_of, step_of}
use Rattle.table.specs.declared.Task.{Task}
use Rattle.table.specs.declared.Runs.{Runs}

-- The kinds of record, and the bytes of each kind's body:
-- 1 F, A, L; 2 start fact; 3 goal fact; 4, 5, 6 need, add, delete with action and fact; 7 next step; 8 end;
-- 9 a further run (02, request 1); 10 a lock, with action and fact (02, request 6).
abbrev pub sizes_kind : ℕ
sizes_kind = 1

abbrev pub start_kind : ℕ
start_kind = 2

abbrev pub goal_kind : ℕ
goal_kind = 3

abbrev pub need_kind : ℕ
need_kind = 4

abbrev pub add_kind : ℕ
add_kind = 5

abbrev pub delete_kind : ℕ
delete_kind = 6

abbrev pub step_kind : ℕ
step_kind = 7

abbrev pub end_kind : ℕ
end_kind = 8

abbrev pub run_kind : ℕ
run_kind = 9

abbrev pub lock_kind : ℕ
lock_kind = 10

-- No record yet.
abbrev pub no_kind : ℕ
no_kind = 0

-- "Kinds never go down": the kinds in the order that a file has them, which is this list and not that of their numbers. Each further run
-- begins the order anew, with its kind 9: "after it come kinds 2, 3 and 7 for that run in the usual order" (02, request 1). Kind 10 "stands after
-- kind 6 and before kind 7" (02, request 6).
unfoldable pub file_order : List ℕ
file_order = no_kind ∷ sizes_kind ∷ run_kind ∷ start_kind ∷ goal_kind ∷ need_kind ∷ add_kind ∷ delete_kind ∷ lock_kind ∷ step_kind ∷ end_kind ∷ []

-- The first place of a number in a list; the list's length where it has none.
unfoldable pub first_place : List ℕ → ℕ → ℕ
first_place [] k = 0
first_place (j ∷ l) k = cond (eqb k j) 0 (suc (first_place l k))

-- The position that a kind has in a file, and the kind that has a position.
unfoldable pub position_of : ℕ → ℕ
position_of k = first_place file_order k

unfoldable pub kind_in : ℕ → ℕ
kind_in p = get_or file_order p no_kind

unfoldable pub is_kind : ℕ → Bool
is_kind k = leb sizes_kind k && leb k lock_kind

-- Need, add, delete or lock: a cell of the table, with an action and a fact.
unfoldable pub is_cell_kind : ℕ → Bool
is_cell_kind k = (leb need_kind k && leb k delete_kind) || eqb k lock_kind

-- Start or goal: a fact alone.
unfoldable pub is_fact_kind : ℕ → Bool
is_fact_kind k = eqb k start_kind || eqb k goal_kind

unfoldable pub body_length : ℕ → ℕ
body_length k = cond (eqb k sizes_kind) 3 (cond (is_cell_kind k) 2 (cond (eqb k end_kind || eqb k run_kind) 0 1))

-- One record for each fact below F that is in the set, ascending.
unfoldable pub fact_records : ℕ → ℕ → ℕ → List ℕ
fact_records kind facts set = gather (λ f. piece (has set f) (kind ∷ f ∷ [])) facts

-- One record for each cell that is set, "strictly ascending, first number first": by action, then by fact.
unfoldable pub cell_records : ℕ → ℕ → ℕ → List ℕ → List ℕ
cell_records kind facts actions sets =
    gather (λ a. gather (λ f. piece (has (get_or sets a 0) f) (kind ∷ a ∷ f ∷ [])) facts) actions

-- One record for each step of run i.
unfoldable pub step_records : Runs → ℕ → List ℕ
step_records r i = gather (λ j. step_kind ∷ step_of r i j ∷ []) (count_of r i)

-- The start and goal facts of run i.
unfoldable pub set_records : Task → ℕ → List ℕ
set_records t i = fact_records start_kind t.table.facts (start_of t.runs i) ++ fact_records goal_kind t.table.facts (goal_of t.runs i)

-- "Kind 9, with no body, opens a further run; after it come kinds 2, 3 and 7 for that run" (02, request 1).
unfoldable pub further_run : Task → ℕ → List ℕ
further_run t i = (run_kind ∷ []) ++ set_records t i ++ step_records t.runs i

-- The sizes and the table with the first run, the further runs, and the end, which is the last byte.
unfoldable pub file_of : Task → List ℕ
file_of t =
    (sizes_kind ∷ t.table.facts ∷ t.table.actions ∷ t.table.limit ∷ []) ++
    set_records t 0 ++
    cell_records need_kind t.table.facts t.table.actions t.table.needs ++
    cell_records add_kind t.table.facts t.table.actions t.table.adds ++
    cell_records delete_kind t.table.facts t.table.actions t.table.deletes ++
    cell_records lock_kind t.table.facts t.table.actions t.table.locks ++
    step_records t.runs 0 ++
    gather (λ i. further_run t (suc i)) (t.runs.many - 1) ++
    (end_kind ∷ [])
