-- The file of a well-formed task has at most 27,660 bytes. Assumes nothing.
use mathlib.Core.Bool.{Bool, true, false}
use mathlib.Core.List.{List, [], ◌∷◌}
use mathlib.Core.Path.{refl, ◌≡◌, ap}
use Prim.Native.Nat.{ℕ, suc, ◌+◌, ◌-◌, ◌*◌, ◌<◌, ◌≤◌}
use native.Mathlib.Omega.{arith}
use lib.ListN.{length, get_or, length-append}
use Rattle.facts.specs.Sets.{has}
use Rattle.table.specs.Lists.{gather, piece}
use Rattle.table.specs.Sizes.{max_facts, max_actions, max_steps}
use Rattle.table.specs.Tasks.{start_of, goal_of, count_of, step_of, WellFormed}
use Rattle.table.specs.declared.Runs.{Runs}
use Rattle.table.specs.declared.Task.{Task}
use Rattle.taskformat.specs.Format.{start_kind, goal_kind, need_kind, add_kind, delete_kind, lock_kind, step_kind, end_kind, fact_records, cell_records, step_records, set_records, further_run, file_of}
use Rattle.taskformat.specs.Lengths.{longest_file}
use Rattle.table.proofs.GatherLaws.{gather_length, gather_more}
use Rattle.taskformat.proofs.Ranks.{ranks, piece_at}
use Rattle.taskformat.proofs.Sections.{file_by_rank}

piece_length : (b : Bool) (l : List ℕ) → length (piece b l) ≤ length l
piece_length true l = omega arith
piece_length false l = omega arith

facts_length : (k n m : ℕ) → n ≤ max_facts → length (fact_records k n m) ≤ max_facts * 2
unfolding fact_records
facts_length k n m l =
    let each = gather_length (λ f. piece (has m f) (k ∷ f ∷ [])) n 2 (λ f _. piece_length (has m f) (k ∷ f ∷ [])) in omega arith

cells_length : (k n m : ℕ) (sets : List ℕ) → n ≤ max_facts → m ≤ max_actions → length (cell_records k n m sets) ≤ max_actions * (max_facts * 3)
unfolding cell_records
cells_length k n m sets l h =
    let each =
    gather_length (λ a. gather (λ f. piece (has (get_or sets a 0) f) (k ∷ a ∷ f ∷ [])) n) m (max_facts * 3)
    (λ a _.
    let row =
    gather_length (λ f. piece (has (get_or sets a 0) f) (k ∷ a ∷ f ∷ [])) n 3 (λ f _. piece_length (has (get_or sets a 0) f) (k ∷ a ∷ f ∷ [])) in
    omega arith) in omega arith

steps_length : (r : Runs) (i : ℕ) → count_of r i ≤ max_steps → length (step_records r i) ≤ max_steps * 2
unfolding step_records
steps_length r i l = let each = gather_length (λ j. step_kind ∷ step_of r i j ∷ []) (count_of r i) 2 (λ j _. omega arith) in omega arith

sets_length : (t : Task) → WellFormed t → (i : ℕ) → length (set_records t i) ≤ 2 * (max_facts * 2)
unfolding set_records
sets_length t formed i =
    let few = formed.facts_high in
    let start = facts_length start_kind t.table.facts (start_of t.runs i) few in
    let goal = facts_length goal_kind t.table.facts (goal_of t.runs i) few in
    simp length-append (omega arith)

further_length : (t : Task) → WellFormed t → (i : ℕ) → length (further_run t i) ≤ 1 + 2 * (max_facts * 2) + max_steps * 2
unfolding further_run
further_length t formed i =
    let sets = sets_length t formed i in
    let steps = steps_length t.runs i (formed.count_high i) in
    simp length-append (omega arith)

pub file_length : (t : Task) → WellFormed t → length (file_of t) ≤ longest_file
unfolding file_of
file_length t formed =
    let few = formed.facts_high in
    let some = formed.actions_high in
    let many = formed.many_high in
    let sets = sets_length t formed 0 in
    let needs = cells_length need_kind t.table.facts t.table.actions t.table.needs few some in
    let adds = cells_length add_kind t.table.facts t.table.actions t.table.adds few some in
    let deletes = cells_length delete_kind t.table.facts t.table.actions t.table.deletes few some in
    let locks = cells_length lock_kind t.table.facts t.table.actions t.table.locks few some in
    let steps = steps_length t.runs 0 (formed.count_high 0) in
    let further =
    gather_length (λ i. further_run t (suc i)) (t.runs.many - 1) (1 + 2 * (max_facts * 2) + max_steps * 2)
    (λ i _. further_length t formed (suc i)) in
    simp length-append (omega arith)

-- The records up to any rank are shorter than the file.
pub records_length : (t : Task) → WellFormed t → (r : ℕ) → r ≤ ranks → length (gather (piece_at t) r) < longest_file
records_length t formed r l =
    let all : ranks ≡ r + (ranks - r) = omega arith in
    let file = ap length (file_by_rank t formed) in
    let most = file_length t formed in
    let last = length-append (gather (piece_at t) ranks) (end_kind ∷ []) in
    let whole = ap (λ (n : ℕ). length (gather (piece_at t) n)) all in
    let parts = ap length (gather_more (piece_at t) r (ranks - r)) in
    let sum = length-append (gather (piece_at t) r) (gather (λ i. piece_at t (r + i)) (ranks - r)) in omega arith

-- The name's number is the document's.
pub longest_file_lem : longest_file ≡ 27660
longest_file_lem = refl
