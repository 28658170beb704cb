-- A well-formed task is known by its sizes and its records. Assumes nothing.
use mathlib.Core.Bool.{Bool, true, false, ◌&&◌, and-true}
use mathlib.Core.List.{List, [], ◌∷◌}
use mathlib.Core.Path.{◌≡◌, refl, sym, ap, ◌∙◌}
use Prim.Native.Nat.{ℕ, ◌+◌, ◌*◌, ◌/◌, ◌%◌, ◌<◌, ◌≤◌}
use native.Mathlib.Omega.{arith}
use lib.Dec.{ltb}
use lib.ListN.{length, get_or}
use lib.Seq.{ext_get_or}
use borrow.Author.Tests.{ltb-true, lt-ltb}
use Rattle.facts.specs.Sets.{has}
use Rattle.facts.proofs.Laws.{same_sets}
use Rattle.table.proofs.FlagLaws.{by_order}
use Rattle.table.specs.Lists.{piece}
use Rattle.table.specs.Sizes.{max_actions, max_runs, max_steps}
use Rattle.table.specs.Tasks.{count_of, step_of, WellFormed}
use Rattle.table.specs.declared.Table.{Table}
use Rattle.table.specs.declared.Task.{Task}
use Rattle.taskformat.specs.Format.{run_kind, start_kind, goal_kind, need_kind, add_kind, delete_kind, lock_kind, step_kind, end_kind, is_kind, is_fact_kind, is_cell_kind, position_of}
use Rattle.taskformat.specs.Reading.{byte_room}
use Rattle.taskformat.proofs.Ranks.{slots, ranks, rank, fact_set, cell_set, run_piece, fact_piece, cell_piece, step_piece, slot_piece, piece_at, at_rank, some_step}
use Rattle.taskformat.proofs.PositionLaws.{order}
use Rattle.taskformat.proofs.Families.{FactKind, CellKind, start_kind_lem, goal_kind_lem, need_kind_lem, add_kind_lem, delete_kind_lem, lock_kind_lem}

-- The same sizes.
pub record SameSizes (t q : Table) : Type 0 where
  pub facts : t.facts ≡ q.facts
  pub actions : t.actions ≡ q.actions
  pub limit : t.limit ≡ q.limit

-- The same record, or none in both: the same test.
same_test : (b c : Bool) (n : ℕ) (l m : List ℕ) → piece b (n ∷ l) ≡ piece c (n ∷ m) → b ≡ c
same_test true true n l m e = refl
same_test false false n l m e = refl
same_test true false n l m e = let longer = ap length e in absurd (omega arith)
same_test false true n l m e = let longer = ap length e in absurd (omega arith)

-- Two numbers with the same numbers below them are one.
same_number : (m n b : ℕ) → m ≤ b → n ≤ b → ((i : ℕ) → i < b → ltb i m ≡ ltb i n) → m ≡ n
same_number m n b l h same =
    by_order m n
    (λ less. let here = ltb-true m m (same m (omega arith) ∙ lt-ltb m n less) in absurd (omega arith))
    (λ most.
    by_order n m (λ less. let here = ltb-true n n (sym (same n (omega arith)) ∙ lt-ltb n m less) in absurd (omega arith)) (λ also. omega arith))

-- The same cell, where the records of its rank are the same.
pub same_cell : (t q : Task) (k a f : ℕ) → CellKind k → a < max_actions → f < byte_room
    → piece_at t (rank 0 k (byte_room * a + f)) ≡ piece_at q (rank 0 k (byte_room * a + f))
    → has (cell_set t.table k a) f ≡ has (cell_set q.table k a) f
unfolding cell_piece
same_cell t q k a f kind l h same =
    let j = byte_room * a + f in
    let action : j / byte_room ≡ a = omega arith in
    let fact : j % byte_room ≡ f = omega arith in
    let shape : (r : Task) → piece_at r (rank 0 k j) ≡ cell_piece r 0 k j =
    λ r. at_rank r 0 k j kind.known (omega (arith, order)) (omega arith) ∙ kind.shape r 0 j in
    let there =
    same_test (has (cell_set t.table k (j / byte_room)) (j % byte_room)) (has (cell_set q.table k (j / byte_room)) (j % byte_room)) k
    (j / byte_room ∷ j % byte_room ∷ []) (j / byte_room ∷ j % byte_room ∷ []) (sym (shape t) ∙ same ∙ shape q) in
    rw (action, fact) at there

module _ (t q : Task) (formed : WellFormed t) (formed' : WellFormed q) (sizes : SameSizes t.table q.table)
    (same : (r : ℕ) → r < ranks → piece_at t r ≡ piece_at q r) where
  same_slots : (i k j : ℕ) → i < max_runs → is_kind k ≡ true → position_of k < position_of end_kind → j < slots
      → slot_piece t i k j ≡ slot_piece q i k j
  same_slots i k j few known l h = sym (at_rank t i k j known l h) ∙ same (rank i k j) (omega (arith, order)) ∙ at_rank q i k j known l h

  same_facts : (i k f : ℕ) → i < max_runs → FactKind k → f < slots → has (fact_set t.runs k i) f ≡ has (fact_set q.runs k i) f
  unfolding fact_piece
  same_facts i k f few kind l =
      same_test (has (fact_set t.runs k i) f) (has (fact_set q.runs k i) f) k (f ∷ []) (f ∷ [])
      (sym (kind.shape t i f) ∙ same_slots i k f few kind.known (omega (arith, order)) l ∙ kind.shape q i f)

  same_cells : (k a f : ℕ) → CellKind k → a < t.table.actions → f < t.table.facts
      → has (cell_set t.table k a) f ≡ has (cell_set q.table k a) f
  same_cells k a f kind l h =
      let few = formed.actions_high in
      let most = formed.facts_high in
      same_cell t q k a f kind (omega arith) (omega arith) (same (rank 0 k (byte_room * a + f)) (omega (arith, order)))

  same_steps : (i j : ℕ) → i < max_runs → j < slots → step_piece t i j ≡ step_piece q i j
  unfolding slot_piece is_kind is_fact_kind is_cell_kind
  same_steps i j few l = same_slots i step_kind j few refl order.end l

  same_runs : (i : ℕ) → i < max_runs → run_piece t i 0 ≡ run_piece q i 0
  unfolding slot_piece is_kind
  same_runs i few = same_slots i run_kind 0 few refl (omega (arith, order)) (omega arith)

  -- ---- the sets

  same_set : (k i : ℕ) → FactKind k → ((i f : ℕ) → t.table.facts ≤ f → has (fact_set t.runs k i) f ≡ false)
      → ((i f : ℕ) → q.table.facts ≤ f → has (fact_set q.runs k i) f ≡ false) → i < max_runs → fact_set t.runs k i ≡ fact_set q.runs k i
  same_set k i kind inside inside' few =
      same_sets (fact_set t.runs k i) (fact_set q.runs k i)
      (λ f.
      by_order f t.table.facts (λ l. let most = formed.facts_high in same_facts i k f few kind (omega arith))
      (λ l. let size = sizes.facts in inside i f l ∙ sym (inside' i f (omega arith))))

  same_cell_set : (k a : ℕ) → CellKind k → cell_set t.table k a ≡ cell_set q.table k a
  same_cell_set k a kind =
      by_order a t.table.actions
      (λ l.
      same_sets (cell_set t.table k a) (cell_set q.table k a)
      (λ f.
      by_order f t.table.facts (same_cells k a f kind l)
      (λ h. let size = sizes.facts in kind.sets.inside t formed a f h ∙ sym (kind.sets.inside q formed' a f (omega arith)))))
      (λ l. let size = sizes.actions in kind.sets.unused t formed a l ∙ sym (kind.sets.unused q formed' a (omega arith)))

  -- ---- the runs

  same_opened : (i : ℕ) → i < max_runs → 0 < i → ltb i t.runs.many ≡ ltb i q.runs.many
  unfolding run_piece
  same_opened i few low =
      let tests = same_test (ltb 0 i && ltb i t.runs.many && true) (ltb 0 i && ltb i q.runs.many && true) run_kind [] [] (same_runs i few) in
      rw (lt-ltb 0 i low, and-true (ltb i t.runs.many), and-true (ltb i q.runs.many)) at tests

  same_many : t.runs.many ≡ q.runs.many
  same_many = same_number t.runs.many q.runs.many max_runs formed.many_high formed'.many_high tests
    where
      tests : (i : ℕ) → i < max_runs → ltb i t.runs.many ≡ ltb i q.runs.many
      tests i few =
          by_order 0 i (same_opened i few)
          (λ first. lt-ltb i t.runs.many (omega (arith, formed.many_low)) ∙ sym (lt-ltb i q.runs.many (omega (arith, formed'.many_low))))

  same_count : (i : ℕ) → i < max_runs → count_of t.runs i ≡ count_of q.runs i
  unfolding step_piece
  same_count i few =
      let most = formed.count_high i in
      let most' = formed'.count_high i in
      same_number (count_of t.runs i) (count_of q.runs i) slots (omega arith) (omega arith)
      (λ j l.
      same_test (ltb j (count_of t.runs i)) (ltb j (count_of q.runs i)) step_kind (step_of t.runs i j ∷ []) (step_of q.runs i j ∷ [])
      (same_steps i j few l))

  same_step : (i j : ℕ) → i < max_runs → j < max_steps → step_of t.runs i j ≡ step_of q.runs i j
  same_step i j few small =
      let count = same_count i few in
      by_order j (count_of t.runs i)
      (λ l. ap (λ (b : List ℕ). get_or b 1 0) (sym (some_step t i j l) ∙ same_steps i j few (omega arith) ∙ some_step q i j (omega arith)))
      (λ l. formed.steps_unused i j l small ∙ sym (formed'.steps_unused i j (omega arith) small))

  pub same_task : t ≡ q
  same_task = λ i. record {
    table = record {
      facts = sizes.facts i;
      actions = sizes.actions i;
      limit = sizes.limit i;
      needs = same_needs i;
      adds = same_adds i;
      deletes = same_deletes i;
      locks = same_locks i;
    };
    runs = record { many = same_many i; starts = same_starts i; goals = same_goals i; counts = same_counts i; steps = all_steps i };
  }
    where
      same_needs : t.table.needs ≡ q.table.needs
      same_needs =
          ext_get_or 0 t.table.needs q.table.needs (formed.shaped.needs ∙ sym formed'.shaped.needs)
          (λ a _. same_cell_set need_kind a need_kind_lem)

      same_adds : t.table.adds ≡ q.table.adds
      same_adds =
          ext_get_or 0 t.table.adds q.table.adds (formed.shaped.adds ∙ sym formed'.shaped.adds)
          (λ a _. same_cell_set add_kind a add_kind_lem)

      same_deletes : t.table.deletes ≡ q.table.deletes
      same_deletes =
          ext_get_or 0 t.table.deletes q.table.deletes (formed.shaped.deletes ∙ sym formed'.shaped.deletes)
          (λ a _. same_cell_set delete_kind a delete_kind_lem)

      same_locks : t.table.locks ≡ q.table.locks
      same_locks =
          ext_get_or 0 t.table.locks q.table.locks (formed.shaped.locks ∙ sym formed'.shaped.locks)
          (λ a _. same_cell_set lock_kind a lock_kind_lem)

      same_starts : t.runs.starts ≡ q.runs.starts
      same_starts =
          ext_get_or 0 t.runs.starts q.runs.starts (formed.shaped.starts ∙ sym formed'.shaped.starts)
          (λ i l. same_set start_kind i start_kind_lem formed.start_inside formed'.start_inside (omega (arith, formed.shaped.starts)))

      same_goals : t.runs.goals ≡ q.runs.goals
      same_goals =
          ext_get_or 0 t.runs.goals q.runs.goals (formed.shaped.goals ∙ sym formed'.shaped.goals)
          (λ i l. same_set goal_kind i goal_kind_lem formed.goal_inside formed'.goal_inside (omega (arith, formed.shaped.goals)))

      same_counts : t.runs.counts ≡ q.runs.counts
      same_counts =
          ext_get_or 0 t.runs.counts q.runs.counts (formed.shaped.counts ∙ sym formed'.shaped.counts)
          (λ i l. same_count i (omega (arith, formed.shaped.counts)))

      all_steps : t.runs.steps ≡ q.runs.steps
      all_steps =
          ext_get_or 0 t.runs.steps q.runs.steps (formed.shaped.steps ∙ sym formed'.shaped.steps)
          (λ p l.
          let place : p ≡ max_steps * (p / max_steps) + p % max_steps = omega arith in
          rw place (same_step (p / max_steps) (p % max_steps) (omega (arith, formed.shaped.steps)) (omega arith)))
