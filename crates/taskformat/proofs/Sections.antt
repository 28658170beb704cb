-- The file of a well-formed task is its records gathered by rank, and the end: section by section, run by run. Assumes nothing.
use mathlib.Core.Bool.{false, ◌&&◌, and-false}
use mathlib.Core.List.{List, [], ◌∷◌, ◌++◌, append_assoc, append-nil}
use mathlib.Core.Path.{◌≡◌, refl, ap, ◌∙◌}
use Prim.Native.Nat.{ℕ, suc, ◌+◌, ◌-◌, ◌*◌, ◌/◌, ◌%◌, ◌<◌, ◌≤◌}
use native.Mathlib.Omega.{arith}
use lib.Dec.{ltb}
use lib.ListN.{get_or}
use borrow.Author.Tests.{ne_eqb}
use Rattle.facts.specs.Sets.{has}
use Rattle.facts.proofs.Laws.{has_empty}
use Rattle.table.proofs.Formation.{locks_inside, locks_unused}
use Rattle.table.specs.Lists.{gather, piece}
use Rattle.table.specs.Sizes.{max_actions, max_runs}
use Rattle.table.specs.Tasks.{start_of, goal_of, count_of, step_of, WellFormed}
use Rattle.table.specs.declared.Task.{Task}
use Rattle.taskformat.specs.Format.{sizes_kind, run_kind, start_kind, goal_kind, need_kind, add_kind, delete_kind, lock_kind, step_kind, end_kind, no_kind, is_cell_kind, is_fact_kind, kind_in, fact_records, cell_records, step_records, set_records, further_run, file_of}
use Rattle.taskformat.specs.Reading.{byte_room}
use Rattle.table.proofs.GatherLaws.{gather_same, gather_digits, gather_more, gather_zero, gather_one}
use Rattle.taskformat.proofs.PositionLaws.{positions, in_order}
use Rattle.taskformat.proofs.Ranks.{slots, ranks, sizes_record, sizes_piece, run_piece, fact_piece, cell_piece, slot_piece, piece_at, some_run, no_run, some_step, no_step, gather_up_to}

module _ (t : Task) (formed : WellFormed t) where
  -- The records of kind k of run i; and all records of run i.
  abbrev section : ℕ → ℕ → List ℕ
  section i k = gather (slot_piece t i k) slots

  abbrev run_section : ℕ → List ℕ
  run_section i = gather (λ p. section i (kind_in p)) positions

  -- ---- the sections of a run

  -- One record at most, at place 0.
  one_section : (i k : ℕ) (l : List ℕ) → slot_piece t i k 0 ≡ l → ((j : ℕ) → 0 < j → slot_piece t i k j ≡ []) → section i k ≡ l
  one_section i k l first none =
      gather_up_to (slot_piece t i k) 1 slots (omega arith) (λ j h. none j (omega arith)) ∙ gather_one (slot_piece t i k) ∙ first

  empty_section : (i k : ℕ) → ((j : ℕ) → slot_piece t i k j ≡ []) → section i k ≡ []
  empty_section i k none = one_section i k [] (none 0) (λ j _. none j)

  sizes_section : section 0 sizes_kind ≡ sizes_record t.table
  unfolding slot_piece sizes_piece
  sizes_section = one_section 0 sizes_kind (sizes_record t.table) refl (λ j l. rw (ne_eqb j 0 (omega arith)))

  run_section_lem : (i : ℕ) → 0 < i → i < t.runs.many → section i run_kind ≡ run_kind ∷ []
  unfolding slot_piece run_piece
  run_section_lem i low l =
      one_section i run_kind (run_kind ∷ []) (some_run t i low l)
      (λ j h. rw (ne_eqb j 0 (omega arith), and-false (ltb 0 i && ltb i t.runs.many)))

  fact_section : (i k m : ℕ) → ((j : ℕ) → slot_piece t i k j ≡ piece (has m j) (k ∷ j ∷ []))
      → ((f : ℕ) → t.table.facts ≤ f → has m f ≡ false) → section i k ≡ fact_records k t.table.facts m
  unfolding fact_records
  fact_section i k m shape inside =
      gather_up_to (slot_piece t i k) t.table.facts slots (omega arith) (λ j l. shape j ∙ rw (inside j l))
      ∙ gather_same (slot_piece t i k) (λ f. piece (has m f) (k ∷ f ∷ [])) t.table.facts (λ j _. shape j)

  cell_section : (k : ℕ) (sets : List ℕ)
      → ((j : ℕ) → slot_piece t 0 k j ≡ piece (has (get_or sets (j / byte_room) 0) (j % byte_room)) (k ∷ j / byte_room ∷ j % byte_room ∷ []))
      → ((a f : ℕ) → t.table.facts ≤ f → has (get_or sets a 0) f ≡ false) → ((a : ℕ) → t.table.actions ≤ a → get_or sets a 0 ≡ 0)
      → section 0 k ≡ cell_records k t.table.facts t.table.actions sets
  unfolding cell_records
  cell_section k sets shape inside unused =
      gather_same (slot_piece t 0 k) (λ j. cell (j / byte_room) (j % byte_room)) slots (λ j _. shape j)
      ∙ gather_digits cell max_actions byte_room
      ∙ gather_same (λ a. gather (cell a) byte_room) (λ a. gather (cell a) t.table.facts) max_actions
      (λ a _. gather_up_to (cell a) t.table.facts byte_room (omega arith) (λ f l. rw (inside a f l)))
      ∙ gather_up_to (λ a. gather (cell a) t.table.facts) t.table.actions max_actions (omega arith)
      (λ a l. gather_up_to (cell a) 0 t.table.facts (omega arith) (λ f _. rw (unused a l, has_empty f)) ∙ gather_zero (cell a))
    where
      cell : ℕ → ℕ → List ℕ
      cell a f = piece (has (get_or sets a 0) f) (k ∷ a ∷ f ∷ [])

  step_section : (i : ℕ) → section i step_kind ≡ step_records t.runs i
  unfolding step_records slot_piece is_fact_kind is_cell_kind
  step_section i =
      let most = formed.count_high i in
      gather_up_to (slot_piece t i step_kind) (count_of t.runs i) slots (omega arith) (no_step t i)
      ∙ gather_same (slot_piece t i step_kind) (λ j. step_kind ∷ step_of t.runs i j ∷ []) (count_of t.runs i) (some_step t i)

  start_section : (i : ℕ) → section i start_kind ≡ fact_records start_kind t.table.facts (start_of t.runs i)
  unfolding slot_piece is_fact_kind fact_piece
  start_section i = fact_section i start_kind (start_of t.runs i) (λ j. refl) (formed.start_inside i)

  goal_section : (i : ℕ) → section i goal_kind ≡ fact_records goal_kind t.table.facts (goal_of t.runs i)
  unfolding slot_piece is_fact_kind fact_piece
  goal_section i = fact_section i goal_kind (goal_of t.runs i) (λ j. refl) (formed.goal_inside i)

  no_section : (i : ℕ) → section i no_kind ≡ []
  unfolding slot_piece is_fact_kind is_cell_kind
  no_section i = empty_section i no_kind (λ j. refl)

  -- A further run has no sizes and no cells.
  no_sizes : (i : ℕ) → 0 < i → section i sizes_kind ≡ []
  unfolding slot_piece sizes_piece
  no_sizes i low = empty_section i sizes_kind (λ j. rw (ne_eqb i 0 (omega arith)))

  no_cells : (i k : ℕ) → 0 < i → ((j : ℕ) → slot_piece t i k j ≡ cell_piece t i k j) → section i k ≡ []
  unfolding cell_piece
  no_cells i k low shape = empty_section i k (λ j. shape j ∙ rw (ne_eqb i 0 (omega arith)))

  -- ---- run by run

  by_kinds : (i : ℕ) → run_section i ≡
      section i no_kind ++ section i sizes_kind ++ section i run_kind ++ section i start_kind ++ section i goal_kind ++
      section i need_kind ++ section i add_kind ++ section i delete_kind ++ section i lock_kind ++ section i step_kind
  by_kinds i = in_order (λ k. section i k)

  abbrev cells : ℕ → List ℕ → List ℕ
  cells k sets = cell_records k t.table.facts t.table.actions sets

  first_section : run_section 0 ≡
      sizes_record t.table ++ set_records t 0 ++ cells need_kind t.table.needs ++ cells add_kind t.table.adds ++
      cells delete_kind t.table.deletes ++ cells lock_kind t.table.locks ++ step_records t.runs 0
  unfolding set_records slot_piece is_fact_kind is_cell_kind cell_piece
  first_section =
      by_kinds 0
      ∙ rw (
        no_section 0,
        sizes_section,
        empty_section 0 run_kind (λ j. no_run t 0 j (λ l. absurd (omega arith))),
        start_section 0,
        goal_section 0,
        cell_section need_kind t.table.needs (λ j. refl) (formed.inside 2) (formed.actions_unused 2),
        cell_section add_kind t.table.adds (λ j. refl) (formed.inside 1) (formed.actions_unused 1),
        cell_section delete_kind t.table.deletes (λ j. refl) (formed.inside 0) (formed.actions_unused 0),
        cell_section lock_kind t.table.locks (λ j. refl) (locks_inside t formed) (locks_unused t formed),
        step_section 0,
      )
      (ap (λ (l : List ℕ). l ++ cells need_kind t.table.needs ++ cells add_kind t.table.adds ++ cells delete_kind t.table.deletes ++ cells lock_kind t.table.locks ++ step_records t.runs 0)
      (append_assoc (sizes_record t.table) (fact_records start_kind t.table.facts (start_of t.runs 0)) (fact_records goal_kind t.table.facts (goal_of t.runs 0))))

  -- What a further run has beside what opens it.
  later_section : (i : ℕ) → 0 < i → run_section i ≡ section i run_kind ++ set_records t i ++ step_records t.runs i
  unfolding set_records slot_piece is_fact_kind is_cell_kind
  later_section i low =
      by_kinds i
      ∙ rw (
        no_section i,
        no_sizes i low,
        start_section i,
        goal_section i,
        no_cells i need_kind low (λ j. refl),
        no_cells i add_kind low (λ j. refl),
        no_cells i delete_kind low (λ j. refl),
        no_cells i lock_kind low (λ j. refl),
        step_section i,
      )
      (simp (append_assoc, append-nil))

  further_section : (i : ℕ) → 0 < i → i < t.runs.many → run_section i ≡ further_run t i
  unfolding further_run
  further_section i low l = later_section i low ∙ rw (run_section_lem i low l)

  unused_section : (i : ℕ) → t.runs.many ≤ i → run_section i ≡ []
  unfolding set_records fact_records step_records slot_piece
  unused_section i past =
      later_section i (omega (arith, formed.many_low))
      ∙ rw (
        empty_section i run_kind (λ j. no_run t i j (λ _. past)),
        formed.start_unused i past,
        formed.goal_unused i past,
        formed.count_unused i past,
        no_facts start_kind,
        no_facts goal_kind,
      )
      (gather_zero (λ j. step_kind ∷ step_of t.runs i j ∷ []))
    where
      no_facts : (k : ℕ) → gather (λ f. piece (has 0 f) (k ∷ f ∷ [])) t.table.facts ≡ []
      no_facts k =
          gather_up_to (λ f. piece (has 0 f) (k ∷ f ∷ [])) 0 t.table.facts (omega arith) (λ f _. rw (has_empty f))
          ∙ gather_zero (λ f. piece (has 0 f) (k ∷ f ∷ []))

  by_runs : gather (piece_at t) ranks ≡ run_section 0 ++ gather (λ i. further_run t (suc i)) (t.runs.many - 1)
  by_runs =
      let some : t.runs.many ≡ 1 + (t.runs.many - 1) = omega (arith, formed.many_low) in
      gather_digits (λ line. slot_piece t (line / positions) (kind_in (line % positions))) (max_runs * positions) slots
      ∙ gather_digits (λ i p. section i (kind_in p)) max_runs positions
      ∙ gather_up_to run_section t.runs.many max_runs formed.many_high unused_section
      ∙ ap (gather run_section) some
      ∙ gather_more run_section 1 (t.runs.many - 1)
      ∙ rw (gather_one run_section)
      (ap (λ (l : List ℕ). run_section 0 ++ l)
      (gather_same (λ i. run_section (1 + i)) (λ i. further_run t (suc i)) (t.runs.many - 1)
      (λ i l. let next : 1 + i ≡ suc i = omega arith in rw next (further_section (suc i) (omega arith) (omega arith)))))

  pub file_by_rank : file_of t ≡ gather (piece_at t) ranks ++ (end_kind ∷ [])
  unfolding file_of
  file_by_rank = rw (by_runs, first_section)
