-- Worked examples: rows of document 01's bench sheet and a case of 02's request 1, said of the definitions alone (Refusals, Strips, Repairs, Order, Answer), with no code
-- and no search. They hold (proofs/Worked), and a definition that says something else than 01 breaks one of them.
use Rattle.std.specs.Prelude.{Bool, true, false, List, [], ◌∷◌, map, ◌≡◌, ℕ, ◌^◌}
use Rattle.table.specs.Answer.{First, found, over, hopeless, Within}
use Rattle.table.specs.Bench.{task, second_run, locking, listing_task, goals_at_start, goal_out_of_reach, adds_and_deletes, deletes_the_goal, needs_last_fact}
use Rattle.table.specs.Order.{◌≼◌}
use Rattle.table.specs.Refusals.{accepted, no_end, unknown_kind, sizes_misplaced, size_outside, number_outside, not_ascending, too_many_steps, bytes_after_end, no_list_works, over_the_limit, room_too_short, not_well_formed, not_a_session, not_there, list_not_permitted, too_many_runs, lock_without_need}
use Rattle.table.specs.Repairs.{drop_delete, add_effect, drop_need, number_of, permitted}
use Rattle.table.specs.Sizes.{max_limit}
use Rattle.table.specs.Tasks.{cells_of, formed, WorksFor}
use Rattle.table.specs.declared.Task.{Task}

-- "Shortest for inclusion taken for shortest in number": actions 0 and 1 delete fact 0, action 2 needs it, steps 0, 2, 1, 2, start 0.
abbrev pub two_deletes : Task
two_deletes = task 1 3 max_limit (0 ∷ 0 ∷ 0b1 ∷ []) [] (0b1 ∷ 0b1 ∷ []) 0b1 0 (0 ∷ 2 ∷ 1 ∷ 2 ∷ [])

-- "A table cured for our short run broke the long one" (02, request 1), at its smallest: row 7, and a second run that starts without fact 0.
abbrev pub two_runs : Task
two_runs = second_run deletes_the_goal 0 0b1 (0 ∷ [])

-- "Some needs guard the laser shutter, and no list may drop them" (02, request 6): `two_deletes` with action 2's need locked, and row 8 with its
-- need locked; row 7 with a lock on what is no need.
abbrev pub locked_need : Task
locked_need = locking two_deletes (0 ∷ 0 ∷ 0b1 ∷ [])

abbrev pub locked_first : Task
locked_first = locking needs_last_fact (2 ^ 63 ∷ [])

abbrev pub stray_lock : Task
stray_lock = locking deletes_the_goal (0b1 ∷ [])

-- Which of these numbers name a permitted repair of the task.
abbrev pub permits_each : Task → List ℕ → List Bool
permits_each t = map (permitted (cells_of t.table))

pub record Worked : Type 0 where
  -- The names of Refusals are the rows of 01's table of refusals, 1 to 15, after success; and 02's.
  pub refusals :
      (accepted ∷ no_end ∷ unknown_kind ∷ sizes_misplaced ∷ size_outside ∷ number_outside ∷ not_ascending ∷ too_many_steps ∷ bytes_after_end ∷ no_list_works ∷
      over_the_limit ∷ room_too_short ∷ not_well_formed ∷ not_a_session ∷ not_there ∷ list_not_permitted ∷ too_many_runs ∷ lock_without_need ∷ [])
      ≡ (0 ∷ 1 ∷ 2 ∷ 3 ∷ 4 ∷ 5 ∷ 6 ∷ 7 ∷ 8 ∷ 9 ∷ 10 ∷ 11 ∷ 12 ∷ 13 ∷ 14 ∷ 15 ∷ 16 ∷ 18 ∷ [])
  -- "The number of a repair is 96f + 32k + a, from 0 to 6143": the numbers of rows 2 and 8, and the last
  pub numbers : (number_of 1 drop_delete 1 ≡ 97) × (number_of 2 add_effect 0 ≡ 224) × (number_of 63 drop_need 0 ≡ 6112) × (number_of 63 drop_need 31 ≡ 6143)
  -- Permitted by kind: 0, 32, 64 are the three repairs of fact 0 and action 0. Row 7's action deletes the fact, row 6's adds it too. Action
  -- 1 (1) and fact 1 (96) are not in row 7's task. Action 2 of `two_deletes` needs the fact (2, 34, 66).
  pub permits_7 : permits_each deletes_the_goal (0 ∷ 32 ∷ 64 ∷ 1 ∷ 96 ∷ []) ≡ (true ∷ true ∷ false ∷ false ∷ false ∷ [])
  pub permits_6 : permits_each adds_and_deletes (0 ∷ 32 ∷ 64 ∷ []) ≡ (true ∷ false ∷ false ∷ [])
  pub permits_need : permits_each two_deletes (2 ∷ 34 ∷ 66 ∷ []) ≡ (false ∷ true ∷ true ∷ [])
  -- 2. "list 97, 224": it works, and neither number does alone.
  pub row_2 : WorksFor listing_task (97 ∷ 224 ∷ []) × (WorksFor listing_task (97 ∷ []) → ⊥) × (WorksFor listing_task (224 ∷ []) → ⊥)
  -- 4. "No steps, goals within start: empty list." 5. "No steps, goal 0, empty start: 9": nothing works.
  pub row_4 : WorksFor goals_at_start []
  pub row_5 : Within (WorksFor goal_out_of_reach) max_limit hopeless
  -- 6. Add wins: "empty list".
  pub row_6 : WorksFor adds_and_deletes []
  -- 7. "list 0 (32 works too, and comes later)"; within the limit 1, and over the limit 0.
  pub row_7 : Within (WorksFor deletes_the_goal) 1 (found (0 ∷ [])) × WorksFor deletes_the_goal (32 ∷ []) × ((32 ∷ []) ≼ (0 ∷ []) → ⊥)
  pub row_7_over : Within (WorksFor deletes_the_goal) 0 over
  -- 8. "list 6112". An action's own effect comes after its need: 6080 does not work.
  pub row_8 : WorksFor needs_last_fact (6112 ∷ []) × (WorksFor needs_last_fact (6080 ∷ []) → ⊥)
  -- 0, 1 works and no part of it does; but 66 works too and is shorter, so that 0, 1 is not the answer.
  pub inclusion : WorksFor two_deletes (0 ∷ 1 ∷ []) × (WorksFor two_deletes (0 ∷ []) → ⊥) × (WorksFor two_deletes (1 ∷ []) → ⊥)
  pub number : WorksFor two_deletes (66 ∷ []) × (First (WorksFor two_deletes) (0 ∷ 1 ∷ []) → ⊥)
  -- Row 7's list, 0, is not enough for both runs; 32 is, and the second run alone is what 0 leaves refused.
  pub both_runs : WorksFor two_runs (32 ∷ []) × (WorksFor two_runs (0 ∷ []) → ⊥)
  -- A locked need is not dropped: 66 is out, and 0, 1 works as before. At a first step nothing else helps, so that nothing works. A lock on a
  -- cell that isn't a need: not well formed.
  pub permits_locked : permits_each locked_need (2 ∷ 34 ∷ 66 ∷ []) ≡ (false ∷ true ∷ false ∷ [])
  pub locked : WorksFor locked_need (0 ∷ 1 ∷ []) × (WorksFor locked_need (66 ∷ []) → ⊥)
  pub locked_first : Within (WorksFor locked_first) max_limit hopeless
  pub stray_lock : formed stray_lock ≡ false
