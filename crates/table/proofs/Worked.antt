-- The worked examples hold: each list is computed to work, step by step and fact by fact, or not to. Assumes nothing.
use mathlib.Core.Bool.{Bool, true, ◌&&◌, false≢true}
use mathlib.Core.List.{List, [], ◌∷◌}
use mathlib.Core.Logic.{inl, inr, ⊎_elim}
use mathlib.Core.Path.{◌≡◌, refl, ap, ◌∙◌}
use Prim.Native.Nat.{ℕ}
use native.Mathlib.Omega.{arith}
use Rattle.facts.specs.Sets.{has, removed, within}
use Rattle.table.proofs.DecidingLaws.{is_all_right_lem, is_formed_lem}
use Rattle.table.proofs.FlagLaws.{both, by_order}
use Rattle.table.proofs.CountingLaws.{every_below_all}
use Rattle.table.proofs.Formation.{formed_well}
use Rattle.table.proofs.LockLaws.{locked_stands}
use Rattle.table.proofs.JoinLaws.{formed_inside, right_outside}
use Rattle.table.proofs.OrderLaws.{is_in_none, is_in_cases, ≼_length}
use Rattle.table.proofs.RunLaws.{right_all_valid}
use Rattle.table.specs.Bench.{listing_task, goals_at_start, adds_and_deletes, deletes_the_goal, needs_last_fact}
use Rattle.table.specs.Counting.{every_below}
use Rattle.table.specs.Deciding.{is_right, is_all_right, is_shaped, every_place, is_formed}
use Rattle.table.specs.Order.{Ascending, is_in, ◌≼◌}
use Rattle.table.specs.Repairs.{permits, permitted, chosen, repaired}
use Rattle.table.specs.Strips.{Cells, state_at, AllRight}
use Rattle.table.specs.Tasks.{cells_of, course_of, courses_of, sizes_formed, run_fits, run_formed, mask_formed, action_formed, locks_formed, step_fits, formed, WellFormed, WorksFor}
use Rattle.table.specs.Worked.{two_deletes, two_runs, locked_need, locked_first, Worked}
use Rattle.table.specs.declared.Task.{Task}

-- ---- what computing decides of a list

unfoldable all_permitted : Cells → List ℕ → Bool
all_permitted c [] = true
all_permitted c (n ∷ l) = permitted c n && all_permitted c l

all_permitted_lem : (c : Cells) (l : List ℕ) → all_permitted c l ≡ true → (n : ℕ) → is_in l n ≡ true → permitted c n ≡ true
unfolding all_permitted
all_permitted_lem c [] h n m = absurd (is_in_none n m)
all_permitted_lem c (x ∷ l) h n m =
    let p = both (permitted c x) (all_permitted c l) h in
    ⊎_elim (λ e. ap (permitted c) e ∙ p.0) (all_permitted_lem c l p.1 n) (is_in_cases x l n m)

-- Every fact is right in the table with the list applied, if those of the task are.
abbrev right_with : Task → List ℕ → ℕ → Bool
right_with t l = is_all_right (repaired (cells_of t.table) (is_in l)) (courses_of t)

each_right : (t : Task) (l : List ℕ) → WellFormed t → every_below (right_with t l) t.table.facts ≡ true → (f : ℕ)
    → AllRight (repaired (cells_of t.table) (is_in l)) (courses_of t) f
unfolding cells_of
each_right t l w h f =
    by_order f t.table.facts
    (λ low. is_all_right_lem (repaired (cells_of t.table) (is_in l)) (courses_of t) f (every_below_all (right_with t l) t.table.facts h f low))
    (λ high. right_outside (cells_of t.table) (courses_of t) (formed_inside t w) f high (is_in l))

-- A well-formed task, with arrays of their declared lengths, and a permitted list with which every fact is right.
unfoldable passes : Task → List ℕ → Bool
passes t l = is_formed t && (all_permitted (cells_of t.table) l && every_below (right_with t l) t.table.facts)

works_by : (t : Task) (l : List ℕ) → Ascending l → passes t l ≡ true → WorksFor t l
unfolding passes
works_by t l up h =
    let p = both (is_formed t) _ h in
    let q = is_formed_lem t p.0 in
    let s = both (all_permitted (cells_of t.table) l) (every_below (right_with t l) t.table.facts) p.1 in
    record {
      permitted = record { ascending = up; each = all_permitted_lem (cells_of t.table) l s.0 };
      valid = right_all_valid (repaired (cells_of t.table) (is_in l)) (courses_of t)
          (each_right t l (formed_well t q.0 q.1) s.1);
    }

-- ---- the order

-- Where the empty list is not among them, none comes before the list 0.
zero_first : (G : List ℕ → Type 0) → (G [] → ⊥) → (m : List ℕ) → G m → (0 ∷ []) ≼ m
zero_first G none [] g = absurd (none g)
zero_first G none (y ∷ []) g = by_order 0 y (λ h. inr (inl (h, refl))) (λ h. inr (inr (omega arith, tt)))
zero_first G none (y ∷ z ∷ m) g = inl (omega arith)

later : (32 ∷ []) ≼ (0 ∷ []) → ⊥
later (inl h) = absurd (omega arith)
later (inr (inl h)) = absurd (omega (arith, h.0))
later (inr (inr h)) = absurd (omega (arith, h.0))

-- ---- the theorem

pub worked : Worked
unfolding passes is_formed formed is_shaped sizes_formed run_formed run_fits action_formed mask_formed locks_formed removed step_fits every_place every_below cells_of course_of state_at is_right is_all_right all_permitted permitted permits chosen is_in has within
worked =
    let zero : WorksFor deletes_the_goal (0 ∷ []) = works_by deletes_the_goal (0 ∷ []) (omega arith, tt) refl in
    let none : WorksFor deletes_the_goal [] → ⊥ = λ w. false≢true ((w.valid 0 (omega arith)).reaches 0 refl) in
    let need : WorksFor two_deletes (66 ∷ []) = works_by two_deletes (66 ∷ []) (omega arith, tt) refl in
    record {
      refusals = refl;
      numbers = (refl, refl, refl, refl);
      permits_7 = refl;
      permits_6 = refl;
      permits_need = refl;
      row_2 = (
        works_by listing_task (97 ∷ 224 ∷ []) (omega arith, (omega arith, tt)) refl,
        λ w. false≢true ((w.valid 0 (omega arith)).may_run 2 (omega arith) 2 refl),
        λ w. false≢true ((w.valid 0 (omega arith)).may_run 2 (omega arith) 1 refl),
      );
      row_4 = works_by goals_at_start [] tt refl;
      row_5 = λ m w. false≢true ((w.valid 0 (omega arith)).reaches 0 refl);
      row_6 = works_by adds_and_deletes [] tt refl;
      row_7 = (
        (record { member = zero; least = zero_first (WorksFor deletes_the_goal) none }, omega arith),
        works_by deletes_the_goal (32 ∷ []) (omega arith, tt) refl,
        later,
      );
      row_7_over = ((0 ∷ [], zero), λ m w. ≼_length (0 ∷ []) m (zero_first (WorksFor deletes_the_goal) none m w));
      row_8 = (
        works_by needs_last_fact (6112 ∷ []) (omega arith, tt) refl,
        λ w. false≢true ((w.valid 0 (omega arith)).may_run 0 (omega arith) 63 refl),
      );
      inclusion = (
        works_by two_deletes (0 ∷ 1 ∷ []) (omega arith, (omega arith, tt)) refl,
        λ w. false≢true ((w.valid 0 (omega arith)).may_run 3 (omega arith) 0 refl),
        λ w. false≢true ((w.valid 0 (omega arith)).may_run 1 (omega arith) 0 refl),
      );
      number = (need, λ p. absurd (omega (arith, ≼_length (0 ∷ 1 ∷ []) (66 ∷ []) (p.least (66 ∷ []) need))));
      both_runs = (
        works_by two_runs (32 ∷ []) (omega arith, tt) refl,
        λ w. false≢true ((w.valid 1 (omega arith)).reaches 0 refl),
      );
      permits_locked = refl;
      locked = (
        works_by locked_need (0 ∷ 1 ∷ []) (omega arith, (omega arith, tt)) refl,
        λ w. false≢true (w.permitted.each 66 refl),
      );
      locked_first = λ m w.
          false≢true
          ((w.valid 0 (omega arith)).may_run 0 (omega arith) 63
          (locked_stands (cells_of locked_first.table) m w.permitted.each 0 63 refl refl));
      stray_lock = refl;
    }
