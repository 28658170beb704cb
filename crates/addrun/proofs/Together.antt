-- A well-formed task comes back without its locks: its table without them, and its runs put to it one after another, each accepted. Assumes
-- nothing.
use mathlib.Core.Bool.{false, true≢false}
use mathlib.Core.Path.{◌≡◌, refl, sym, ap, ◌∙◌, subst}
use Prim.Native.Nat.{ℕ, zero, suc, ◌+◌, ◌-◌, ◌*◌, ◌/◌, ◌<◌, ◌≤◌}
use native.Mathlib.Nat.{le_refl}
use native.Mathlib.Numerals.{add-one}
use native.Mathlib.Omega.{arith}
use lib.ListN.{length, get_or, drop, length-drop, length-replicate}
use lib.Seq.{sets, length-take-le, get_or-take, get_or-drop}
use Rattle.facts.specs.Sets.{has}
use Rattle.facts.proofs.Laws.{has_empty}
use Rattle.table.proofs.FlagLaws.{by_order}
use Rattle.table.proofs.Formation.{well_formed}
use Rattle.table.proofs.RunLaws.{same_course_refl, valid_all_right, right_all_valid, all_right_same}
use Rattle.table.specs.Sizes.{max_actions, max_runs, max_steps, all_steps}
use Rattle.table.specs.Strips.{AllValid}
use Rattle.table.specs.Tasks.{cells_of, courses_of, start_of, goal_of, count_of, step_of, unlocked, unlocked_task, WellFormed}
use Rattle.table.specs.declared.Runs.{Runs}
use Rattle.table.specs.declared.Table.{Table}
use Rattle.table.specs.declared.Task.{Task}
use Rattle.taskformat.specs.Reading.{accepted_read}
use Rattle.addrun.specs.Adding.{with_run, run_added, steps_of, built}
use Rattle.addrun.proofs.AddingLaws.{accepted_out}
use Rattle.addrun.proofs.Fronts.{Front, front_none, front_set, front_sets, front_further, front_all, front_each}

-- r has the first n runs of t, and nothing of the others.
record FirstRuns (t : Task) (n : ℕ) (r : Runs) : Type 0 where
  many : r.many ≡ n
  starts : Front t.runs.starts r.starts n
  goals : Front t.runs.goals r.goals n
  counts : Front t.runs.counts r.counts n
  steps : Front t.runs.steps r.steps (max_steps * n)

module _ (t : Task) (w : WellFormed t) where
  -- ---- the steps of run i, as they are passed

  steps_length : (i : ℕ) → i < max_runs → length (steps_of t i) ≡ count_of t.runs i
  unfolding steps_of
  steps_length i l =
      let p = max_steps * i in
      length-take-le (count_of t.runs i) (drop p t.runs.steps) (omega (arith, length-drop p t.runs.steps, w.shaped.steps, w.count_high i))

  steps_at_lem : (i j : ℕ) → j < count_of t.runs i → get_or (steps_of t i) j 0 ≡ step_of t.runs i j
  unfolding steps_of
  steps_at_lem i j l =
      get_or-take (count_of t.runs i) (drop (max_steps * i) t.runs.steps) j 0 l ∙ get_or-drop (max_steps * i) t.runs.steps j 0

  -- a place of run i from its number of steps on is zero
  steps_none : (i p : ℕ) → max_steps * i + count_of t.runs i ≤ p → p < max_steps * suc i → get_or t.runs.steps p 0 ≡ 0
  steps_none i p h l =
      let e : max_steps * i + (p - max_steps * i) ≡ p = omega arith in
      ap (λ (q : ℕ). get_or t.runs.steps q 0) (sym e) ∙ w.steps_unused i (p - max_steps * i) (omega arith) (omega arith)

  -- ---- one run more

  first_none : FirstRuns t 0 (built t 0).runs
  unfolding built
  first_none = record {
    many = refl;
    starts = front_none t.runs.starts max_runs w.shaped.starts;
    goals = front_none t.runs.goals max_runs w.shaped.goals;
    counts = front_none t.runs.counts max_runs w.shaped.counts;
    steps = front_none t.runs.steps all_steps w.shaped.steps;
  }

  first_more : (i : ℕ) (u : Task) → i < t.runs.many → FirstRuns t i u.runs
      → FirstRuns t (suc i) (with_run u (start_of t.runs i) (goal_of t.runs i) (steps_of t i)).runs
  unfolding with_run
  first_more i u l f =
      let count = steps_length i (omega (arith, w.many_high)) in
      rw f.many (record {
        many = add-one i;
        starts = front_set t.runs.starts u.runs.starts i (start_of t.runs i) (omega (arith, w.shaped.starts)) refl f.starts;
        goals = front_set t.runs.goals u.runs.goals i (goal_of t.runs i) (omega (arith, w.shaped.goals)) refl f.goals;
        counts = front_set t.runs.counts u.runs.counts i (length (steps_of t i)) (omega (arith, w.shaped.counts)) count f.counts;
        steps =
            front_further t.runs.steps (sets u.runs.steps (max_steps * i) (steps_of t i)) (max_steps * i + length (steps_of t i)) (max_steps * suc i) (omega (arith, w.count_high i))
            (λ p h. steps_none i p (omega arith))
            (front_sets t.runs.steps (steps_of t i) u.runs.steps (max_steps * i) (omega (arith, w.count_high i, w.shaped.steps))
            (λ j m. steps_at_lem i j (omega arith)) f.steps);
      })

  first_built : (i : ℕ) → i ≤ t.runs.many → FirstRuns t i (built t i).runs
  unfolding built
  first_built zero l = first_none
  first_built (suc i) l = first_more i (built t i) l (first_built i (omega arith))

  -- ---- the first runs, at least one, make a well-formed task: of no lock is asked that it is on a need

  no_lock : (a f : ℕ) → (cells_of (unlocked t.table)).locks a f ≡ false
  unfolding cells_of
  no_lock a f = rw ((front_none t.table.locks max_actions w.shaped.locks).after a (omega arith)) (has_empty f)

  first_well : (n : ℕ) (r : Runs) → 0 < n → n ≤ t.runs.many → FirstRuns t n r
      → WellFormed (record { table = unlocked t.table; runs = r })
  first_well n r low high f = record {
    shaped = record {
      needs = w.shaped.needs;
      adds = w.shaped.adds;
      deletes = w.shaped.deletes;
      locks = length-replicate {A = ℕ} max_actions 0;
      starts = f.starts.size ∙ w.shaped.starts;
      goals = f.goals.size ∙ w.shaped.goals;
      counts = f.counts.size ∙ w.shaped.counts;
      steps = f.steps.size ∙ w.shaped.steps;
    };
    facts_low = w.facts_low;
    facts_high = w.facts_high;
    actions_low = w.actions_low;
    actions_high = w.actions_high;
    limit_high = w.limit_high;
    many_low = omega (arith, f.many);
    many_high = omega (arith, f.many, w.many_high);
    count_high = λ i. front_each t.runs.counts r.counts n (λ c. c ≤ max_steps) i (omega arith) (w.count_high i) f.counts;
    inside = w.inside;
    locks_needs = λ a f locked. absurd (true≢false (sym locked ∙ no_lock a f));
    start_inside = λ i g l.
        front_each t.runs.starts r.starts n (λ m. has m g ≡ false) i (has_empty g) (w.start_inside i g l) f.starts;
    goal_inside = λ i g l. front_each t.runs.goals r.goals n (λ m. has m g ≡ false) i (has_empty g) (w.goal_inside i g l) f.goals;
    steps_below = λ i j l.
        by_order i n
        (λ m.
        let count = f.counts.before i m in
        let step = f.steps.before (max_steps * i + j) (omega (arith, w.count_high i)) in
        omega (arith, step, w.steps_below i j (omega arith)))
        (λ m. absurd (omega (arith, f.counts.after i m)));
    actions_unused = w.actions_unused;
    start_unused = λ i l. f.starts.after i (omega (arith, f.many));
    goal_unused = λ i l. f.goals.after i (omega (arith, f.many));
    count_unused = λ i l. f.counts.after i (omega (arith, f.many));
    steps_unused = λ i j l small.
        by_order i n
        (λ m. f.steps.before (max_steps * i + j) (omega arith) ∙ w.steps_unused i j (omega (arith, f.counts.before i m)) small)
        (λ m. f.steps.after (max_steps * i + j) (omega arith));
  }

  -- ---- so does what is built, from its first run on

  same_table : (i : ℕ) → (built t i).table ≡ unlocked t.table
  unfolding built with_run
  same_table zero = refl
  same_table (suc i) = same_table i

  built_well : (i : ℕ) → i < t.runs.many → WellFormed (built t (suc i))
  built_well i l =
      let n = suc i in
      subst (λ (b : Table). WellFormed (record { table = b; runs = (built t n).runs })) (sym (same_table n))
      (first_well n (built t n).runs (omega arith) l (first_built n l))

  -- ---- each run is accepted, and after the last one the task without its locks is there

  pub accepted_each : (i : ℕ) → i < t.runs.many
      → run_added (built t i) (start_of t.runs i) (goal_of t.runs i) (steps_of t i) ≡ accepted_read (built t (suc i))
  unfolding built
  accepted_each i l =
      sym
      (accepted_out (built t i) (start_of t.runs i) (goal_of t.runs i) (steps_of t i) (built t (suc i)) refl
      (well_formed (built t (suc i)) (built_well i l)))

  pub together : built t t.runs.many ≡ unlocked_task t
  together = λ k. record {
    table = same_table n k;
    runs = record {
      many = f.many k;
      starts = front_all t.runs.starts r.starts n w.start_unused f.starts k;
      goals = front_all t.runs.goals r.goals n w.goal_unused f.goals k;
      counts = front_all t.runs.counts r.counts n w.count_unused f.counts k;
      steps = front_all t.runs.steps r.steps (max_steps * n) unused f.steps k;
    };
  }
    where
      n : ℕ
      n = t.runs.many

      r : Runs
      r = (built t n).runs

      f : FirstRuns t n r
      f = first_built n (le_refl n)

      unused : (p : ℕ) → max_steps * n ≤ p → get_or t.runs.steps p 0 ≡ 0
      unused p h =
          let i = p / max_steps in
          steps_none i p (omega (arith, w.count_unused i (omega arith))) (omega arith)

  -- Without its locks a well-formed task is one too.
  pub unlocked_well : WellFormed (unlocked_task t)
  unlocked_well =
      let last = t.runs.many - 1 in
      let all : suc last ≡ t.runs.many = omega (arith, w.many_low) in
      subst WellFormed (ap (built t) all ∙ together) (built_well last (omega arith))

-- A run does not look at locks: those that are valid in a table are valid in what comes back.
pub unlocked_valid : (t : Task) → AllValid (cells_of t.table) (courses_of t) → AllValid (cells_of (unlocked t.table)) (courses_of t)
unfolding cells_of
unlocked_valid t valid =
    let rs = courses_of t in
    let c = cells_of t.table in
    let d = cells_of (unlocked t.table) in
    right_all_valid d rs
    (λ f.
    all_right_same f rs rs c d (λ i h. record { needs = λ j l. refl; adds = λ j l. refl; deletes = λ j l. refl })
    (record { many = refl; each = λ i h. same_course_refl f (rs.course i) }) (valid_all_right c rs valid f))
