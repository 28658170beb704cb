-- Reading a text gives one thing only: what was written comes back, of a table all but its locks, a text is accepted exactly if it is the text of
-- some table (of some run), one that is cut is refused at its length, and a good one with a tail at the length of the good one. Assumes nothing.
use mathlib.Core.List.{List, ◌++◌}
use mathlib.Core.Logic.{◌⊎◌, inl, inr}
use mathlib.Core.Path.{◌≡◌, refl, sym, ap, ◌∙◌}
use Prim.Native.Nat.{ℕ, ◌<◌, ◌≤◌}
use native.Mathlib.Omega.{arith}
use lib.ListN.{length, replicate}
use Rattle.table.specs.Refusals.{accepted, not_the_layout}
use Rattle.table.specs.Sizes.{max_facts, max_actions}
use Rattle.table.specs.Tasks.{WellFormed, start_of, goal_of, unlocked}
use Rattle.table.specs.declared.Table.{Table}
use Rattle.table.specs.declared.Task.{Task}
use Rattle.table.specs.declared.TaskReply.{TaskReply}
use Rattle.taskformat.specs.Reading.{accepted_read, refused_read}
use Rattle.layout.specs.Beginnings.{Longest}
use Rattle.layout.specs.Layouts.{Says}
use Rattle.layout.proofs.Exact.{said_once}
use Rattle.layout.proofs.Places.{longest_once, same_longest, cut_longest, tail_longest, no_longer}
use Rattle.pddl.specs.Texts.{domain_text, problem_text}
use Rattle.pddl.specs.Readings.{Domain, IsDomain, without_runs, ReadsDomain, domain, Problem, IsProblem, refused_problem, accepted_problem, ReadsProblem, no_size, problem}
use Rattle.pddl.specs.Readings as readings
use Rattle.pddl.specs.Trees.{domain_tree, problem_tree, a_run}
use Rattle.pddl.specs.declared.ProblemReply.{ProblemReply}
use Rattle.pddl.proofs.DomainTexts.{domain_made}
use Rattle.pddl.proofs.ProblemTexts.{problem_made}
use Rattle.pddl.proofs.ClearTrees.{clear_domain, clear_problem}
use Rattle.pddl.proofs.Walked.{table_said, start_said, goal_said, domain_text_lem, text_domain, problem_text_lem, text_problem}

-- ---- the domain

-- "the PDDL texts don't carry locks" (02, request 6): a table's text is that of the table without its locks, and so tables that differ in locks
-- alone have the same text.
pub unlocked_text : (t : Table) → domain_text t ≡ domain_text (unlocked t)
unfolding domain_text
unlocked_text t = refl

module _ {limit : ℕ} where
  -- A text says one table, but for the locks.
  pub same_table : (t q : Table) → Domain limit t → Domain limit q → domain_text t ≡ domain_text q → unlocked t ≡ unlocked q
  same_table t q d e h =
      table_said
      (said_once (domain_tree limit) (clear_domain limit) (domain_made limit t d)
      (rw h (domain_made limit q e)))

  pub reads_domain_once : {s : List ℕ} {r q : TaskReply} → ReadsDomain s limit r → ReadsDomain s limit q → r ≡ q
  reads_domain_once (domain t d e p) (domain u f g q) =
      p ∙ ap (λ (x : Table). accepted_read (without_runs x)) (same_table t u d f (sym e ∙ g)) ∙ sym q
  reads_domain_once (domain t d e p) (readings.ReadsDomain.outside n never l q) = absurd (never (record { table = t; fits = d; text = e }))
  reads_domain_once (readings.ReadsDomain.outside n never l p) (domain u f g q) = absurd (never (record { table = u; fits = f; text = g }))
  reads_domain_once (readings.ReadsDomain.outside n never l p) (readings.ReadsDomain.outside m _ k q) =
      p ∙ ap (refused_read not_the_layout) (longest_once l k) ∙ sym q

  -- What was written of a table comes back, without its locks.
  pub domain_back : (t : Table) {r : TaskReply} → Domain limit t → ReadsDomain (domain_text t) limit r
      → r ≡ accepted_read (without_runs (unlocked t))
  domain_back t d h = reads_domain_once h (domain t d refl refl)

  -- Whatever a text is, what reading gives has no lock.
  pub no_locks : {s : List ℕ} {r : TaskReply} → ReadsDomain s limit r → r.task.table.locks ≡ replicate max_actions 0
  no_locks (domain t d e p) = ap (λ (x : TaskReply). x.task.table.locks) p
  no_locks (readings.ReadsDomain.outside n never l p) = ap (λ (x : TaskReply). x.task.table.locks) p

  -- Accepted exactly if it is the text of some table.
  pub accepted_domain : {s : List ℕ} {r : TaskReply} → ReadsDomain s limit r → r.number ≡ accepted → IsDomain limit s
  accepted_domain (domain t d e p) h = record { table = t; fits = d; text = e }
  accepted_domain (readings.ReadsDomain.outside n never l p) h =
      let other = ap (λ (x : TaskReply). x.number) p in
      absurd (omega arith)

  pub domain_accepted : {s : List ℕ} {r : TaskReply} → ReadsDomain s limit r → IsDomain limit s → r.number ≡ accepted
  domain_accepted (domain t d e p) h = ap (λ (x : TaskReply). x.number) p
  domain_accepted (readings.ReadsDomain.outside n never l p) h = absurd (never h)

  -- A text that is no domain text, and how far it goes with one.
  refused_at : {s : List ℕ} {r : TaskReply} {n : ℕ} → (IsDomain limit s → ⊥) → Longest (IsDomain limit) s n → ReadsDomain s limit r
      → r ≡ refused_read not_the_layout n
  refused_at {s} {r} {n} never l h = reads_domain_once h (readings.ReadsDomain.outside n never l refl)

  pub domain_cut : (s u : List ℕ) {r : TaskReply} → IsDomain limit (s ++ u) → 0 < length u → ReadsDomain s limit r
      → r ≡ refused_read not_the_layout (length s)
  domain_cut s u whole some =
      refused_at
      (λ d. no_longer (domain_tree limit) (clear_domain limit) s u (domain_text_lem limit s d) (domain_text_lem limit (s ++ u) whole) some)
      (cut_longest s u whole)

  pub domain_tail : (s u : List ℕ) {r : TaskReply} → IsDomain limit s → 0 < length u → ReadsDomain (s ++ u) limit r
      → r ≡ refused_read not_the_layout (length s)
  domain_tail s u good some =
      refused_at
      (λ d. no_longer (domain_tree limit) (clear_domain limit) s u (domain_text_lem limit s good) (domain_text_lem limit (s ++ u) d) some)
      (same_longest (text_domain limit) (domain_text_lem limit)
      (tail_longest (domain_tree limit) (clear_domain limit) s u (domain_text_lem limit s good)))

-- The table of a well-formed task is of a domain.
pub domain_of : (t : Task) → WellFormed t → Domain t.table.limit t.table
domain_of t w = record {
  facts_low = w.facts_low;
  facts_high = w.facts_high;
  actions_low = w.actions_low;
  actions_high = w.actions_high;
  limit_is = refl;
  needs = w.shaped.needs;
  adds = w.shaped.adds;
  deletes = w.shaped.deletes;
  inside = w.inside;
  unused = w.actions_unused;
}

-- ---- a problem

-- Facts that are out of range and in it.
out : {facts : ℕ} → (facts ≡ 0) ⊎ (max_facts < facts) → 0 < facts → facts ≤ max_facts → ⊥
out (inl e) l m = omega arith
out (inr h) l m = omega arith

module _ {facts : ℕ} where
  -- A text says one start and one goal.
  same_run : facts ≤ max_facts → {a b c d : ℕ} → Problem facts a b → Problem facts c d → problem_text facts a b ≡ problem_text facts c d
      → accepted_problem a b ≡ accepted_problem c d
  same_run few {a} {b} {c} {d} p q h =
      let other : Says (a_run c d) (problem_tree facts) (problem_text facts a b) = rw h (problem_made facts few c d q) in
      let said = said_once (problem_tree facts) (clear_problem facts few) (problem_made facts few a b p) other in
      rw (start_said said, goal_said said)

  pub reads_problem_once : {s : List ℕ} {r q : ProblemReply} → ReadsProblem s facts r → ReadsProblem s facts q → r ≡ q
  reads_problem_once (no_size h p) (no_size k q) = p ∙ sym q
  reads_problem_once (no_size h p) (problem l m _ _ _ _ q) = absurd (out h l m)
  reads_problem_once (no_size h p) (readings.ReadsProblem.outside l m _ _ _ q) = absurd (out h l m)
  reads_problem_once (problem l m _ _ _ _ p) (no_size h q) = absurd (out h l m)
  reads_problem_once (readings.ReadsProblem.outside l m _ _ _ p) (no_size h q) = absurd (out h l m)
  reads_problem_once (problem l m a b f e p) (problem _ _ c d g i q) = p ∙ same_run m f g (sym e ∙ i) ∙ sym q
  reads_problem_once (problem l m a b f e p) (readings.ReadsProblem.outside _ _ n never k q) =
      absurd (never (record { start = a; goal = b; fits = f; text = e }))
  reads_problem_once (readings.ReadsProblem.outside l m n never k p) (problem _ _ a b f e q) =
      absurd (never (record { start = a; goal = b; fits = f; text = e }))
  reads_problem_once (readings.ReadsProblem.outside l m n never k p) (readings.ReadsProblem.outside _ _ i _ j q) =
      p ∙ ap (refused_problem not_the_layout) (longest_once k j) ∙ sym q

  -- What was written of a run comes back.
  pub problem_back : (start goal : ℕ) {r : ProblemReply} → 0 < facts → facts ≤ max_facts → Problem facts start goal
      → ReadsProblem (problem_text facts start goal) facts r → r ≡ accepted_problem start goal
  problem_back start goal some few p h = reads_problem_once h (problem some few start goal p refl refl)

  module _ (some : 0 < facts) (few : facts ≤ max_facts) where
    -- Accepted exactly if it is the text of some run.
    pub accepted_problem_lem : {s : List ℕ} {r : ProblemReply} → ReadsProblem s facts r → r.number ≡ accepted → IsProblem facts s
    accepted_problem_lem (no_size h p) e = absurd (out h some few)
    accepted_problem_lem (problem _ _ a b f e p) h = record { start = a; goal = b; fits = f; text = e }
    accepted_problem_lem (readings.ReadsProblem.outside _ _ n never l p) h =
        let other = ap (λ (x : ProblemReply). x.number) p in
        absurd (omega arith)

    pub problem_accepted : {s : List ℕ} {r : ProblemReply} → ReadsProblem s facts r → IsProblem facts s → r.number ≡ accepted
    problem_accepted (no_size h p) k = absurd (out h some few)
    problem_accepted (problem _ _ a b f e p) k = ap (λ (x : ProblemReply). x.number) p
    problem_accepted (readings.ReadsProblem.outside _ _ n never l p) k = absurd (never k)

    problem_at : {s : List ℕ} {r : ProblemReply} {n : ℕ} → (IsProblem facts s → ⊥) → Longest (IsProblem facts) s n → ReadsProblem s facts r
        → r ≡ refused_problem not_the_layout n
    problem_at {s} {r} {n} never l h = reads_problem_once h (readings.ReadsProblem.outside some few n never l refl)

    pub problem_cut : (s u : List ℕ) {r : ProblemReply} → IsProblem facts (s ++ u) → 0 < length u → ReadsProblem s facts r
        → r ≡ refused_problem not_the_layout (length s)
    problem_cut s u whole more =
        problem_at
        (λ d.
        no_longer (problem_tree facts) (clear_problem facts few) s u (problem_text_lem facts few s d) (problem_text_lem facts few (s ++ u) whole) more)
        (cut_longest s u whole)

    pub problem_tail : (s u : List ℕ) {r : ProblemReply} → IsProblem facts s → 0 < length u → ReadsProblem (s ++ u) facts r
        → r ≡ refused_problem not_the_layout (length s)
    problem_tail s u good more =
        problem_at
        (λ d.
        no_longer (problem_tree facts) (clear_problem facts few) s u (problem_text_lem facts few s good) (problem_text_lem facts few (s ++ u) d) more)
        (same_longest (text_problem facts few) (problem_text_lem facts few)
        (tail_longest (problem_tree facts) (clear_problem facts few) s u (problem_text_lem facts few s good)))

-- The start and the goal of a run of a well-formed task are of a problem.
pub problem_of_lem : (t : Task) → WellFormed t → (i : ℕ) → Problem t.table.facts (start_of t.runs i) (goal_of t.runs i)
problem_of_lem t w i = record { start_inside = w.start_inside i; goal_inside = w.goal_inside i }
