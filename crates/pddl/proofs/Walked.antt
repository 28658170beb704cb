-- What a walk along the trees gives is what reading a text gives, and reading gives one thing only. Assumes nothing.
use mathlib.Core.Bool.{true}
use mathlib.Core.List.{List, []}
use mathlib.Core.Path.{◌≡◌, refl, sym, ap}
use Prim.Native.Nat.{ℕ, ◌<◌, ◌≤◌}
use Rattle.table.specs.Sizes.{max_facts}
use Rattle.table.specs.Tasks.{unlocked}
use Rattle.table.specs.declared.Table.{Table}
use Rattle.taskformat.specs.Reading.{accepted_read, refused_read}
use Rattle.layout.specs.Layouts.{TextOf}
use Rattle.layout.specs.Walking.{walk, reads, stops}
use Rattle.layout.proofs.Exact.{walk_reads, walk_stops, walk_never}
use Rattle.layout.proofs.Places.{same_longest}
use Rattle.pddl.specs.Texts.{problem_text}
use Rattle.table.specs.Refusals.{not_the_layout}
use Rattle.pddl.specs.Readings.{IsDomain, without_runs, ReadsDomain, domain, Problem, IsProblem, refused_problem, accepted_problem, ReadsProblem, problem}
use Rattle.pddl.specs.Readings as readings
use Rattle.pddl.specs.Trees.{Said, a_table, a_run, domain_tree, problem_tree}
use Rattle.pddl.proofs.DomainTexts.{domain_said, domain_made}
use Rattle.pddl.proofs.ProblemTexts.{problem_said, problem_made}
use Rattle.pddl.proofs.ClearTrees.{clear_domain, clear_problem}

-- What is said is one thing.
table_in : Said → Table
table_in (a_table t) = t
table_in (a_run s g) = record { facts = 0; actions = 0; limit = 0; needs = []; adds = []; deletes = []; locks = [] }

start_in : Said → ℕ
start_in (a_table t) = 0
start_in (a_run s g) = s

goal_in : Said → ℕ
goal_in (a_table t) = 0
goal_in (a_run s g) = g

pub table_said : {t q : Table} → a_table t ≡ a_table q → t ≡ q
unfolding table_in
table_said e = ap table_in e

pub start_said : {a b c d : ℕ} → a_run a b ≡ a_run c d → a ≡ c
unfolding start_in
start_said e = ap start_in e

pub goal_said : {a b c d : ℕ} → a_run a b ≡ a_run c d → b ≡ d
unfolding goal_in
goal_said e = ap goal_in e

-- ---- the domain

module _ (limit : ℕ) where
  pub domain_text_lem : (t : List ℕ) → IsDomain limit t → TextOf (domain_tree limit) t
  domain_text_lem t d = rw d.text (record { says = a_table (unlocked d.table); so = domain_made limit d.table d.fits })

  pub text_domain : (t : List ℕ) → TextOf (domain_tree limit) t → IsDomain limit t
  text_domain t x = let d = domain_said limit x.says t x.so in record { table = d.table; fits = d.fits; text = d.text }

  module _ (s : List ℕ) where
    pub domain_walked : (t : Table) → walk (domain_tree limit) s true 0 0 ≡ reads (a_table t) → ReadsDomain s limit (accepted_read (without_runs t))
    domain_walked t e =
        let d = domain_said limit (a_table t) s (walk_reads (domain_tree limit) (clear_domain limit) s (a_table t) e) in
        domain d.table d.fits d.text (ap (λ (x : Table). accepted_read (without_runs x)) (sym (table_said d.says)))

    pub domain_stopped : (n : ℕ) → walk (domain_tree limit) s true 0 0 ≡ stops n → ReadsDomain s limit (refused_read not_the_layout n)
    domain_stopped n e =
        readings.ReadsDomain.outside n (λ d. walk_never (domain_tree limit) (clear_domain limit) s n e (domain_text_lem s d))
        (same_longest text_domain domain_text_lem (walk_stops (domain_tree limit) (clear_domain limit) s n e)) refl

-- ---- a problem

module _ (facts : ℕ) (few : facts ≤ max_facts) where
  pub problem_text_lem : (t : List ℕ) → IsProblem facts t → TextOf (problem_tree facts) t
  problem_text_lem t p = rw p.text (record { says = a_run p.start p.goal; so = problem_made facts few p.start p.goal p.fits })

  pub text_problem : (t : List ℕ) → TextOf (problem_tree facts) t → IsProblem facts t
  text_problem t x =
      let d = problem_said facts few x.says t x.so in
      record { start = d.start; goal = d.goal; fits = d.fits; text = d.text }

  module _ (some : 0 < facts) (s : List ℕ) where
    pub problem_walked : (start goal : ℕ) → walk (problem_tree facts) s true 0 0 ≡ reads (a_run start goal)
        → ReadsProblem s facts (accepted_problem start goal)
    problem_walked start goal e =
        let d = problem_said facts few (a_run start goal) s (walk_reads (problem_tree facts) (clear_problem facts few) s (a_run start goal) e) in
        read_as d.start d.goal d.says d.fits d.text
      where
        read_as : (a b : ℕ) → a_run a b ≡ a_run start goal → Problem facts a b → s ≡ problem_text facts a b → ReadsProblem s facts (accepted_problem start goal)
        read_as a b says fits text =
            let i : a ≡ start = start_said says in
            let g : b ≡ goal = goal_said says in
            problem some few start goal (rw (← i, ← g) fits) (rw (← i, ← g) text) refl

    pub problem_stopped : (n : ℕ) → walk (problem_tree facts) s true 0 0 ≡ stops n → ReadsProblem s facts (refused_problem not_the_layout n)
    problem_stopped n e =
        readings.ReadsProblem.outside some few n (λ p. walk_never (problem_tree facts) (clear_problem facts few) s n e (problem_text_lem s p))
        (same_longest text_problem problem_text_lem (walk_stops (problem_tree facts) (clear_problem facts few) s n e)) refl
