-- How long the texts of a well-formed task can be, and that the fullest task's are so long. Assumes nothing.
use mathlib.Core.Bool.{Bool, true, false}
use mathlib.Core.List.{List, ◌∷◌}
use mathlib.Core.Path.{◌≡◌, refl, ap}
use Prim.Native.Nat.{ℕ, zero, suc, ◌+◌, ◌-◌, ◌*◌, ◌^◌, ◌≤◌}
use native.Mathlib.Decide.{le_ind}
use native.Mathlib.Omega.{arith}
use lib.ListN.{length, replicate, get_or, length-append}
use Rattle.facts.specs.Sets.{has, removed, within}
use Rattle.table.specs.Counting.{every_below, sum_below}
use Rattle.table.specs.Lists.{gather, piece}
use Rattle.table.specs.Sizes.{max_facts, max_actions, max_runs, all_steps}
use Rattle.table.specs.Tasks.{start_of, goal_of, sizes_formed, mask_formed, action_formed, locks_formed, run_fits, run_formed, step_fits, step_formed, formed, WellFormed}
use Rattle.table.specs.declared.Task.{Task}
use Rattle.text.specs.Text.{digits}
use Rattle.text.specs.Ascii.{bytes_of}
use Rattle.pddl.specs.Lengths.{all_digits, all_fact_lines, all_delete_lines, longest_action, longest_domain, longest_problem}
use Rattle.pddl.specs.Texts.{name, fact_line, delete_line, lines_of, action_head, action_text, action_of, domain_text, problem_text}

-- ---- sums of the pieces' lengths

module _ (p : ℕ → List ℕ) (g : ℕ → ℕ) where
  gather_sum : ((i : ℕ) → length (p i) ≡ g i) → (n : ℕ) → length (gather p n) ≡ sum_below g n
  unfolding gather sum_below
  gather_sum each zero = refl
  gather_sum each (suc n) = omega (arith, length-append (gather p n) (p n), gather_sum each n, each n)

  sum_most : ((i : ℕ) → length (p i) ≤ g i) → (n : ℕ) → length (gather p n) ≤ sum_below g n
  unfolding gather sum_below
  sum_most each zero = omega arith
  sum_most each (suc n) = omega (arith, length-append (gather p n) (p n), sum_most each n, each n)

  -- Fewer pieces than there can be.
  sum_within : ((i : ℕ) → length (p i) ≤ g i) → (n m : ℕ) → n ≤ m → length (gather p n) ≤ sum_below g m
  unfolding sum_below
  sum_within each n m few = le_ind (λ k. length (gather p n) ≤ sum_below g k) (sum_most each n) (λ k l e. omega arith) m few

-- ---- the lines of facts

fact_length : (f : ℕ) → length (fact_line f) ≡ 8 + length (name f)
unfolding fact_line
fact_length f = omega (arith, length-append (name f) (bytes_of ")\n"))

delete_length : (f : ℕ) → length (delete_line f) ≡ 14 + length (name f)
unfolding delete_line
delete_length f = omega (arith, length-append (name f) (bytes_of "))\n"))

head_length : (a : ℕ) → length (action_head a) ≡ 53 + length (name a)
unfolding action_head
head_length a = omega (arith, length-append (name a) (bytes_of "\n   :parameters ()\n   :precondition (and\n"))

all_facts : sum_below (λ f. 8 + length (name f)) max_facts ≡ all_fact_lines
unfolding sum_below digits
all_facts = refl

all_deletes : sum_below (λ f. 14 + length (name f)) max_facts ≡ all_delete_lines
unfolding sum_below digits
all_deletes = refl

piece_length : (b : Bool) (l : List ℕ) → length (piece b l) ≤ length l
piece_length true l = omega arith
piece_length false l = omega arith

module _ (n : ℕ) (few : n ≤ max_facts) where
  predicates_most : length (gather fact_line n) ≤ all_fact_lines
  predicates_most =
      rw all_facts at (sum_within fact_line (λ f. 8 + length (name f)) (λ f. omega (arith, fact_length f)) n max_facts few)

  lines_most : (line : ℕ → List ℕ) (g : ℕ → ℕ) → ((f : ℕ) → length (line f) ≡ g f) → (set : ℕ)
      → length (lines_of line n set) ≤ sum_below g max_facts
  lines_most line g each set =
      sum_within (λ f. piece (has set f) (line f)) g (λ f. omega (arith, each f, piece_length (has set f) (line f))) n max_facts few

  facts_most : (set : ℕ) → length (lines_of fact_line n set) ≤ all_fact_lines
  facts_most set = rw all_facts at (lines_most fact_line (λ f. 8 + length (name f)) fact_length set)

  deletes_most : (set : ℕ) → length (lines_of delete_line n set) ≤ all_delete_lines
  deletes_most set = rw all_deletes at (lines_most delete_line (λ f. 14 + length (name f)) delete_length set)

-- ---- the texts

action_most : (n a needs adds deletes : ℕ) → n ≤ max_facts → length (action_text n a needs adds deletes) ≤ longest_action + length (name a)
unfolding action_text
action_most n a needs adds deletes few =
    simp length-append (omega (arith, head_length a, facts_most n few needs, facts_most n few adds, deletes_most n few deletes))

all_actions : sum_below (λ a. longest_action + length (name a)) max_actions ≡ max_actions * longest_action + all_digits max_actions
unfolding sum_below digits
all_actions = refl

pub domain_length : (t : Task) → WellFormed t → length (domain_text t.table) ≤ longest_domain
unfolding domain_text
domain_length t formed =
    let few = formed.facts_high in
    let actions =
    sum_within (action_of t.table) (λ a. longest_action + length (name a))
    (λ a.
    action_most t.table.facts a (get_or t.table.needs a 0) (get_or t.table.adds a 0) (get_or t.table.deletes a 0) few)
    t.table.actions max_actions formed.actions_high in
    simp length-append (omega (arith, predicates_most t.table.facts few, rw all_actions at actions))

pub problem_most : (n start goal : ℕ) → n ≤ max_facts → length (problem_text n start goal) ≤ longest_problem
unfolding problem_text
problem_most n start goal few = simp length-append (omega (arith, facts_most n few start, facts_most n few goal))

pub problem_length : (t : Task) → WellFormed t → (run : ℕ)
    → length (problem_text t.table.facts (start_of t.runs run) (goal_of t.runs run)) ≤ longest_problem
problem_length t formed run = problem_most t.table.facts (start_of t.runs run) (goal_of t.runs run) formed.facts_high

-- ---- the fullest task: every set has every fact

abbrev every_fact : ℕ
every_fact = 2 ^ max_facts - 1

abbrev every_set : List ℕ
every_set = replicate max_actions every_fact

abbrev pub fullest_task : Task
fullest_task = record {
  table = record { facts = max_facts; actions = max_actions; limit = 0; needs = every_set; adds = every_set; deletes = every_set; locks = every_set };
  runs = record {
    many = 1;
    starts = every_fact ∷ replicate (max_runs - 1) 0;
    goals = every_fact ∷ replicate (max_runs - 1) 0;
    counts = replicate max_runs 0;
    steps = replicate all_steps 0;
  };
}

pub fullest_formed : formed fullest_task ≡ true
unfolding formed sizes_formed run_formed run_fits action_formed mask_formed locks_formed removed step_formed step_fits every_below within
fullest_formed = refl

full_facts : length (lines_of fact_line max_facts every_fact) ≡ all_fact_lines
unfolding gather fact_line digits has
full_facts = refl

full_deletes : length (lines_of delete_line max_facts every_fact) ≡ all_delete_lines
unfolding gather delete_line digits has
full_deletes = refl

full_action : (a : ℕ) → length (action_text max_facts a every_fact every_fact every_fact) ≡ longest_action + length (name a)
unfolding action_text
full_action a = simp length-append (omega (arith, head_length a, full_facts, full_deletes))

full_actions : gather (action_of fullest_task.table) max_actions ≡ gather (λ a. action_text max_facts a every_fact every_fact every_fact) max_actions
unfolding gather
full_actions = refl

pub fullest_domain : length (domain_text fullest_task.table) ≡ longest_domain
unfolding domain_text
fullest_domain =
    let lines = gather_sum fact_line (λ f. 8 + length (name f)) fact_length max_facts in
    let actions =
    gather_sum (λ a. action_text max_facts a every_fact every_fact every_fact) (λ a. longest_action + length (name a)) full_action max_actions in
    simp length-append (omega (arith, ap length full_actions, rw all_facts at lines, rw all_actions at actions))

pub fullest_problem : let r = fullest_task.runs in
    length (problem_text fullest_task.table.facts (start_of r 0) (goal_of r 0)) ≡ longest_problem
unfolding problem_text
fullest_problem = simp length-append (omega (arith, full_facts))
