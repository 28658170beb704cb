-- The layout of the texts as the readers walk it, line by line: at each place a line stands that may stand there, or the next part begins.
-- That the texts of these trees are the domain texts and the problem texts, and no others, is proved (proofs/).
use Rattle.std.specs.Prelude.{List, ℕ, zero, suc, ◌-◌, set, replicate}
use Rattle.facts.specs.Sets.{joined, only}
use Rattle.table.specs.Sizes.{max_facts, max_actions}
use Rattle.table.specs.declared.Table.{Table}
use Rattle.layout.specs.Layouts.{Layout, done, word, pick}
use Rattle.pddl.specs.Texts.{fact_line, delete_line, domain_opening, predicates_end, action_head, effect_opening, action_end, domain_end, problem_opening, goal_opening, problem_end}

-- What a text says: a table, or a start and a goal.
pub data Said : Type 0 where
  a_table : Table → Said
  a_run : ℕ → ℕ → Said

-- The lines of `left` facts from f on, each of which may stand, ascending; then the rest by the set of those that stood.
unfoldable pub set_from : (ℕ → List ℕ) → ℕ → ℕ → ℕ → (ℕ → Layout Said) → Layout Said
set_from line zero f m rest = rest m
set_from line (suc left) f m rest =
    pick (line f) (set_from line left (suc f) (joined m (only f)) rest) (set_from line left (suc f) m rest)

abbrev pub set_tree : (ℕ → List ℕ) → ℕ → (ℕ → Layout Said) → Layout Said
set_tree line facts rest = set_from line facts 0 0 rest

-- At most `left` further lines from that of n on, one after another; then the rest by the first number that did not stand.
unfoldable pub count_from : (ℕ → List ℕ) → ℕ → ℕ → (ℕ → Layout Said) → Layout Said
count_from line zero n rest = rest n
count_from line (suc left) n rest = pick (line n) (count_from line left (suc n) rest) (rest n)

-- What stands behind the head of an action; then the rest by its needs, adds and deletes.
unfoldable pub action_tree : ℕ → (ℕ → ℕ → ℕ → Layout Said) → Layout Said
action_tree facts rest =
    set_tree fact_line facts
    (λ needs. word effect_opening (set_tree fact_line facts (λ adds. set_tree delete_line facts (λ deletes. word action_end (rest needs adds deletes)))))

-- No action has a set yet.
abbrev pub no_sets : List ℕ
no_sets = replicate max_actions 0

-- A text says no lock (02, request 6).
abbrev pub table_tree : ℕ → ℕ → ℕ → List ℕ → List ℕ → List ℕ → Layout Said
table_tree limit facts actions needs adds deletes =
    word domain_end
    (done (a_table (record { facts = facts; actions = actions; limit = limit; needs = needs; adds = adds; deletes = deletes; locks = no_sets })))

-- At most `left` further actions from a on; the sets of those before it have been read.
unfoldable pub actions_from : ℕ → ℕ → ℕ → ℕ → List ℕ → List ℕ → List ℕ → Layout Said
actions_from limit facts zero a needs adds deletes = table_tree limit facts a needs adds deletes
actions_from limit facts (suc left) a needs adds deletes =
    pick (action_head a)
    (action_tree facts (λ n d e. actions_from limit facts left (suc a) (set needs a n) (set adds a d) (set deletes a e)))
    (table_tree limit facts a needs adds deletes)

-- One fact and one action have to stand.
unfoldable pub first_action : ℕ → ℕ → Layout Said
first_action limit facts =
    word (action_head 0)
    (action_tree facts (λ n d e. actions_from limit facts (max_actions - 1) 1 (set no_sets 0 n) (set no_sets 0 d) (set no_sets 0 e)))

unfoldable pub domain_tree : ℕ → Layout Said
domain_tree limit =
    word domain_opening (word (fact_line 0) (count_from fact_line (max_facts - 1) 1 (λ facts. word predicates_end (first_action limit facts))))

unfoldable pub problem_tree : ℕ → Layout Said
problem_tree facts =
    word problem_opening
    (set_tree fact_line facts (λ start. word goal_opening (set_tree fact_line facts (λ goal. word problem_end (done (a_run start goal))))))
