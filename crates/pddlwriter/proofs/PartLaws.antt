-- The texts by the parts that the writer's functions place, and the parts' lengths: every place in a text can be counted. Assumes nothing.
use mathlib.Core.List.{◌++◌}
use mathlib.Core.Path.{◌≡◌, refl}
use Prim.Native.Nat.{ℕ, ◌+◌, ◌≤◌}
use lib.ListN.{length, length-append}
use Rattle.table.specs.Lists.{gather}
use Rattle.table.specs.Sizes.{max_facts}
use Rattle.table.specs.Tasks.{WellFormed}
use Rattle.table.specs.declared.Task.{Task}
use Rattle.pddl.proofs.TextLength.{domain_length, problem_most}
use Rattle.pddl.specs.Lengths.{longest_domain, longest_problem}
use Rattle.pddl.specs.Texts.{fact_line, delete_line, lines_of, domain_opening, predicates_end, effect_opening, action_end, action_text, action_of, domain_end, domain_text, problem_opening, goal_opening, problem_end, problem_text}
use Rattle.pddlwriter.specs.Pieces.{through_needs}

-- An action, with all up to its last need as one.
pub action_is : (facts a needs adds deletes : ℕ)
    → action_text facts a needs adds deletes
    ≡ through_needs facts a needs ++ effect_opening ++ lines_of fact_line facts adds ++ lines_of delete_line facts deletes ++ action_end
unfolding action_text through_needs
action_is facts a needs adds deletes = refl

pub domain_parts : (t : Task) → WellFormed t
    → length domain_opening + length (gather fact_line t.table.facts) + length predicates_end +
    length (gather (action_of t.table) t.table.actions) +
    length domain_end ≤ longest_domain
unfolding domain_text
domain_parts t w = simp length-append at (domain_length t w)

pub problem_parts : (facts start goal : ℕ) → facts ≤ max_facts
    → length problem_opening + length (lines_of fact_line facts start) + length goal_opening + length (lines_of fact_line facts goal) +
    length problem_end ≤ longest_problem
unfolding problem_text
problem_parts facts start goal few = simp length-append at (problem_most facts start goal few)
