-- The longest texts: those of 64 facts and 32 actions whose sets have every fact (02, request 4; docs/PDDL.md).
use Rattle.std.specs.Prelude.{ℕ, ◌+◌, ◌-◌, ◌*◌, length}
use Rattle.table.specs.Sizes.{max_facts, max_actions}
use Rattle.pddl.specs.Texts.{domain_opening, predicates_end, effect_opening, action_end, domain_end, problem_opening, goal_opening, problem_end}

-- The digits of the numbers below n together, from 10 to 100: one in each of the first ten and two in each other.
abbrev pub all_digits : ℕ → ℕ
all_digits n = 10 + (n - 10) * 2

-- The lines of all facts, with so many bytes in each beside its number: 8 are `    (f` and `)⏎`, and 14 are `    (not (f` and `))⏎`.
abbrev pub all_lines : ℕ → ℕ
all_lines beside = max_facts * beside + all_digits max_facts

abbrev pub all_fact_lines : ℕ
all_fact_lines = all_lines 8

abbrev pub all_delete_lines : ℕ
all_delete_lines = all_lines 14

-- An action beside its number, whose head has 53 bytes more.
abbrev pub longest_action : ℕ
longest_action = 53 + all_fact_lines + length effect_opening + all_fact_lines + all_delete_lines + length action_end

abbrev pub longest_domain : ℕ
longest_domain =
    length domain_opening + all_fact_lines + length predicates_end + (max_actions * longest_action + all_digits max_actions) + length domain_end

abbrev pub longest_problem : ℕ
longest_problem = length problem_opening + all_fact_lines + length goal_opening + all_fact_lines + length problem_end
