-- The domain text of a table and the problem text of a run, byte by byte: 02, request 4; docs/PDDL.md, in its order and its words. Locks are
-- not in them (02, request 6).
use Rattle.std.specs.Prelude.{List, ◌++◌, ℕ, get_or}
use Rattle.facts.specs.Sets.{has}
use Rattle.table.specs.Lists.{gather, piece}
use Rattle.table.specs.declared.Table.{Table}
use Rattle.text.specs.Ascii.{bytes_of}
use Rattle.text.specs.Text.{digits}

-- The number of a fact or an action: no number there has more than two digits.
abbrev pub name : ℕ → List ℕ
name n = digits 2 n

-- ---- the lines of a fact

unfoldable pub fact_line : ℕ → List ℕ
fact_line f = bytes_of "    (f" ++ name f ++ bytes_of ")\n"

unfoldable pub delete_line : ℕ → List ℕ
delete_line f = bytes_of "    (not (f" ++ name f ++ bytes_of "))\n"

-- The lines of the facts below n that are in the set, ascending.
abbrev pub lines_of : (ℕ → List ℕ) → ℕ → ℕ → List ℕ
lines_of line n set = gather (λ f. piece (has set f) (line f)) n

-- ---- the domain text

abbrev pub domain_opening : List ℕ
domain_opening = bytes_of "(define (domain stage)\n  (:requirements :strips)\n  (:predicates\n"

abbrev pub predicates_end : List ℕ
predicates_end = bytes_of "  )\n"

unfoldable pub action_head : ℕ → List ℕ
action_head a = bytes_of "  (:action a" ++ name a ++ bytes_of "\n   :parameters ()\n   :precondition (and\n"

abbrev pub effect_opening : List ℕ
effect_opening = bytes_of "   )\n   :effect (and\n"

abbrev pub action_end : List ℕ
action_end = bytes_of "   )\n  )\n"

abbrev pub domain_end : List ℕ
domain_end = bytes_of ")\n"

-- An action's needs; its effects, "adds before deletes". "A delete that is also an add is written".
unfoldable pub action_text : ℕ → ℕ → ℕ → ℕ → ℕ → List ℕ
action_text facts a needs adds deletes =
    action_head a ++ lines_of fact_line facts needs ++ effect_opening ++ lines_of fact_line facts adds ++ lines_of delete_line facts deletes ++
    action_end

abbrev pub action_of : Table → ℕ → List ℕ
action_of t a = action_text t.facts a (get_or t.needs a 0) (get_or t.adds a 0) (get_or t.deletes a 0)

unfoldable pub domain_text : Table → List ℕ
domain_text t = domain_opening ++ gather fact_line t.facts ++ predicates_end ++ gather (action_of t) t.actions ++ domain_end

-- ---- the problem text of a run over so many facts, with its start and goal

abbrev pub problem_opening : List ℕ
problem_opening = bytes_of "(define (problem run)\n  (:domain stage)\n  (:init\n"

abbrev pub goal_opening : List ℕ
goal_opening = bytes_of "  )\n  (:goal (and\n"

abbrev pub problem_end : List ℕ
problem_end = bytes_of "  ))\n)\n"

unfoldable pub problem_text : ℕ → ℕ → ℕ → List ℕ
problem_text facts start goal =
    problem_opening ++ lines_of fact_line facts start ++ goal_opening ++ lines_of fact_line facts goal ++ problem_end
