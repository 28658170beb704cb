-- Worked examples: the texts of docs/PDDL.md.
use mathlib.Core.List.{[], ◌∷◌}
use mathlib.Core.Path.{◌≡◌, refl}
use Rattle.facts.specs.Sets.{has}
use Rattle.table.specs.Lists.{gather}
use Rattle.text.specs.Ascii.{bytes_of}
use Rattle.text.specs.Text.{digits}
use Rattle.pddl.specs.Texts.{fact_line, delete_line, action_head, action_text, domain_text, problem_text}

-- The page's domain text, of 3 facts and one action with a locked need, and its problem text.
pub page_domain : domain_text (record { facts = 3; actions = 1; limit = 0; needs = 5 ∷ []; adds = 2 ∷ []; deletes = 1 ∷ []; locks = 4 ∷ [] })
    ≡ bytes_of "(define (domain stage)\n  (:requirements :strips)\n  (:predicates\n    (f0)\n    (f1)\n    (f2)\n  )\n  (:action a0\n   :parameters ()\n   :precondition (and\n    (f0)\n    (f2)\n   )\n   :effect (and\n    (f1)\n    (not (f0))\n   )\n  )\n)\n"
unfolding domain_text action_text action_head fact_line delete_line gather digits has
page_domain = refl

pub page_problem : problem_text 3 1 6
    ≡ bytes_of "(define (problem run)\n  (:domain stage)\n  (:init\n    (f0)\n  )\n  (:goal (and\n    (f1)\n    (f2)\n  ))\n)\n"
unfolding problem_text fact_line gather digits has
page_problem = refl
