-- The parts of the texts by name: what the writer's inner functions write.
use Rattle.std.specs.Prelude.{List, ◌++◌, ℕ}
use Rattle.facts.specs.Sets.{has}
use Rattle.table.specs.Lists.{piece}
use Rattle.pddl.specs.Texts.{fact_line, lines_of, action_head}
use Rattle.pddlwords.specs.Spelling.{line_of}
use Rattle.pddlwords.specs.declared.Line.{Line}

abbrev pub line_in : Line → ℕ → ℕ → List ℕ
line_in line set f = piece (has set f) (line_of line f)

-- An action up to its last need.
unfoldable pub through_needs : ℕ → ℕ → ℕ → List ℕ
through_needs facts a needs = action_head a ++ lines_of fact_line facts needs
