-- `read_problem`: a number of facts out of range is refused first; then what the walk gives, by whether it ends here.
use mathlib.Core.Logic.{inl, inr}
use mathlib.Core.Path.{ap, sym, ◌∙◌}
use native.Mathlib.Omega.{arith}
use Rattle.std.specs.Prelude.{Err}
use Rattle.pddl.specs.Readings.{problem_told, no_size}
use Rattle.pddlreader.proofs.TextLaws.{problem_whole, problem_not_whole}
use Rattle.pddlreader.proofs.read_problem.Goals as goal

pub returns-then-facts-eq0 : goal.returns-then-facts-eq0
returns-then-facts-eq0 c = no_size (inl c.if-facts-eq0.true) (ap (λ e. problem_told (Err e)) c.at.ensures)

pub returns-then-facts-gt-FACTS : goal.returns-then-facts-gt-FACTS
returns-then-facts-gt-FACTS c = no_size (inr c.if-facts-gt-FACTS.true) (ap (λ e. problem_told (Err e)) c.at-then-facts-gt-FACTS.ensures)

pub returns-then-not-is_whole : goal.returns-then-not-is_whole
returns-then-not-is_whole c =
    let a = c.args in
    rw c.at-then-not-is_whole.ensures
    (problem_not_whole a.facts (omega arith) (omega arith) a.text.now (record { cursor = c.walk_problem.result.0; start = c.walk_problem.result.1.start; goal = c.walk_problem.result.1.goal }) c.walk_problem.ensures
    (sym c.is_whole.ensures ∙ c.if-not-is_whole.true))

pub returns : goal.returns
returns c =
    let a = c.args in
    problem_whole a.facts (omega arith) (omega arith) a.text.now (record { cursor = c.walk_problem.result.0; start = c.walk_problem.result.1.start; goal = c.walk_problem.result.1.goal }) c.walk_problem.ensures
    (sym c.is_whole.ensures ∙ c.if-not-is_whole.false)
