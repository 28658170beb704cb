-- `walk_problem`: its parts, one after another.
use Rattle.pddlreader.proofs.TextLaws.{problem_parts}
use Rattle.pddlreader.proofs.walks.walk_problem.Goals as goal

pub returns : goal.returns
returns c =
    let start = c.read_set-start in
    let goals = c.read_set-goal in
    problem_parts c.args.facts c.args.text.now (record { cursor = start.new.self; set = start.result })
    (record { cursor = goals.new.self; set = goals.result }) c.expect.ensures start.ensures c.expect-2.ensures goals.ensures c.expect-3.ensures
