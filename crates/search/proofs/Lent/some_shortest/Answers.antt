use mathlib.Core.Bool.{false}
use mathlib.Core.Path.{subst}
use native.Mathlib.Omega.{arith}
use Rattle.search.specs.Runs.{runs_of}
use Rattle.search.specs.Searching.{Rightness}
use Rattle.search.proofs.LeastLaws.{nothing_allowed, nothing_out, short_none, short_found, longer_none, longer_than}
use Rattle.search.proofs.Lent.some_shortest.Goals as goal
use Rattle.search.proofs.Lent.some_shortest.Goals.{Else-is_right}

-- The fact is wrong as it stands.
wrong : (c : Else-is_right) → Rightness c.args.self.now.col.now (runs_of c.args.self.now) c.nothing-empty.result false
wrong c = subst (Rightness c.args.self.now.col.now (runs_of c.args.self.now) c.nothing-empty.result) c.if-is_right.false c.is_right.ensures

pub returns-then-is_right : goal.returns-then-is_right
returns-then-is_right c =
    let v = c.args.self.now in
    short_none v.col.now (runs_of v) c.nothing-empty.result c.nothing-empty.ensures
    (subst (Rightness v.col.now (runs_of v) c.nothing-empty.result) c.if-is_right.true c.is_right.ensures)

pub loop-left-init : goal.loop-left-init
loop-left-init c =
    let v = c.args.self.now in
    (omega arith, longer_none v.col.now (runs_of v) c.nothing-empty.result (wrong (goal.at.loop-left-init c).Else-is_right))

pub test-requires-clause-allowed : goal.test-requires-clause-allowed
test-requires-clause-allowed c = nothing_allowed c.args.self.now.col.now (runs_of c.args.self.now) c.nothing-empty.result c.nothing-empty.ensures

pub test-requires-clause-apart : goal.test-requires-clause-apart
test-requires-clause-apart c = nothing_out c.args.self.now.col.now (runs_of c.args.self.now) c.nothing-empty.result c.nothing-empty.ensures

pub returns-in-Some : goal.returns-in-Some
returns-in-Some c =
    let v = c.args.self.now in
    short_found v.col.now (runs_of v) c.nothing-empty.result c.fullest-all.result c.loop-left.left c.nothing-empty.ensures c.fullest-all.ensures
    (wrong (goal.at.returns-in-Some c).Else-is_right) c.in-Some.found (omega arith) c.loop-left.invariant.1 c.in-Some.ensures

pub loop-left-preserved : goal.loop-left-preserved
loop-left-preserved c =
    let v = c.args.self.now in (
      omega arith,
      longer_than v.col.now (runs_of v) c.nothing-empty.result c.fullest-all.result c.loop-left.left c.nothing-empty.ensures c.fullest-all.ensures
          (wrong (goal.at.loop-left-preserved c).Else-is_right) c.in_default.ensures,
    )
