use native.Mathlib.Omega.{arith}
use Rattle.pddlreader.proofs.WalkLaws.{count_more, count_ends, count_full}
use Rattle.pddlreader.proofs.cursor.Cursor.read_count.Goals as goal

pub returns-then-not-takes_line : goal.returns-then-not-takes_line
returns-then-not-takes_line c =
    let a = c.args in
    let l = c.loop-facts in
    count_ends a.s.now a.self.now l.facts l.self l.invariant.1 c.loop-facts-test.true c.takes_line.ensures c.if-not-takes_line.true

pub loop-facts-preserved : goal.loop-facts-preserved
loop-facts-preserved c =
    let a = c.args in
    let l = c.loop-facts in
    (omega arith, count_more a.s.now a.self.now l.facts l.self l.invariant.1 c.loop-facts-test.true c.takes_line.ensures c.if-not-takes_line.false)

pub returns : goal.returns
returns c =
    let a = c.args in
    let l = c.loop-facts in
    count_full a.s.now a.self.now l.facts l.self l.invariant.1 (omega arith)
