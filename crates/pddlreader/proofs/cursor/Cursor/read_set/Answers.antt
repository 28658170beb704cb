use mathlib.Core.Path.{◌∙◌}
use Rattle.pddlwords.specs.Spelling.{line_of}
use Rattle.pddlreader.specs.Walks.{SetRead}
use Rattle.pddlreader.proofs.WalkLaws.{set_more, set_whole, line_missing, line_stands}
use Rattle.pddlreader.proofs.cursor.Cursor.read_set.Goals as goal
use Rattle.pddlreader.proofs.cursor.Cursor.read_set.Goals.{then-takes_line, else-takes_line}

pub loop-fact-preserved : goal.loop-fact-preserved
loop-fact-preserved c =
    let a = c.args in
    let line = line_of a.line in
    let f = c.loop-fact.fact in
    let read : SetRead = record { cursor = c.loop-fact.self; set = c.loop-fact.set } in
    let after : SetRead = record { cursor = c.takes_line.new.self; set = c.if-takes_line.set } in
    elim c.if-takes_line.branch [
      | then-takes_line w ↦ set_more line a.s.now a.facts a.self.now f read c.loop-fact.invariant after c.loop-fact-test.true
          (line_stands line a.s.now f read c.takes_line.ensures w.if-takes_line.true (w.set-is ∙ w.with_fact-set.ensures))
      | else-takes_line w ↦ set_more line a.s.now a.facts a.self.now f read c.loop-fact.invariant after c.loop-fact-test.true
          (line_missing line a.s.now f read c.takes_line.ensures w.if-takes_line.false w.set-is)
    ]

pub returns : goal.returns
returns c =
    let a = c.args in
    set_whole (line_of a.line) a.s.now a.facts a.self.now c.loop-fact.fact (record { cursor = c.loop-fact.self; set = c.loop-fact.set })
    c.loop-fact.invariant c.loop-fact-test.false
