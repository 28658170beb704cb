-- `Cursor::takes`: how much of the word stands decides.
use native.Mathlib.Omega.{arith}
use Rattle.pddlreader.proofs.CursorLaws.{nothing_taken, not_taken, word_taken}
use Rattle.pddlreader.proofs.ReachLaws.{reach_fits}
use Rattle.pddlreader.proofs.cursor.Cursor.takes.Goals as goal

pub returns-then-not-self : goal.returns-then-not-self
returns-then-not-self c =
    let o = c.args.self.now in
    nothing_taken c.args.s.now o.good o.at o.far c.args.word.now c.if-not-self.true

pub overflow_add-self : goal.overflow_add-self
overflow_add-self c =
    omega (arith, reach_fits c.args.s.now c.args.self.now.at c.args.word.now)

pub returns-then-stands-word : goal.returns-then-stands-word
returns-then-stands-word c =
    let o = c.args.self.now in
    not_taken c.args.s.now o.good o.at o.far c.args.word.now
    c.if-not-self.false c.alike_at-stands.ensures c.max-self.ensures c.if-stands-word.true

pub returns : goal.returns
returns c =
    let o = c.args.self.now in
    word_taken c.args.s.now o.good o.at o.far c.args.word.now
    c.if-not-self.false c.alike_at-stands.ensures c.max-self.ensures c.if-stands-word.false
