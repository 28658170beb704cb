use mathlib.Core.Path.{subst}
use native.Mathlib.Omega.{arith}
use Rattle.search.specs.Runs.{runs_of}
use Rattle.search.specs.Searching.{Complete}
use Rattle.search.proofs.BoundLaws.{shared_none, shared_more, shared_out, shared_short}
use Rattle.search.proofs.Lent.reach.Goals as goal

pub loop-n-init : goal.loop-n-init
loop-n-init c =
    let a = c.args in
    (shared_none a.self.now.col.now (runs_of a.self.now) a.s a.out a.want, omega arith)

pub loop-n-preserved : goal.loop-n-preserved
loop-n-preserved c =
    let a = c.args in (
      rw c.joined-passed.ensures
          (shared_more a.self.now.col.now (runs_of a.self.now) a.s a.out a.want c.loop-n.passed c.in-Some.next c.loop-n.n c.loop-n.invariant.0
          c.in-Some.ensures),
      omega arith,
    )

pub returns-then-not-is_complete : goal.returns-then-not-is_complete
returns-then-not-is_complete c =
    let a = c.args in
    let rs = runs_of a.self.now in
    shared_short a.self.now.col.now rs a.s a.out a.want c.loop-n.passed c.loop-n.n a.left (omega arith) c.loop-n.invariant.0
    (subst (Complete a.self.now.col.now rs c.loop-n.passed a.want) c.if-not-is_complete.true c.is_complete.ensures)

pub returns : goal.returns
returns c =
    let a = c.args in
    rw (c.joined.ensures, c.without-rest.ensures)
    (shared_out a.self.now.col.now (runs_of a.self.now) a.s a.out a.want c.loop-n.passed c.loop-n.n a.left (omega arith) c.loop-n.invariant.0
    c.below.result c.below.ensures c.requires.apart)
