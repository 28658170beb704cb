use mathlib.Core.Path.{◌≡◌, refl, subst}
use Prim.Native.Nat.{◌+◌}
use native.Mathlib.Omega.{arith}
use Rattle.search.specs.Runs.{run_of}
use Rattle.search.proofs.ColumnLaws.{Walked, walked_none, walked_more, none_first, tells_step, tells_goal, PlaceSo, no_place, place_next, place_few, place_end}
use Rattle.search.proofs.Run.narrowest_gap.Goals as goal
use Rattle.search.proofs.Run.narrowest_gap.Goals.{After-narrower-best}

-- What is known of the place chosen so far, with the step's.
place_here : (c : After-narrower-best) → PlaceSo c.args.self.now.col.now (run_of c.args.self.now) c.args.s c.narrower-best.result (c.loop-i.i + 1)
place_here c =
    let run = c.args.self.now in
    place_next run.col.now (run_of run) c.args.s c.loop-i.best c.narrower-best.result c.loop-i.i _ c.loop-i.invariant.0.within
    (tells_step run.col.now (run_of run) c.args.s c.loop-i.present c.loop-i.i c.loop-i.invariant.0 c.loop-i-test.true c.needs_with.result
    (rw c.action-a.ensures.step at c.needs_with.ensures)) c.loop-i.invariant.1 c.narrower-best.ensures

pub loop-i-init : goal.loop-i-init
loop-i-init c =
    let run = c.args.self.now in
    (walked_none run.col.now (run_of run) c.args.s c.contains-present.result c.contains-present.ensures, no_place refl (omega arith) (none_first run.col.now (run_of run) c.args.s))

pub returns-then-best-le1 : goal.returns-then-best-le1
returns-then-best-le1 c =
    let run = c.args.self.now in
    place_few run.col.now (run_of run) c.args.s c.narrower-best.result (c.loop-i.i + 1) (place_here (goal.at.returns-then-best-le1 c).After-narrower-best) c.if-best-le1.true

pub loop-i-preserved : goal.loop-i-preserved
loop-i-preserved c =
    let run = c.args.self.now in (
      walked_more run.col.now (run_of run) c.args.s c.loop-i.present c.loop-i.i c.loop-i.invariant.0 c.loop-i-test.true c.deletes_with-gone.result
          c.adds_with.result (rw c.action-a.ensures.step at c.deletes_with-gone.ensures) (rw c.action-a.ensures.step at c.adds_with.ensures),
      place_here (goal.at.loop-i-preserved c).After-narrower-best,
    )

pub returns : goal.returns
returns c =
    let wanted = c.contains in
    let run = c.args.self.now in
    let col = run.col.now in
    let r = run_of run in
    let s = c.args.s in
    let last : c.loop-i.i ≡ r.count = omega (arith, c.loop-i.invariant.0.within) in
    let walked = subst (Walked col r s c.loop-i.present) last c.loop-i.invariant.0 in
    place_end col r s c.narrower.result (r.count + 1) refl
    (place_next col r s c.loop-i.best c.narrower.result r.count _ (omega arith)
    (tells_goal col r s c.loop-i.present r.count walked wanted.result wanted.ensures refl) (subst (PlaceSo col r s c.loop-i.best) last c.loop-i.invariant.1)
    c.narrower.ensures)
