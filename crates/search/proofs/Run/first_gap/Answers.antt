use mathlib.Core.Bool.{not, ◌&&◌}
use mathlib.Core.Path.{◌≡◌, refl, subst}
use Prim.Native.Nat.{◌+◌}
use native.Mathlib.Omega.{arith}
use Rattle.search.specs.Gaps.{Gap, missing_at, nowhere}
use Rattle.search.specs.Runs.{run_of}
use Rattle.search.proofs.ColumnLaws.{NoneBefore, Tells, walked_none, walked_more, none_first, none_next, none_right, tells_step, tells_goal}
use Rattle.search.proofs.Run.first_gap.Goals as goal
use Rattle.search.proofs.Run.first_gap.Goals.{After-needs_with, After-contains}

-- The flag of the test tells whether the fact is missing at the step, and that of the last one whether it is as a goal.
tells_here : (c : After-needs_with) → Tells c.args.self.now.col.now (run_of c.args.self.now) c.args.s c.loop-i.i (c.needs_with.result && not c.loop-i.present)
tells_here c =
    let run = c.args.self.now in
    tells_step run.col.now (run_of run) c.args.s c.loop-i.present c.loop-i.i c.loop-i.invariant.0 c.loop-i-test.true c.needs_with.result
    (rw c.action-a.ensures.step at c.needs_with.ensures)

at_end : (c : After-contains) → c.loop-i.i ≡ c.args.self.now.count
at_end c = omega (arith, c.loop-i.invariant.0.within)

tells_end : (c : After-contains) → Tells c.args.self.now.col.now (run_of c.args.self.now) c.args.s c.loop-i.i (c.contains.result && not c.loop-i.present)
tells_end c =
    let run = c.args.self.now in
    tells_goal run.col.now (run_of run) c.args.s c.loop-i.present c.loop-i.i c.loop-i.invariant.0 c.contains.result c.contains.ensures (at_end c)

pub loop-i-init : goal.loop-i-init
loop-i-init c =
    let run = c.args.self.now in
    (walked_none run.col.now (run_of run) c.args.s c.contains-present.result c.contains-present.ensures, none_first run.col.now (run_of run) c.args.s)

pub returns-then-needs_with-present : goal.returns-then-needs_with-present
returns-then-needs_with-present c =
    let tells = tells_here (goal.at.returns-then-needs_with-present c).After-needs_with in
    missing_at c.loop-i.invariant.0.within (tells.there c.if-needs_with-present.true)

pub loop-i-preserved : goal.loop-i-preserved
loop-i-preserved c =
    let run = c.args.self.now in (
      walked_more run.col.now (run_of run) c.args.s c.loop-i.present c.loop-i.i c.loop-i.invariant.0 c.loop-i-test.true
          c.deletes_with.result c.adds_with.result (rw c.action-a.ensures.step at c.deletes_with.ensures) (rw c.action-a.ensures.step at c.adds_with.ensures),
      none_next run.col.now (run_of run) c.args.s c.loop-i.i _ c.loop-i.invariant.1 (tells_here (goal.at.loop-i-preserved c).After-needs_with)
          c.if-needs_with-present.false,
    )

pub returns-then-contains-present : goal.returns-then-contains-present
returns-then-contains-present c =
    let end = (goal.at.returns-then-contains-present c).After-contains in
    let run = c.args.self.now in
    subst (Gap run.col.now (run_of run) c.args.s) (at_end end)
    (missing_at c.loop-i.invariant.0.within ((tells_end end).there c.if-contains-present.true))

pub returns-else-contains-present : goal.returns-else-contains-present
returns-else-contains-present c =
    let end = (goal.at.returns-else-contains-present c).After-contains in
    let run = c.args.self.now in
    nowhere refl
    (none_right run.col.now (run_of run) c.args.s
    (subst (λ n. NoneBefore run.col.now (run_of run) c.args.s (n + 1)) (at_end end)
    (none_next run.col.now (run_of run) c.args.s c.loop-i.i _ c.loop-i.invariant.1 (tells_end end) c.if-contains-present.false)))
