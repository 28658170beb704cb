use mathlib.Core.Path.{sym, subst, ◌∙◌}
use native.Mathlib.Omega.{arith}
use Rattle.search.specs.Runs.{run_of}
use Rattle.search.proofs.ConflictLaws.{NoDelete, no_delete_none, no_delete_more}
use Rattle.search.proofs.Run.look_back.Goals as goal

pub loop-i-init : goal.loop-i-init
loop-i-init c =
    let run = c.args.self.now in
    (omega arith, no_delete_none run.col.now (run_of run) c.args.s c.args.j)

pub loop-i-preserved : goal.loop-i-preserved
loop-i-preserved c =
    let run = c.args.self.now in (
      omega arith,
      no_delete_more run.col.now (run_of run) c.args.s c.args.j c.loop-i.i c.loop-i.invariant.1
          (sym (rw c.action.ensures.step at c.deletes_with.ensures) ∙ c.if-deletes_with.false),
    )

pub returns-then-i-eq0 : goal.returns-then-i-eq0
returns-then-i-eq0 c =
    let run = c.args.self.now in
    record {
      within = omega arith;
      deleted = λ h. absurd (omega arith);
      since = subst (NoDelete run.col.now (run_of run) c.args.s c.args.j) c.if-i-eq0.true c.loop-i.invariant.1;
    }

pub returns-then-deletes_with : goal.returns-then-deletes_with
returns-then-deletes_with c =
    record {
      within = c.loop-i.invariant.0;
      deleted = λ h. sym (rw c.action.ensures.step at c.deletes_with.ensures) ∙ c.if-deletes_with.true;
      since = c.loop-i.invariant.1;
    }
