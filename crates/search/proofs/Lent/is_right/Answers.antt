use native.Mathlib.Omega.{arith}
use Rattle.table.specs.Strips.{Right}
use Rattle.search.specs.Runs.{run_of, runs_of}
use Rattle.search.specs.Searching.{cells_with}
use Rattle.search.proofs.SearchLaws.{right_next, gap_right, gap_missing, missing_wrong, in_run}
use Rattle.search.proofs.Lent.is_right.Goals as goal

pub returns-then-first_gap-run : goal.returns-then-first_gap-run
returns-then-first_gap-run c =
    λ right.
    let s = c.args.s in
    let run = c.run-run.result in
    in_run (λ col r. Right (cells_with col s) r col.fact → ⊥) c.args.self.now c.loop-number.number run c.run-run.ensures.column c.run-run.ensures.run
    (missing_wrong run.col.now (runs_of c.args.self.now) s (run_of run) c.first_gap.result (gap_missing run.col.now (run_of run) s c.first_gap.result c.first_gap.ensures c.if-first_gap-run.true))
    (right c.loop-number.number c.loop-number-test.true)

pub loop-number-preserved : goal.loop-number-preserved
loop-number-preserved c =
    let s = c.args.s in
    let run = c.run-run.result in
    let v = c.args.self.now in (
      omega arith,
      right_next v.col.now (runs_of v) s c.loop-number.number
          (in_run (λ col r. Right (cells_with col s) r col.fact) v c.loop-number.number run c.run-run.ensures.column c.run-run.ensures.run
          (gap_right run.col.now (run_of run) s c.first_gap.result c.first_gap.ensures c.if-first_gap-run.false))
          c.loop-number.invariant.1,
    )
