-- `search::Lent::with_run` keeps what is lacking so far, or takes the run's conflict.
use mathlib.Core.Path.{sym, subst}
use Rattle.table.specs.Strips.{Right, one}
use Rattle.search.specs.Runs.{run_of, runs_of}
use Rattle.search.specs.Searching.{cells_with, Conflicts, Lacks}
use Rattle.search.proofs.SearchLaws.{gap_right, gap_missing, lacking_kept, conflict_lacks, in_run}
use Rattle.search.proofs.Lent.with_run.Goals as goal
use Rattle.search.proofs.Lent.with_run.Goals.{After-without-q}

-- The run's conflict, without what is out, is lacking.
taken : (c : After-without-q) → Lacks c.args.self.now.col.now (runs_of c.args.self.now) c.args.s c.args.out c.args.want c.without-q.result
taken c =
    let a = c.args in
    let v = a.self.now in
    let q = c.conflict.result in
    subst (Lacks v.col.now (runs_of v) a.s a.out a.want) (sym c.without-q.ensures)
    (conflict_lacks v.col.now (runs_of v) a.number c.requires.number_lt_runs a.s a.out a.want q
    (in_run (λ col r. Conflicts col (one r) a.s q) v a.number c.run-run.result c.run-run.ensures.column c.run-run.ensures.run c.conflict.ensures.conflicts))

pub returns-then-run-j : goal.returns-then-run-j
returns-then-run-j c =
    let a = c.args in
    let v = a.self.now in
    let run = c.run-run.result in
    lacking_kept v.col.now (runs_of v) a.s a.out a.want a.number a.best
    (in_run (λ col r. Right (cells_with col a.s) r col.fact) v a.number run c.run-run.ensures.column c.run-run.ensures.run
    (gap_right run.col.now (run_of run) a.s c.narrowest_gap-j.result c.narrowest_gap-j.ensures c.if-run-j.true)) c.requires.lacking_below

pub conflict-requires : goal.conflict-requires
conflict-requires c =
    let run = c.run-run.result in
    gap_missing run.col.now (run_of run) c.args.s c.narrowest_gap-j.result c.narrowest_gap-j.ensures c.if-run-j.false

pub returns-else-size : goal.returns-else-size
returns-else-size c = taken (goal.at.returns-else-size c).After-without-q

pub returns-in_default : goal.returns-in_default
returns-in_default c = taken (goal.at.returns-in_default c).After-without-q
