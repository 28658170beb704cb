-- `search::Run::conflict` gives a conflict: its three sets are the actions at the places that ConflictLaws names, without locked needs.
use Prim.Native.Nat.{◌≤◌}
use native.Mathlib.Omega.{arith}
use Rattle.search.specs.Runs.{run_of}
use Rattle.search.proofs.ConflictLaws.{missing_within, gathered_conflict}
use Rattle.search.proofs.Run.conflict.Goals as goal

pub look_back-step-requires : goal.look_back-step-requires
look_back-step-requires c = missing_within c.args.self.now.col.now (run_of c.args.self.now) c.args.s c.args.j c.requires

pub actions_between-requires : goal.actions_between-requires
actions_between-requires c =
    let within : c.args.j ≤ c.args.self.now.count = missing_within c.args.self.now.col.now (run_of c.args.self.now) c.args.s c.args.j c.requires in
    omega (arith, c.look_back-step.ensures.within)

pub returns : goal.returns
returns c =
    let a = c.args in
    let run = a.self.now in
    gathered_conflict run.col.now (run_of run) a.s a.j c.look_back-step.result c.saturating_sub-place.result c.min.result
    c.actions_between.result c.actions_between-2.result c.actions_between-needs.result c.remove.result run.formed c.requires
    c.look_back-step.ensures c.saturating_sub-place.ensures c.min.ensures c.actions_between.ensures c.actions_between-2.ensures
    c.actions_between-needs.ensures c.remove.ensures
