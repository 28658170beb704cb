-- `with_run`: the steps are those of the run. Assumes nothing.
use mathlib.Core.Path.{refl}
use Rattle.std.specs.Prelude.{Ok, Err}
use Rattle.table.specs.Outcomes.{made_of}
use Rattle.frompddl.proofs.GatherLaws.{run_added_lem}
use Rattle.frompddl.proofs.gather.with_run.Goals as goal

pub returns-in-Ok : goal.returns-in-Ok
returns-in-Ok c =
    let a = c.args in
    run_added_lem a.task a.start a.goal a.beside a.run (made_of (Ok c.in-Ok.more)) _ refl c.in-Ok.ensures

pub returns-in-Err : goal.returns-in-Err
returns-in-Err c =
    let a = c.args in
    run_added_lem a.task a.start a.goal a.beside a.run (made_of (Err c.in-Err.returned)) _ refl c.in-Err.ensures
