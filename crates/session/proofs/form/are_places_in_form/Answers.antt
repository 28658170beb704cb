use Rattle.rows.specs.Tables.{row_at}
use Rattle.table.proofs.CountingLaws.{every_below_none, every_below_more}
use Rattle.table.specs.Tasks.{cells_of}
use Rattle.session.specs.Sessions.{place_in_form}
use Rattle.session.proofs.form.are_places_in_form.Goals as goal

pub loop-i-init : goal.loop-i-init
loop-i-init c = every_below_none (place_in_form (cells_of c.args.t) c.args.f (row_at c.args.table.now c.args.f))

pub loop-i-preserved : goal.loop-i-preserved
loop-i-preserved c =
    let a = c.args in
    every_below_more (place_in_form (cells_of a.t) a.f (row_at a.table.now a.f)) c.loop-i.i c.loop-i.invariant c.is_place_in_form-good.ensures
