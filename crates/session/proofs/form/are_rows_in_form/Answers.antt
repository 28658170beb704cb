use Prim.Native.Nat.{ℕ}
use Rattle.rows.specs.Tables.{row_at}
use Rattle.table.proofs.CountingLaws.{every_below_none, every_below_more}
use Rattle.table.specs.Tasks.{cells_of}
use Rattle.session.specs.Sessions.{row_in_form}
use Rattle.session.proofs.form.are_rows_in_form.Goals as goal

pub loop-f-init : goal.loop-f-init
loop-f-init c = every_below_none (λ (g : ℕ). row_in_form (cells_of c.args.t) g (row_at c.args.table.now g))

pub loop-f-preserved : goal.loop-f-preserved
loop-f-preserved c =
    let a = c.args in
    every_below_more (λ (g : ℕ). row_in_form (cells_of a.t) g (row_at a.table.now g)) c.loop-f.f c.loop-f.invariant c.is_row_in_form-good.ensures
