-- `search::Column::adds_with` reads the add of an action with the candidate applied.
use mathlib.Core.Path.{sym}
use Rattle.search.proofs.ColumnLaws.{adds_mask}
use Rattle.search.proofs.Column.adds_with.Goals as goal

pub returns : goal.returns
returns c =
    rw (c.contains.ensures, c.join.ensures)
    (sym (adds_mask c.args.self.now c.args.s c.args.a c.requires))
