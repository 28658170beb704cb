-- `search::Column::deletes_with` reads the delete of an action with the candidate applied.
use mathlib.Core.Path.{sym}
use Rattle.search.proofs.ColumnLaws.{deletes_mask}
use Rattle.search.proofs.Column.deletes_with.Goals as goal

pub returns : goal.returns
returns c =
    rw (c.contains.ensures, c.remove.ensures)
    (sym (deletes_mask c.args.self.now c.args.s c.args.a c.requires))
