-- `search::Column::needs_with` reads the need of an action with the candidate applied.
use mathlib.Core.Path.{sym}
use Rattle.search.proofs.ColumnLaws.{needs_mask}
use Rattle.search.proofs.Column.needs_with.Goals as goal

pub returns : goal.returns
returns c =
    rw (c.contains.ensures, c.remove.ensures)
    (sym (needs_mask c.args.self.now c.args.s c.args.a c.requires))
