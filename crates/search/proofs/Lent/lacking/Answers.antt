use mathlib.Core.Path.{sym, subst}
use native.Mathlib.Omega.{arith}
use Rattle.choices.specs.Trying.{Sharing}
use Rattle.search.specs.Runs.{runs_of}
use Rattle.search.specs.Searching.{LackingBelow, Lacks}
use Rattle.search.proofs.SearchLaws.{lacking_none, wanted_lacks}
use Rattle.search.proofs.Lent.lacking.Goals as goal
use Rattle.search.proofs.Lent.lacking.Goals.{then-shares, else-shares}

pub loop-number-init : goal.loop-number-init
loop-number-init c =
    let a = c.args in
    let col = a.self.now.col.now in
    let rs = runs_of a.self.now in
    let first : LackingBelow col rs a.s a.out a.want 0 c.if-shares.best = elim c.if-shares.branch [
      | then-shares w ↦
          subst (LackingBelow col rs a.s a.out a.want 0) (sym w.best-is)
          (lacking_none col rs a.s a.out a.want (subst (Sharing a.s a.want) w.if-shares.true c.shares.ensures))
      | else-shares w ↦
          subst (LackingBelow col rs a.s a.out a.want 0) (sym w.best-is)
          (subst (Lacks col rs a.s a.out a.want) (sym w.without.ensures)
          (wanted_lacks col rs a.s a.out a.want c.requires (subst (Sharing a.s a.want) w.if-shares.false c.shares.ensures)))
    ] in
    (omega arith, first)
