use mathlib.Core.Path.{sym, subst}
use Prim.Native.Nat.{◌<◌}
use native.Mathlib.Omega.{arith}
use Rattle.std.specs.Prelude.{Option, Some}
use Rattle.choices.specs.declared.Choice.{Choice}
use Rattle.table.specs.Sizes.{per_fact}
use Rattle.choices.specs.Trying.{NextIn, FirstIn}
use Rattle.search.specs.Runs.{runs_of}
use Rattle.search.proofs.LeastLaws.{Turned, leads_start, leads_end, turned_leads, turned_falls, ahead_of, code_or_end, first_next}
use Rattle.search.proofs.Lent.first_of.Goals as goal
use Rattle.search.proofs.Lent.first_of.Goals.{After-next_in-next-in-Some, in-Some-earlier, in-None}

-- The code that the loop is at, and what a turn does: the best gave way to what was found, or stayed.
here : (c : After-next_in-next-in-Some) → FirstIn c.loop-next.best c.loop-next.from (Some c.in-Some.code)
here c = subst (FirstIn c.loop-next.best c.loop-next.from) c.in-Some.is c.loop-next.invariant.1

turned : (c : After-next_in-next-in-Some) → Turned c.loop-next.best c.earlier.result c.loop-next.from c.in-Some.code c.match-earlier.best c.match-earlier.from
turned c =
    let P = λ (found : Option Choice). Turned c.loop-next.best found c.loop-next.from c.in-Some.code c.match-earlier.best c.match-earlier.from in
    elim c.match-earlier.branch [
      | in-Some-earlier w ↦ subst P (sym w.in-Some-earlier.is) (w.best-is, w.from-is)
      | in-None w ↦ subst P (sym w.in-None.is) (w.best-is, w.from-is)
    ]

pub loop-next-init : goal.loop-next-init
loop-next-init c = (leads_start c.args.self.now.col.now (runs_of c.args.self.now) c.args.some c.requires, c.next_in-next.ensures)

pub earlier-requires : goal.earlier-requires
earlier-requires c = c.loop-next.invariant.0.keeps

pub loop-next-smaller : goal.loop-next-smaller
loop-next-smaller c =
    let v = c.args.self.now in
    let next = c.next_in-next-in-Some in
    let falls : ahead_of c.match-earlier.from (code_or_end next.result) < ahead_of c.loop-next.from c.in-Some.code =
    turned_falls v.col.now (runs_of v) c.loop-next.best c.loop-next.from c.in-Some.code c.loop-next.invariant.0 (here c).1 (here c).0
    c.match-earlier.best c.match-earlier.from (code_or_end next.result) (first_next _ _ next.result next.ensures) c.earlier.result c.earlier.ensures (turned c) in
    rw c.in-Some.is falls

pub loop-next-preserved : goal.loop-next-preserved
loop-next-preserved c =
    let v = c.args.self.now in
    let next = c.next_in-next-in-Some in (
      turned_leads v.col.now (runs_of v) c.loop-next.best c.loop-next.from c.in-Some.code c.loop-next.invariant.0 (here c).1 (here c).0
          c.match-earlier.best c.match-earlier.from (code_or_end next.result) (first_next _ _ next.result next.ensures) c.earlier.result c.earlier.ensures (turned c),
      next.ensures,
    )

pub returns : goal.returns
returns c =
    let past : NextIn c.loop-next.best c.loop-next.from per_fact = subst (FirstIn c.loop-next.best c.loop-next.from) c.in_default.is c.loop-next.invariant.1 in
    leads_end c.args.self.now.col.now (runs_of c.args.self.now) c.loop-next.best c.loop-next.from per_fact c.loop-next.invariant.0 past (omega arith)
