-- `repaired`: a way out for a refused file, a refused solve and the list applied. Assumes nothing.
use mathlib.Core.Path.{refl, sym, ap}
use native.Mathlib.Omega.{arith}
use lib.Seq.{length-take-le}
use Rattle.std.specs.Prelude.{Err}
use Rattle.listing.proofs.TellingLaws.{solved_fits}
use Rattle.table.proofs.WhyLaws.{number_some}
use Rattle.table.specs.Outcomes.{made_of}
use Rattle.topddl.specs.Repairing.{unsolved}
use Rattle.topddl.proofs.RepairedLaws.{repairs_solved}
use Rattle.topddl.proofs.texts.repaired.Goals as goal

pub slice_bounds-list-end : goal.slice_bounds-list-end
slice_bounds-list-end c = omega (arith, solved_fits c.in-Ok-solve.ensures)

pub slice_bounds-apply-end : goal.slice_bounds-apply-end
slice_bounds-apply-end c = sym (length-take-le _ _ (omega (arith, solved_fits c.in-Ok-solve.ensures)))

pub returns-in-Ok-solve : goal.returns-in-Ok-solve
returns-in-Ok-solve c = repairs_solved c.in-Ok.ensures refl c.in-Ok-solve.ensures refl c.apply.ensures

pub returns-in-Err-solve : goal.returns-in-Err-solve
returns-in-Err-solve c =
    unsolved _ _ c.in-Ok.ensures refl c.in-Err-solve.ensures (number_some c.in-Err-solve.refusal.why)
    (ap (λ e. made_of (Err e)) c.returning-in-Err-solve.ensures)
