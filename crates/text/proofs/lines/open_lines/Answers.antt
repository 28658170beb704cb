use mathlib.Core.Path.{◌≡◌}
use Prim.Native.Nat.{◌<◌}
use native.Mathlib.Omega.{arith}
use lib.ListN.{length, take}
use lib.Seq.{length-take-le}
use Rattle.std.proofs.lemmas.List.{get_or-take}
use Rattle.room.proofs.Gathering.{begun, next_fits, one_more, all_placed}
use Rattle.runcheck.specs.OpenNeeds.{open_needs}
use Rattle.text.proofs.lines.open_lines.Goals as goal

pub loop-found-init : goal.loop-found-init
loop-found-init c = begun _ _ _ _ c.requires.many_bound

pub open_line-next-requires : goal.open_line-next-requires
open_line-next-requires c =
    let taken : length (take c.args.many c.args.checks) ≡ c.args.many = length-take-le _ _ (omega arith) in
    let low : c.loop-found.found-index < c.args.many = omega (arith, c.loop-found-test.true, taken) in
    rw (get_or-take c.args.many c.args.checks c.loop-found.found-index (open_needs 0 0 0) low) (next_fits c.loop-found.invariant low)

pub loop-found-preserved : goal.loop-found-preserved
loop-found-preserved c =
    let taken : length (take c.args.many c.args.checks) ≡ c.args.many = length-take-le _ _ (omega arith) in
    let low : c.loop-found.found-index < c.args.many = omega (arith, c.loop-found-test.true, taken) in
    one_more c.loop-found.invariant low (rw (get_or-take c.args.many c.args.checks c.loop-found.found-index (open_needs 0 0 0) low) at c.open_line-next.ensures)

pub returns : goal.returns
returns c =
    let taken : length (take c.args.many c.args.checks) ≡ c.args.many = length-take-le _ _ (omega arith) in
    all_placed c.loop-found.invariant (omega (arith, c.loop-found-test.false, taken))
