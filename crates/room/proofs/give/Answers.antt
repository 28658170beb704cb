-- `give`: the text is measured as it is placed where there is next to no room, and then it is placed.
use mathlib.Core.Path.{ap}
use Prim.Native.Nat.{◌≤◌}
use native.Mathlib.Omega.{arith}
use lib.ListN.{length}
use Rattle.std.specs.Prelude.{Err}
use Rattle.room.proofs.PlacingLaws.{placed_whole}
use Rattle.table.proofs.OutcomeLaws.{refused_told, given_short, given_whole}
use Rattle.table.specs.Outcomes.{reply_of}
use Rattle.table.specs.Refusals.{room_too_short}
use Rattle.room.proofs.give.Goals as goal

pub returns-then-room-write : goal.returns-then-room-write
returns-then-room-write g c text w =
    refused_told room_too_short _ _ _ (ap (λ e. reply_of (Err e)) c.at.ensures)
    (given_short text _ (omega (arith, c.if-room-write.true, (w _ _ _ c.write.ensures).next_is)))

pub returns : goal.returns
returns g c text w =
    let placed = w _ _ _ c.write-end.ensures in
    let fits : length text ≤ length c.args.room.now = omega (arith, c.if-room-write.false, (w _ _ _ c.write.ensures).next_is) in
    given_whole text _ _ _ fits (omega (arith, placed.next_is)) (placed_whole placed fits)
