-- `print_listing`: what is printed lies in the room. Assumes nothing.
use mathlib.Core.Path.{sym, ap}
use Prim.Native.Nat.{ℕ}
use native.Mathlib.Omega.{arith}
use lib.Seq.{length-take-le}
use Rattle.std.specs.Prelude.{Result}
use Rattle.listing.proofs.Determined.{listed_ok}
use Rattle.table.specs.Outcomes.{reply_of}
use Rattle.table.specs.declared.refusals.Refusal.{Refusal}
use Rattle.topddl.proofs.NumberedLaws.{listing_inside}
use Rattle.topddl.proofs.print_listing.Goals as goal

pub unwrap-length-requires : goal.unwrap-length-requires
unwrap-length-requires g c = listed_ok _ (omega arith) c.listing.ensures

pub slice_bounds-room-end : goal.slice_bounds-room-end
slice_bounds-room-end g c =
    omega (arith, ap (λ (r : Result ℕ Refusal). (reply_of r).length) c.unwrap-length.ensures, listing_inside c.listing.ensures)

pub slice_bounds-write_all-end : goal.slice_bounds-write_all-end
slice_bounds-write_all-end g c =
    sym (length-take-le _ _ (omega (arith, ap (λ (r : Result ℕ Refusal). (reply_of r).length) c.unwrap-length.ensures, listing_inside c.listing.ensures)))
