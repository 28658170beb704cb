-- What a call of `listing` gives, by the contract above the function and by nothing else, is what specs/Listing says. Assumes nothing.
use mathlib.Core.List.{List}
use Prim.Native.Nat.{ℕ}
use Rattle.table.proofs.ContractLaws.{call_keeps}
use Rattle.table.specs.Asks.{Call, AsksNothing}
use Rattle.table.specs.Outcomes.{Outcome, reply_of}
use Rattle.listing.proofs.listing.Reads as listing
use Rattle.listing.specs.Listing.{ListsInto}

-- The listing of an input into this room gives o.
abbrev pub ListingGives : List ℕ → List ℕ → Outcome → Type 0
ListingGives input room o =
    Call {I = List ℕ × List ℕ} {O = Outcome} listing.Post (λ a. (a.0.now, a.1.0.now)) (λ r b. record { reply = reply_of r; room = b.1.0.now })
    (input, room) o

pub listing_gives : (input room : List ℕ) (o : Outcome) → ListingGives input room o → ListsInto input room o
listing_gives input room o = call_keeps (λ i. ListsInto i.0 i.1) (λ k a r b p. p) (input, room) o

pub listing_asks_nothing : AsksNothing listing.Pre
listing_asks_nothing k a = tt
