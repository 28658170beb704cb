-- A record that is written only where a test tells that its fact is in the set.
use mathlib.Core.Bool.{Bool, true, false}
use mathlib.Core.List.{List}
use mathlib.Core.Path.{◌≡◌, sym, ◌∙◌}
use Prim.Native.Nat.{ℕ, ◌+◌, ◌≤◌}
use lib.ListN.{length}
use Rattle.table.specs.Lists.{piece}
use Rattle.room.specs.Placing.{Placed}
use Rattle.room.proofs.PlacingLaws.{placed_none}

module _ {test : Bool} (b : Bool) (told : test ≡ b) where
  pub piece_fits : (l : List ℕ) (at most : ℕ) → test ≡ true → at + length (piece b l) ≤ most → at + length l ≤ most
  piece_fits l at most e h = rw (sym told ∙ e) at h

  pub piece_placed : {l room room' : List ℕ} {at next : ℕ} → test ≡ true
      → Placed room room' at next l → Placed room room' at next (piece b l)
  piece_placed e h = rw (sym told ∙ e) h

  pub piece_left_out : (l room : List ℕ) (at : ℕ) → test ≡ false → Placed room room at at (piece b l)
  piece_left_out l room at e = rw (sym told ∙ e) (placed_none room at)
