-- Bytes placed one after another are placed as one list, and a list that fits fills the room's first places. Assumes nothing.
use mathlib.Core.List.{List, [], ◌∷◌, ◌++◌}
use mathlib.Core.Path.{◌≡◌, refl, ◌∙◌, ap}
use Prim.Native.Nat.{ℕ, suc, ◌+◌, ◌≤◌}
use native.Mathlib.Nat.{add-zero}
use native.Mathlib.Omega.{arith}
use lib.ListN.{length, set, drop, length-append}
use lib.Seq.{sets, sets-eq, set_out, length-sets}
use Rattle.room.specs.Placing.{placed, Placed}

sets_append : (xs ys l : List ℕ) (i : ℕ) → sets l i (xs ++ ys) ≡ sets (sets l i xs) (i + length xs) ys
sets_append [] ys l i = rw add-zero
sets_append (x ∷ xs) ys l i =
    let e : suc i + length xs ≡ i + suc (length xs) = omega arith in
    sets_append xs ys (set l i x) (suc i) ∙ rw e

pub placed_none : (room : List ℕ) (at : ℕ) → Placed room room at at []
unfolding placed
placed_none room at = record { next_is = omega arith; room_is = refl }

-- The one law that composes.
pub placed_more : {a b c : List ℕ} {at mid next : ℕ} {xs ys : List ℕ}
    → Placed a b at mid xs → Placed b c mid next ys → Placed a c at next (xs ++ ys)
unfolding placed
placed_more {a} {b} {c} {at} {mid} {next} {xs} {ys} p q = record {
  next_is = omega (arith, length-append xs ys, p.next_is, q.next_is);
  room_is = q.room_is ∙ rw (p.next_is, p.room_is, sets_append xs ys a at);
}

pub placed_byte : (room : List ℕ) (at b : ℕ) → Placed room (set room at b) at (at + 1) (b ∷ [])
unfolding placed
placed_byte room at b = record { next_is = refl; room_is = refl }

-- Past the room a byte is only counted.
pub placed_past : (room : List ℕ) (at b : ℕ) → length room ≤ at → Placed room room at (at + 1) (b ∷ [])
unfolding placed
placed_past room at b h = record { next_is = refl; room_is = rw (set_out room at b h) }

-- "from the first on .. and nothing beside"
pub placed_whole : {before after : List ℕ} {next : ℕ} {bytes : List ℕ}
    → Placed before after 0 next bytes → length bytes ≤ length before → after ≡ bytes ++ drop (length bytes) before
unfolding placed
placed_whole {before} {after} {next} {bytes} p h =
    let fits : 0 + length bytes ≤ length before = omega arith in
    let e : 0 + length bytes ≡ length bytes = omega arith in
    p.room_is ∙ sets-eq bytes before 0 fits ∙ rw e

pub placed_length : {before after : List ℕ} {at next : ℕ} {bytes : List ℕ}
    → Placed before after at next bytes → length after ≡ length before
unfolding placed
placed_length {before} {after} {at} {next} {bytes} p = ap length p.room_is ∙ length-sets before at bytes
