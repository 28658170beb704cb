-- A buffer of the program's length and a room for the longest text make what is told of a listing what the program prints;
-- and that is one text. Assumes nothing.
use mathlib.Core.List.{List, ◌++◌}
use mathlib.Core.Path.{◌≡◌, sym, ap, ◌∙◌, subst}
use Prim.Native.Nat.{ℕ, ◌≤◌}
use native.Mathlib.Omega.{arith}
use lib.ListN.{length, take, drop, length-append, length-take}
use lib.Seq.{take_all}
use Rattle.table.specs.Outcomes.{Outcome}
use Rattle.taskformat.specs.Lengths.{program_room}
use Rattle.listing.specs.Listing.{Lists, ListsInto}
use Rattle.text.specs.Text.{longest_text}
use Rattle.listing.proofs.CutLaws.{text_cut}
use Rattle.listing.proofs.Determined.{text_unique, always_listed}
use Rattle.zernoplysk.specs.Printing.{Prints}

pub prints : {buffer room : List ℕ} {got : ℕ} {o : Outcome} → length buffer ≡ program_room → longest_text ≤ length room
    → ListsInto (take got buffer) room o → Prints buffer got room o.reply.length o.room
prints {buffer} {room} {got} {o} whole fits a =
    let e = always_listed fits a in
    let n : o.reply.length ≡ length a.text = ap (λ (p : Outcome). p.reply.length) e in
    record {
      text = a.text;
      lists = λ s h.
          (text_cut s a.text).0
          (subst (λ (b : List ℕ). Lists b a.text) (h ∙ ap (λ (k : ℕ). take k s) whole) a.lists);
      length_is = n;
      room_is = ap (λ (p : Outcome). p.room) e ∙ ap (λ (k : ℕ). a.text ++ drop k room) (sym n);
    }

-- What is printed lies in the room.
pub prints_within : {buffer room after : List ℕ} {got r : ℕ} → Prints buffer got room r after → r ≤ length after
prints_within {buffer} {room} {after} {got} {r} p =
    let e = ap length p.room_is in
    omega (arith, p.length_is, length-append p.text (drop r room))

-- It is the listing of what was read: that may be all that stands on standard input.
prints_read : {buffer room after : List ℕ} {got r : ℕ} (p : Prints buffer got room r after) → Lists (take got buffer) p.text
prints_read {buffer} {room} {after} {got} p =
    p.lists (take got buffer) (sym (take_all (length buffer) (take got buffer) (omega (arith, length-take got buffer))))

-- What is printed, and what the room holds, is determined.
pub prints_unique : {buffer room after other : List ℕ} {got r q : ℕ} → Prints buffer got room r after → Prints buffer got room q other
    → (r ≡ q) × (after ≡ other)
prints_unique {buffer} {room} {after} {other} {got} {r} {q} a b =
    let e = text_unique (prints_read a) (prints_read b) in
    let n : r ≡ q = a.length_is ∙ ap length e ∙ sym b.length_is in (
      n,
      a.room_is ∙ ap (λ (l : List ℕ). l ++ drop r room) e ∙ ap (λ (k : ℕ). b.text ++ drop k room) n ∙ sym b.room_is,
    )
