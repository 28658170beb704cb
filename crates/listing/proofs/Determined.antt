-- The listing of an input is one text, which fits in `longest_text`; and what is told of it into lent room is one outcome.
-- Assumes nothing.
use mathlib.Core.Bool.{true}
use mathlib.Core.List.{List, [], ◌∷◌}
use mathlib.Core.Path.{◌≡◌, sym, ap, ◌∙◌, subst}
use Prim.Native.Nat.{ℕ, zero, suc, ◌≤◌, zero-le}
use native.Mathlib.Omega.{arith}
use lib.ListN.{length, take}
use Rattle.std.specs.Prelude.{Result, is_ok}
use Rattle.table.proofs.AcceptedLaws.{reply_ok}
use Rattle.table.proofs.OutcomeLaws.{given_fits}
use Rattle.runcheck.specs.OpenNeeds.{checked}
use Rattle.solve.specs.Solving.{Solves}
use Rattle.table.specs.Outcomes.{Outcome, answered, given, reply_of}
use Rattle.solve.proofs.SolveLaws.{solve_unique}
use Rattle.table.specs.declared.TaskReply.{TaskReply}
use Rattle.table.specs.declared.refusals.Refusal.{Refusal}
use Rattle.taskformat.proofs.Unique.{reads_unique}
use Rattle.text.specs.Text.{text_of, longest_text}
use Rattle.listing.specs.Listing.{answer_room, Lists, ListsInto}
use Rattle.listing.proofs.TellingLaws.{solved_fits, read_formed}
use Rattle.text.proofs.TextLength.{text_most}

pub text_unique : {input text other : List ℕ} → Lists input text → Lists input other → text ≡ other
text_unique a b =
    let e = reads_unique a.reads b.reads in
    let s = subst (λ (r : TaskReply). Solves r.task answer_room b.solved) (sym e) b.solves in
    let f = solve_unique a.read.task answer_room a.solved b.solved a.solves s in
    a.text_is ∙ ap (λ (r : TaskReply). text_of r (checked r.task) a.solved) e ∙
    ap (λ (o : Outcome). text_of b.read (checked b.read.task) o) f ∙ sym b.text_is

-- Two outcomes of listing an input into a room are equal.
pub listing_unique : {input room : List ℕ} {o p : Outcome} → ListsInto input room o → ListsInto input room p → o ≡ p
listing_unique {input} {room} a b =
    a.outcome ∙ ap (λ (t : List ℕ). given t room) (text_unique a.lists b.lists) ∙ sym b.outcome

take_most : (n : ℕ) (l : List ℕ) → length (take n l) ≤ n
take_most zero l = zero-le
take_most (suc n) [] = zero-le
take_most (suc n) (x ∷ l) = omega (arith, take_most n l)

pub text_fits : {input text : List ℕ} → Lists input text → length text ≤ longest_text
text_fits a =
    let o = a.solved in
    rw a.text_is
    (text_most a.read (checked a.read.task) o (λ ok. (read_formed a.reads ok).many_high)
    (omega (arith, take_most o.reply.length o.room, solved_fits a.solves)))

-- In room for the longest text the listing is never refused.
pub always_listed : {input room : List ℕ} {o : Outcome} → longest_text ≤ length room → (a : ListsInto input room o)
    → o ≡ answered a.text room
always_listed {input} {room} h a =
    let fits = text_fits a.lists in
    a.outcome ∙ given_fits a.text room (omega arith)

pub listed_ok : {input room after : List ℕ} (r : Result ℕ Refusal) → longest_text ≤ length room
    → ListsInto input room (record { reply = reply_of r; room = after }) → is_ok r ≡ true
listed_ok r h a = reply_ok r (ap (λ (o : Outcome). o.reply.number) (always_listed h a))
