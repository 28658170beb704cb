-- What a call of `open`, `edit` or `list` gives, by the contract above the function and by nothing else, is what specs/Calls says. Assumes
-- nothing.
use mathlib.Core.List.{List}
use mathlib.Core.Path.{◌≡◌}
use Prim.Native.Nat.{ℕ}
use Rattle.change.specs.declared.Edit.{Edit}
use Rattle.table.proofs.ContractLaws.{call_keeps}
use Rattle.table.specs.Asks.{Call, AsksNothing}
use Rattle.table.specs.Outcomes.{Outcome, reply_of, made_of}
use Rattle.table.specs.declared.Reply.{Reply}
use Rattle.table.specs.declared.Task.{Task}
use Rattle.session.proofs.open.Reads as opening
use Rattle.session.proofs.edit.Reads as editing
use Rattle.session.proofs.list.Reads as listing
use Rattle.session.specs.Calls.{Opens, Edits, listed}
use Rattle.table.specs.declared.TaskReply.{TaskReply}

-- Opening a session of t in the table s gives r and leaves `after`.
abbrev pub OpenGives : Task → List ℕ → Reply → List ℕ → Type 0
OpenGives t s r after =
    Call {I = Task × List ℕ} {O = Reply × List ℕ} opening.Post (λ a. (a.0, a.1.0.now)) (λ r b. (reply_of r, b.1.0.now)) (t, s) (r, after)

pub open_gives : (t : Task) (s : List ℕ) (r : Reply) (after : List ℕ) → OpenGives t s r after → Opens t s r after
open_gives t s r after = call_keeps (λ i o. Opens i.0 i.1 o.0 o.1) (λ k a r b p. p) (t, s) (r, after)

-- An edit of t in a session with the table s gives r and leaves `after`.
abbrev pub EditGives : Task → List ℕ → Edit → TaskReply → List ℕ → Type 0
EditGives t s e r after =
    Call {I = Task × List ℕ × Edit} {O = TaskReply × List ℕ} editing.Post (λ a. (a.0, a.1.0.now, a.1.1.0)) (λ r b. (made_of r, b.1.0.now))
    (t, s, e) (r, after)

pub edit_gives : (t : Task) (s : List ℕ) (e : Edit) (r : TaskReply) (after : List ℕ) → EditGives t s e r after → Edits t s e r after
edit_gives t s e r after = call_keeps (λ i o. Edits i.0 i.1 i.2 o.0 o.1) (λ k a r b p. p) (t, s, e) (r, after)

-- Listing the session of t in the table s, into this room, gives o.
abbrev pub ListGives : Task → List ℕ → List ℕ → Outcome → Type 0
ListGives t s room o =
    Call {I = Task × List ℕ × List ℕ} {O = Outcome} listing.Post (λ a. (a.0, a.1.0.now, a.1.1.0.now))
    (λ r b. record { reply = reply_of r; room = b.1.1.0.now }) (t, s, room) o

pub list_gives : (t : Task) (s room : List ℕ) (o : Outcome) → ListGives t s room o → o ≡ listed t s room
list_gives t s room o = call_keeps (λ i o. o ≡ listed i.0 i.1 i.2) (λ k a r b p. p) (t, s, room) o

pub open_asks_nothing : AsksNothing opening.Pre
open_asks_nothing k a = tt

pub edit_asks_nothing : AsksNothing editing.Pre
edit_asks_nothing k a = tt

pub list_asks_nothing : AsksNothing listing.Pre
list_asks_nothing k a = tt
