-- What a call of `write` gives, by the contract above the function and by nothing else, is what specs/Writing says. Assumes nothing.
use mathlib.Core.List.{List}
use mathlib.Core.Path.{◌≡◌}
use Prim.Native.Nat.{ℕ}
use Rattle.table.proofs.ContractLaws.{call_keeps}
use Rattle.table.specs.Asks.{Call, AsksNothing}
use Rattle.table.specs.Outcomes.{Outcome, reply_of}
use Rattle.table.specs.declared.Task.{Task}
use Rattle.taskwriter.proofs.write.Reads as write
use Rattle.taskwriter.specs.Writing.{written}

-- Writing t into this room gives o.
abbrev pub WriteGives : Task → List ℕ → Outcome → Type 0
WriteGives t room o =
    Call {I = Task × List ℕ} {O = Outcome} write.Post (λ a. (a.0, a.1.0.now)) (λ r b. record { reply = reply_of r; room = b.1.0.now }) (t, room) o

pub write_gives : (t : Task) (room : List ℕ) (o : Outcome) → WriteGives t room o → o ≡ written t room
write_gives t room o = call_keeps (λ i o. o ≡ written i.0 i.1) (λ k a r b p. p) (t, room) o

pub write_asks_nothing : AsksNothing write.Pre
write_asks_nothing k a = tt
