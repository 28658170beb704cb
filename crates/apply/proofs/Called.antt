-- What a call of `apply` gives, by the contract above the function and by nothing else, is what specs/Applying says. Assumes nothing.
use mathlib.Core.List.{List}
use Prim.Native.Nat.{ℕ}
use Rattle.table.proofs.ContractLaws.{call_keeps}
use Rattle.table.specs.Asks.{Call, AsksNothing}
use Rattle.table.specs.Outcomes.{made_of}
use Rattle.table.specs.declared.Task.{Task}
use Rattle.apply.proofs.apply.Reads as apply
use Rattle.apply.specs.Applying.{Applies}
use Rattle.table.specs.declared.TaskReply.{TaskReply}

-- Applying the list l to t gives r.
abbrev pub ApplyGives : Task → List ℕ → TaskReply → Type 0
ApplyGives t l r = Call {I = Task × List ℕ} {O = TaskReply} apply.Post (λ a. (a.0, a.1.0.now)) (λ r b. made_of r) (t, l) r

pub apply_gives : (t : Task) (l : List ℕ) (r : TaskReply) → ApplyGives t l r → Applies t l r
apply_gives t l r = call_keeps (λ i. Applies i.0 i.1) (λ k a r b p. p) (t, l) r

pub apply_asks_nothing : AsksNothing apply.Pre
apply_asks_nothing k a = tt
