-- What a call of `is_formed` gives, by the contract above the function and by nothing else, is what specs/Tasks says. Assumes nothing.
use mathlib.Core.Bool.{Bool}
use mathlib.Core.Path.{◌≡◌}
use Rattle.table.proofs.ContractLaws.{call_keeps}
use Rattle.table.proofs.formed.is_formed.Reads as is_formed_lem
use Rattle.table.specs.Asks.{Call, AsksNothing}
use Rattle.table.specs.Tasks.{formed}
use Rattle.table.specs.declared.Task.{Task}

-- Whether t is well formed is told as b.
abbrev pub FormedGives : Task → Bool → Type 0
FormedGives t b = Call {I = Task} {O = Bool} is_formed_lem.Post (λ a. a.0) (λ r b. r) t b

pub formed_gives : (t : Task) (b : Bool) → FormedGives t b → b ≡ formed t
formed_gives t b = call_keeps (λ t b. b ≡ formed t) (λ k a r b p. p) t b

pub formed_asks_nothing : AsksNothing is_formed_lem.Pre
formed_asks_nothing k a = tt
