-- What a call of `read` gives, by the contract above the function and by nothing else, is what specs/Reading (taskformat) says. Assumes
-- nothing.
use mathlib.Core.List.{List}
use Prim.Native.Nat.{ℕ}
use Rattle.table.proofs.ContractLaws.{call_keeps}
use Rattle.table.specs.Asks.{Call, AsksNothing}
use Rattle.taskfile.proofs.read.Reads as read
use Rattle.table.specs.Outcomes.{read_of}
use Rattle.taskformat.specs.Reading.{ReadsFile}
use Rattle.table.specs.declared.TaskReply.{TaskReply}

-- Reading the file s gives r.
abbrev pub ReadGives : List ℕ → TaskReply → Type 0
ReadGives s r = Call {I = List ℕ} {O = TaskReply} read.Post (λ a. a.0.now) (λ r b. read_of r) s r

pub read_gives : (s : List ℕ) (r : TaskReply) → ReadGives s r → ReadsFile s r
read_gives s r = call_keeps ReadsFile (λ k a r b p. p) s r

pub read_asks_nothing : AsksNothing read.Pre
read_asks_nothing k a = tt
