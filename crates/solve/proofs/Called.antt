-- What a call of `solve` gives, by the contract above the function and by nothing else, is what specs/Solving says. Assumes nothing.
use mathlib.Core.List.{List}
use Prim.Native.Nat.{ℕ}
use Rattle.table.proofs.ContractLaws.{call_keeps}
use Rattle.table.specs.Asks.{Call, AsksNothing}
use Rattle.table.specs.Outcomes.{Outcome, reply_of}
use Rattle.table.specs.declared.Task.{Task}
use Rattle.solve.proofs.solve.Reads as solve
use Rattle.solve.specs.Solving.{Solves}

-- A solve of t into this room gives o.
abbrev pub SolveGives : Task → List ℕ → Outcome → Type 0
SolveGives t room o =
    Call {I = Task × List ℕ} {O = Outcome} solve.Post (λ a. (a.0, a.1.0.now)) (λ r b. record { reply = reply_of r; room = b.1.0.now }) (t, room) o

pub solve_gives : (t : Task) (room : List ℕ) (o : Outcome) → SolveGives t room o → Solves t room o
solve_gives t room o = call_keeps (λ i. Solves i.0 i.1) (λ k a r b p. p) (t, room) o

pub solve_asks_nothing : AsksNothing solve.Pre
solve_asks_nothing k a = tt
