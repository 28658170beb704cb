-- What a call of `write_domain` or `write_problem` gives, by the contract above the function and by nothing else, is what specs/Writing says.
-- Assumes nothing.
use mathlib.Core.List.{List}
use mathlib.Core.Path.{◌≡◌}
use Prim.Native.Nat.{ℕ}
use Rattle.table.proofs.ContractLaws.{call_keeps}
use Rattle.table.specs.Asks.{Call, AsksNothing}
use Rattle.table.specs.Outcomes.{Outcome, reply_of}
use Rattle.table.specs.declared.Task.{Task}
use Rattle.pddlwriter.proofs.write_domain.Reads as write-domain
use Rattle.pddlwriter.proofs.write_problem.Reads as write-problem
use Rattle.pddlwriter.specs.Writing.{domain_written, problem_written}

-- Writing the domain text of t into this room gives o.
abbrev pub WriteDomainGives : Task → List ℕ → Outcome → Type 0
WriteDomainGives t room o =
    Call {I = Task × List ℕ} {O = Outcome} write-domain.Post (λ a. (a.0, a.1.0.now)) (λ r b. record { reply = reply_of r; room = b.1.0.now })
    (t, room) o

pub write_domain_gives : (t : Task) (room : List ℕ) (o : Outcome) → WriteDomainGives t room o → o ≡ domain_written t room
write_domain_gives t room o = call_keeps (λ i o. o ≡ domain_written i.0 i.1) (λ k a r b p. p) (t, room) o

pub write_domain_asks_nothing : AsksNothing write-domain.Pre
write_domain_asks_nothing k a = tt

-- Writing the problem text of a run of t into this room gives o.
abbrev pub WriteProblemGives : Task → ℕ → List ℕ → Outcome → Type 0
WriteProblemGives t run room o =
    Call {I = Task × ℕ × List ℕ} {O = Outcome} write-problem.Post (λ a. (a.0, a.1.0, a.1.1.0.now))
    (λ r b. record { reply = reply_of r; room = b.1.1.0.now }) (t, run, room) o

pub write_problem_gives : (t : Task) (run : ℕ) (room : List ℕ) (o : Outcome) → WriteProblemGives t run room o → o ≡ problem_written t run room
write_problem_gives t run room o = call_keeps (λ i o. o ≡ problem_written i.0 i.1 i.2) (λ k a r b p. p) (t, run, room) o

pub write_problem_asks_nothing : AsksNothing write-problem.Pre
write_problem_asks_nothing k a = tt
