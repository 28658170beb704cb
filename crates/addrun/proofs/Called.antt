-- What a call of `add_run` gives, by the contract above the function and by nothing else, is what specs/Adding says. Assumes nothing.
use mathlib.Core.List.{List}
use mathlib.Core.Path.{◌≡◌}
use Prim.Native.Nat.{ℕ}
use Rattle.table.proofs.ContractLaws.{call_keeps}
use Rattle.table.specs.Asks.{Call, AsksNothing}
use Rattle.table.specs.Outcomes.{made_of}
use Rattle.table.specs.declared.Task.{Task}
use Rattle.table.specs.declared.TaskReply.{TaskReply}
use Rattle.addrun.proofs.add_run.Reads as add-run
use Rattle.addrun.specs.Adding.{run_added}

-- Putting a run of this start, this goal and these steps to t gives r.
abbrev pub AddRunGives : Task → ℕ → ℕ → List ℕ → TaskReply → Type 0
AddRunGives t start goal steps r =
    Call {I = Task × ℕ × ℕ × List ℕ} {O = TaskReply} add-run.Post (λ a. (a.0, a.1.0, a.1.1.0, a.1.1.1.0.now)) (λ r b. made_of r)
    (t, start, goal, steps) r

pub add_run_gives : (t : Task) (start goal : ℕ) (steps : List ℕ) (r : TaskReply) → AddRunGives t start goal steps r
    → r ≡ run_added t start goal steps
add_run_gives t start goal steps r =
    call_keeps (λ i r. r ≡ run_added i.0 i.1 i.2 i.3) (λ k a r b p. p) (t, start, goal, steps) r

pub add_run_asks_nothing : AsksNothing add-run.Pre
add_run_asks_nothing k a = tt
