-- What a call of `check_run` gives, by the contract above the function and by nothing else, is what specs/OpenNeeds says. Assumes nothing.
use mathlib.Core.Path.{◌≡◌}
use Prim.Native.Nat.{ℕ}
use Rattle.table.proofs.ContractLaws.{call_keeps}
use Rattle.table.specs.Asks.{Call, AsksNothing}
use Rattle.table.specs.declared.Task.{Task}
use Rattle.runcheck.proofs.check_run.Reads as check
use Rattle.runcheck.specs.OpenNeeds.{checked, checked_of}
use Rattle.runcheck.specs.declared.Checked.{Checked}

-- The check of a run of t gives r.
abbrev pub CheckGives : Task → ℕ → Checked → Type 0
CheckGives t run r = Call {I = Task × ℕ} {O = Checked} check.Post (λ a. (a.0, a.1.0)) (λ r b. checked_of r) (t, run) r

pub check_gives : (t : Task) (run : ℕ) (r : Checked) → CheckGives t run r → r ≡ checked t run
check_gives t run r = call_keeps (λ (i : Task × ℕ) r. r ≡ checked i.0 i.1) (λ k a r b p. p) (t, run) r

pub check_asks_nothing : AsksNothing check.Pre
check_asks_nothing k a = tt
