-- An answer whose number is that of an accepted call is Ok (specs/Outcomes). Assumes nothing.
use mathlib.Core.Bool.{true}
use mathlib.Core.Path.{◌≡◌, refl}
use Prim.Native.Nat.{ℕ}
use Rattle.std.specs.Prelude.{Result, Ok, Err, is_ok}
use Rattle.table.proofs.WhyLaws.{number_some}
use Rattle.table.specs.Outcomes.{reply_of, made_of}
use Rattle.table.specs.Refusals.{accepted}
use Rattle.table.specs.declared.Task.{Task}
use Rattle.table.specs.declared.refusals.Refusal.{Refusal}
use Rattle.table.specs.declared.refusals.Returned.{Returned}

pub reply_ok : (r : Result ℕ Refusal) → (reply_of r).number ≡ accepted → is_ok r ≡ true
reply_ok (Ok n) h = refl
reply_ok (Err e) h = absurd (number_some e.why h)

pub made_ok : (r : Result Task Returned) → (made_of r).number ≡ accepted → is_ok r ≡ true
made_ok (Ok t) h = refl
made_ok (Err e) h = absurd (number_some e.refusal.why h)
