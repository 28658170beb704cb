-- `step_in`: a step above 255 counts as 255.
use mathlib.Core.Path.{◌≡◌, sym, ◌∙◌}
use Prim.Native.Nat.{ℕ, ◌<◌}
use native.Mathlib.Omega.{arith}
use borrow.Author.Tests.{lt-ltb, le-ltb}
use Rattle.std.specs.Prelude.{Result, Ok, Err}
use Rattle.std.specs.Result.{OkIff, result_unwrap_or}
use Rattle.table.proofs.FlagLaws.{by_order}
use Rattle.taskwords.specs.Words.{last_step, step_in}
use Rattle.taskwords.proofs.words.step_in.Goals as goal

least : {E : Type 0} (r : Result ℕ E) (w : ℕ) → OkIff r (w < 256) w → result_unwrap_or r 255 ≡ step_in w
unfolding step_in
least (Ok x) w h =
    by_order w last_step (λ l. h.1 ∙ sym (rw (lt-ltb w last_step l))) (λ l. let e : w ≡ 255 = omega (arith, h.0) in h.1 ∙ e ∙ sym (rw (le-ltb w last_step l)))
least (Err e) w h = by_order w last_step (λ l. absurd (h (omega arith))) (λ l. sym (rw (le-ltb w last_step l)))

pub returns : goal.returns
returns c = c.unwrap_or.ensures ∙ least c.try_from.result c.args.word c.try_from.ensures
