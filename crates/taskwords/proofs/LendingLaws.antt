-- A task lent in and out: when its words are written, and that the new task then fills them. Assumes nothing.
use mathlib.Core.Bool.{Bool, true, false}
use mathlib.Core.List.{List, ◌++◌, append-nil}
use mathlib.Core.Path.{◌≡◌, refl, sym, ap, ◌∙◌}
use Prim.Native.Nat.{ℕ}
use native.Mathlib.Omega.{arith}
use borrow.Author.Tests.{eq-eqb, ne_eqb, eqb-true, eqb-false}
use lib.Dec.{eqb}
use lib.ListN.{length, drop_of_length-le}
use Rattle.room.proofs.PlacingLaws.{placed_whole}
use Rattle.room.specs.Placing.{Placed}
use Rattle.table.specs.Refusals.{accepted}
use Rattle.table.specs.Tasks.{Shaped, formed}
use Rattle.table.specs.declared.Task.{Task}
use Rattle.taskwords.specs.Words.{task_words, task_in, table_out, runs_out, task_out, lent_back}
use Rattle.taskwords.proofs.RoundTrip.{other_length}
use Rattle.taskwords.proofs.WordLaws.{task_length}

module _ (ws : List ℕ) (number : ℕ) (t : Task) where
  -- A refused call leaves the words as they were.
  pub lent_back_kept : (number ≡ accepted → ⊥) → lent_back ws number t ≡ ws
  unfolding lent_back
  lent_back_kept h = rw (ne_eqb number accepted h)

  -- An accepted one has filled all of them.
  pub lent_back_filled : {after : List ℕ} {next : ℕ} → number ≡ accepted → length ws ≡ task_words → Shaped t
      → Placed ws after 0 next (table_out t.table ++ runs_out t.runs) → after ≡ lent_back ws number t
  unfolding lent_back task_out
  lent_back_filled h whole s p =
      let full = task_length t s in
      rw (eq-eqb number accepted h)
      (placed_whole p (omega arith) ∙
      ap (λ l. task_out t ++ l) (drop_of_length-le ws {i = length (table_out t.table ++ runs_out t.runs)} (omega arith)) ∙ append-nil (task_out t))

-- Only 668 words are a well-formed task.
pub formed_length : (ws : List ℕ) → formed (task_in ws) ≡ true → length ws ≡ task_words
formed_length ws h = pick (eqb (length ws) task_words) refl
  where
    pick : (b : Bool) → eqb (length ws) task_words ≡ b → length ws ≡ task_words
    pick true e = eqb-true (length ws) task_words e
    pick false e =
        let other : false ≡ true = sym (other_length ws (eqb-false (length ws) task_words e)) ∙ h in
        let clash : ◌≡◌ {A = ℕ} 0 1 = cc in
        absurd (omega arith)
