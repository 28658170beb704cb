-- The calls that change the task lent to them: where one was accepted there are 668 words to give it back in. Assumes nothing.
use mathlib.Core.Bool.{Bool, true, false}
use mathlib.Core.List.{List}
use mathlib.Core.Path.{◌≡◌, refl, ap}
use Prim.Native.Nat.{ℕ}
use native.Mathlib.Omega.{arith}
use borrow.Author.Tests.{eqb-true}
use lib.Dec.{eqb}
use lib.ListN.{length}
use Rattle.addrun.specs.Adding.{with_run, run_added}
use Rattle.apply.proofs.ApplyLaws.{applies_unformed, applies_unique}
use Rattle.apply.specs.Applying.{Applies}
use Rattle.change.specs.declared.Edit.{Edit}
use Rattle.session.proofs.CallLaws.{edit_malformed}
use Rattle.session.specs.Calls.{Edits}
use Rattle.table.specs.Refusals.{Refusal, accepted}
use Rattle.table.specs.Tasks.{sizes_formed, formed}
use Rattle.table.specs.declared.TaskReply.{TaskReply}
use Rattle.taskwords.proofs.LendingLaws.{formed_length}
use Rattle.taskwords.specs.Words.{task_words, task_in}

pub applied_length : (ws list : List ℕ) (y : TaskReply) → Applies (task_in ws) list y → y.number ≡ accepted → length ws ≡ task_words
applied_length ws list y a ok = pick (formed (task_in ws)) refl
  where
    pick : (b : Bool) → formed (task_in ws) ≡ b → length ws ≡ task_words
    pick true e = formed_length ws e
    pick false e =
        absurd (omega (arith, ap (λ (q : TaskReply). q.number) (applies_unique (task_in ws) list y _ a (applies_unformed (task_in ws) list e))))

pub edited_length : (ws table : List ℕ) (e : Edit) (y : TaskReply) (after : List ℕ) → Edits (task_in ws) table e y after → y.number ≡ accepted
    → length ws ≡ task_words
edited_length ws table e y after a ok = pick (formed (task_in ws)) refl
  where
    pick : (b : Bool) → formed (task_in ws) ≡ b → length ws ≡ task_words
    pick true h = formed_length ws h
    pick false h = absurd (omega (arith, a.number, ap (λ (q : Refusal). q.number) (edit_malformed (task_in ws) table e h)))

-- A task without facts is none with a run more either.
pub added_length : (ws : List ℕ) (start goal : ℕ) (steps : List ℕ) (y : TaskReply) → y ≡ run_added (task_in ws) start goal steps → y.number ≡ accepted
    → length ws ≡ task_words
unfolding task_in with_run run_added sizes_formed formed
added_length ws start goal steps y a ok = pick (eqb (length ws) task_words) refl
  where
    pick : (b : Bool) → eqb (length ws) task_words ≡ b → length ws ≡ task_words
    pick true e = eqb-true (length ws) task_words e
    pick false e = absurd (omega (arith, ap (λ (q : TaskReply). q.number) (rw e at a)))
