-- Laws of a run put to a task: its steps copied, the ways out of the call, and that what is accepted is well formed. Assumes
-- nothing.
use mathlib.Core.Bool.{true, false}
use mathlib.Core.List.{List, ◌++◌}
use mathlib.Core.Path.{◌≡◌, refl, sym, ap, ◌∙◌}
use Prim.Native.Nat.{ℕ, ◌+◌, ◌-◌, ◌*◌, ◌<◌, ◌≤◌}
use borrow.Rule.Slice.PartMut.{put_mid}
use native.Mathlib.Omega.{arith}
use lib.ListN.{length, take, drop, length-set}
use lib.Seq.{sets, sets-eq, take-length, length-sets, get_or-set_same}
use Rattle.std.proofs.lemmas.Slice.{put_mid-paste}
use Rattle.table.proofs.FlagLaws.{is_false, cond_by}
use Rattle.table.proofs.Formation.{formed_well}
use Rattle.table.specs.Refusals.{accepted}
use Rattle.table.specs.Sizes.{max_runs, max_steps}
use Rattle.table.specs.Tasks.{formed, Shaped, WellFormed}
use Rattle.table.specs.declared.Task.{Task}
use Rattle.table.specs.declared.TaskReply.{TaskReply}
use Rattle.taskformat.specs.Reading.{accepted_read}
use Rattle.addrun.specs.Adding.{with_run, refused_run, run_added}

-- ---- the steps copied

pub steps_stored : (l vs u : List ℕ) (p : ℕ) → p + length vs ≤ length l → u ≡ vs → put_mid p (p + length vs - p) l u ≡ sets l p vs
steps_stored l vs u p h e =
    put_mid-paste p (p + length vs - p) l u vs (length vs) e (omega arith) refl ∙
    ap (λ (x : List ℕ). (take p l ++ x) ++ drop (p + length vs) l) (take-length vs) ∙ sym (sets-eq vs l p h)

module _ (t : Task) (start goal : ℕ) (steps : List ℕ) where
  -- ---- the task with the run: its arrays have their lengths, and so the test gives the named parts

  shaped_with : Shaped t → Shaped (with_run t start goal steps)
  unfolding with_run
  shaped_with s = record {
    needs = s.needs;
    adds = s.adds;
    deletes = s.deletes;
    locks = s.locks;
    starts = length-set t.runs.starts t.runs.many start ∙ s.starts;
    goals = length-set t.runs.goals t.runs.many goal ∙ s.goals;
    counts = length-set t.runs.counts t.runs.many (length steps) ∙ s.counts;
    steps = length-sets t.runs.steps (max_steps * t.runs.many) steps ∙ s.steps;
  }

  with_well : Shaped t → formed (with_run t start goal steps) ≡ true → WellFormed (with_run t start goal steps)
  with_well s = formed_well (with_run t start goal steps) (shaped_with s)

  -- ---- the ways out of the call

  refused_out : formed (with_run t start goal steps) ≡ false → refused_run t ≡ run_added t start goal steps
  unfolding run_added
  refused_out h = rw h

  pub ninth_out : Shaped t → max_runs ≤ t.runs.many → refused_run t ≡ run_added t start goal steps
  unfolding with_run
  ninth_out s h = refused_out (is_false (formed (with_run t start goal steps)) (λ w. omega (arith, (with_well s w).many_high)))

  pub long_out : Shaped t → t.runs.many < max_runs → max_steps < length steps → refused_run t ≡ run_added t start goal steps
  unfolding with_run
  long_out s few long =
      let count = get_or-set_same t.runs.counts t.runs.many (length steps) 0 (omega (arith, s.counts)) in
      refused_out (is_false (formed (with_run t start goal steps)) (λ w. omega (arith, (with_well s w).count_high t.runs.many, count)))

  pub unformed_out : (u : Task) → u ≡ with_run t start goal steps → formed u ≡ false → refused_run t ≡ run_added t start goal steps
  unformed_out u made h = refused_out (sym (ap formed made) ∙ h)

  pub accepted_out : (u : Task) → u ≡ with_run t start goal steps → formed u ≡ true → accepted_read u ≡ run_added t start goal steps
  unfolding run_added
  accepted_out u made h = rw (sym (ap formed made) ∙ h) (ap accepted_read made)

  -- ---- whatever the call accepts is well formed

  pub added_well : Shaped t → (run_added t start goal steps).number ≡ accepted → WellFormed (run_added t start goal steps).task
  unfolding run_added
  added_well s =
      cond_by (λ (r : TaskReply). r.number ≡ accepted → WellFormed r.task) (formed (with_run t start goal steps)) (λ h _. with_well s h)
      (λ _ n. absurd (omega arith))
