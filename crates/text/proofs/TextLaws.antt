-- The text as it is placed, by cases: a refused file, a refused solve, an answer. Assumes nothing.
use mathlib.Core.Bool.{Bool, true, false, cond}
use mathlib.Core.List.{List, [], ◌∷◌}
use mathlib.Core.Path.{◌≡◌, refl, ap}
use Prim.Native.Nat.{ℕ, ◌<◌}
use native.Mathlib.Omega.{arith}
use borrow.Author.Tests.{eq-eqb, ne_eqb, eqb-true}
use lib.Dec.{eqb}
use lib.ListN.{take}
use Rattle.table.specs.Refusals.{accepted}
use Rattle.table.proofs.GatherLaws.{gather_same}
use Rattle.runcheck.specs.declared.Checked.{Checked}
use Rattle.table.specs.Outcomes.{Outcome}
use Rattle.table.specs.declared.Task.{Task}
use Rattle.table.specs.declared.TaskReply.{TaskReply}
use Rattle.room.specs.Placing.{Placed}
use Rattle.room.proofs.PlacingLaws.{placed_more}
use Rattle.text.specs.Text.{line, task_word, steps_of_all, open_line, open_lines, refused_line, first_lines, answer_lines, read_text, text_of}

-- The first lines, with the steps as they were counted.
pub first_placed : (t : Task) (checks : ℕ → Checked) {a b c : List ℕ} {m next steps : ℕ} → steps ≡ steps_of_all t.runs
    → Placed a b 0 m (line task_word (t.table.facts ∷ t.table.actions ∷ t.table.limit ∷ steps ∷ []))
    → Placed b c m next (open_lines checks t.runs.many) → Placed a c 0 next (first_lines t checks)
first_placed t checks e p q = placed_more (rw e at p) q

-- The text shows the checks of the runs that there are, and of an accepted file only.
pub text_same : (r : TaskReply) (checks others : ℕ → Checked) (o : Outcome)
    → (r.number ≡ accepted → (i : ℕ) → i < r.task.runs.many → checks i ≡ others i) → text_of r checks o ≡ text_of r others o
unfolding text_of read_text
text_same r checks others o same = pick (eqb r.number accepted) refl
  where
    pick : (b : Bool) → eqb r.number accepted ≡ b
        → cond {A = List ℕ} b (read_text r.task checks o) (refused_line r.number r.place)
        ≡ cond {A = List ℕ} b (read_text r.task others o) (refused_line r.number r.place)
    pick false e = refl
    pick true e =
        let opened =
        gather_same (λ i. open_line (checks i)) (λ i. open_line (others i)) r.task.runs.many
        (λ i below. ap open_line (same (eqb-true r.number accepted e) i below)) in
        rw opened

module _ (r : TaskReply) (checks : ℕ → Checked) (o : Outcome) {a b : List ℕ} {next : ℕ} where
  pub refused_placed : 0 < r.number → Placed a b 0 next (refused_line r.number r.place) → Placed a b 0 next (text_of r checks o)
  unfolding text_of
  refused_placed h p = rw (ne_eqb r.number accepted (λ e. omega arith)) p

  module _ {m : List ℕ} {k : ℕ} (good : r.number ≡ accepted) (p : Placed a m 0 k (first_lines r.task checks)) where
    pub unsolved_placed : 0 < o.reply.number → Placed m b k next (refused_line o.reply.number o.reply.place)
        → Placed a b 0 next (text_of r checks o)
    unfolding text_of read_text
    unsolved_placed h q =
        rw (eq-eqb r.number accepted good, ne_eqb o.reply.number accepted (λ e. omega arith)) (placed_more p q)

    pub solved_placed : o.reply.number ≡ accepted → Placed m b k next (answer_lines (take o.reply.length o.room))
        → Placed a b 0 next (text_of r checks o)
    unfolding text_of read_text
    solved_placed h q = rw (eq-eqb r.number accepted good, eq-eqb o.reply.number accepted h) (placed_more p q)
