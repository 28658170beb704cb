-- `task_in`: the task of 668 words, each part from its place, and of another number of them the task of zeros.
use mathlib.Core.List.{List}
use mathlib.Core.Path.{◌≡◌, ap}
use Prim.Native.Nat.{ℕ}
use borrow.Author.Tests.{eq-eqb, ne_eqb}
use lib.ListN.{length, get_or}
use Rattle.table.specs.declared.Task.{Task}
use Rattle.taskwords.specs.Words.{table_words, task_words, unpacked, task_in}
use Rattle.taskwords.proofs.words.task_in.Goals as goal

-- each part as it stands among the words: together they are the task
made : (ws : List ℕ) → length ws ≡ task_words → {n a d l s g k e : List ℕ}
    → n ≡ (unpacked ws).table.needs
    → a ≡ (unpacked ws).table.adds
    → d ≡ (unpacked ws).table.deletes
    → l ≡ (unpacked ws).table.locks
    → s ≡ (unpacked ws).runs.starts
    → g ≡ (unpacked ws).runs.goals
    → k ≡ (unpacked ws).runs.counts
    → e ≡ (unpacked ws).runs.steps
    → ◌≡◌ {A = Task}
    (record {
      table = record { facts = get_or ws 0 0; actions = get_or ws 1 0; limit = get_or ws 2 0; needs = n; adds = a; deletes = d; locks = l };
      runs = record { many = get_or ws table_words 0; starts = s; goals = g; counts = k; steps = e };
    })
    (task_in ws)
unfolding task_in
made ws h en ea ed el es eg ek ee = rw (eq-eqb (length ws) task_words h, en, ea, ed, el, es, eg, ek, ee)

pub returns-then-words-ne-TASK_WORDS : goal.returns-then-words-ne-TASK_WORDS
unfolding task_in
returns-then-words-ne-TASK_WORDS c = rw (ne_eqb _ _ c.if-words-ne-TASK_WORDS.true) c.no_task.ensures

pub copy_steps-requires-clause-steps_value : goal.copy_steps-requires-clause-steps_value
copy_steps-requires-clause-steps_value c = ap (λ (t : Task). t.runs.steps) c.no_task-t.ensures

pub returns : goal.returns
returns c =
    made c.args.words.now c.if-words-ne-TASK_WORDS.false
    c.copy_masks.ensures
    c.copy_masks-2.ensures
    c.copy_masks-3.ensures
    c.copy_masks-4.ensures
    c.copy_masks-5.ensures
    c.copy_masks-6.ensures
    c.copy_counts.ensures
    c.copy_steps.ensures
