-- How many words a task and an answer that holds one have.
use mathlib.Core.Path.{◌≡◌}
use Prim.Native.Nat.{ℕ}
use native.Mathlib.Omega.{arith}
use lib.ListN.{length, length-append}
use Rattle.table.specs.Sizes.{max_actions}
use Rattle.table.specs.Tasks.{Shaped}
use Rattle.table.specs.declared.Table.{Table}
use Rattle.table.specs.declared.Task.{Task}
use Rattle.taskwords.specs.Words.{table_words, runs_words, task_words, table_out, runs_out, task_out}
use Rattle.taskwords.specs.Answers.{answer_most, task_answer}

pub table_length : (t : Table) → length t.needs ≡ max_actions → length t.adds ≡ max_actions → length t.deletes ≡ max_actions
    → length t.locks ≡ max_actions → length (table_out t) ≡ table_words
unfolding table_out
table_length t n a d l = simp length-append (omega arith)

pub runs_length : (t : Task) → Shaped t → length (runs_out t.runs) ≡ runs_words
unfolding runs_out
runs_length t s = simp length-append (omega (arith, s.starts, s.goals, s.counts, s.steps))

pub task_length : (t : Task) → Shaped t → length (task_out t) ≡ task_words
unfolding task_out
task_length t s =
    simp length-append (omega (arith, table_length t.table s.needs s.adds s.deletes s.locks, runs_length t s))

pub answer_length : (number place : ℕ) (t : Task) → Shaped t → length (task_answer number place t) ≡ answer_most
answer_length number place t s =
    simp length-append (omega (arith, table_length t.table s.needs s.adds s.deletes s.locks, runs_length t s))
