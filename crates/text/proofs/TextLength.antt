-- How long a listing can be: no longer than `longest_text`. Assumes nothing.
use mathlib.Core.Bool.{Bool, true, false, cond}
use mathlib.Core.List.{List, [], ◌∷◌, ◌++◌}
use mathlib.Core.Path.{◌≡◌, refl}
use Prim.Native.Nat.{ℕ, ◌+◌, ◌*◌, ◌≤◌}
use native.Mathlib.Omega.{arith}
use borrow.Author.Tests.{eqb-true}
use lib.Dec.{eqb}
use lib.ListN.{length, take, length-append}
use Rattle.table.specs.Refusals.{accepted}
use Rattle.table.specs.Repairs.{drop_delete, add_effect, kind_of, action_of, fact_of}
use Rattle.table.specs.Sizes.{max_limit, max_runs}
use Rattle.table.proofs.GatherLaws.{gather_most}
use Rattle.table.specs.declared.Task.{Task}
use Rattle.runcheck.specs.declared.Checked.{Checked}
use Rattle.table.specs.Outcomes.{Outcome}
use Rattle.table.specs.declared.TaskReply.{TaskReply}
use Rattle.room.specs.Placing.{last_place}
use Rattle.text.specs.Text.{line_most, longest_text, each, line, task_word, open_word, set_word, drop_delete_word, add_effect_word, drop_need_word, end_word, refused_word, steps_of_all, task_line, open_line, open_lines, set_line, repair_line, end_line, refused_line, first_lines, answer_lines, read_text, text_of}
use Rattle.text.proofs.EachLaws.{each_most}
use Rattle.text.proofs.LineLaws.{line_most_lem}

repair_most : (n : ℕ) → length (repair_line n) ≤ line_most 11 2
repair_most n = pick (eqb (kind_of n) drop_delete) (eqb (kind_of n) add_effect)
  where
    pick : (d a : Bool)
        → length (line (cond {A = List ℕ} d drop_delete_word (cond {A = List ℕ} a add_effect_word drop_need_word)) (action_of n ∷ fact_of n ∷ []))
        ≤ line_most 11 2
    pick true a = line_most_lem drop_delete_word (action_of n ∷ fact_of n ∷ [])
    pick false true = omega (arith, line_most_lem add_effect_word (action_of n ∷ fact_of n ∷ []))
    pick false false = omega (arith, line_most_lem drop_need_word (action_of n ∷ fact_of n ∷ []))

pub refused_most : (number place : ℕ) → length (refused_line number place) ≤ line_most 7 2
refused_most number place = line_most_lem refused_word (number ∷ place ∷ [])

open_most : (c : Checked) → length (open_line c) ≤ line_most 4 3
open_most c = line_most_lem open_word (c.total ∷ c.step ∷ c.fact ∷ [])

pub task_most : (a b c d : ℕ) → length (line task_word (a ∷ b ∷ c ∷ d ∷ [])) ≤ line_most 4 4
task_most a b c d = line_most_lem task_word (a ∷ b ∷ c ∷ d ∷ [])

opens_most : (checks : ℕ → Checked) (many : ℕ) → many ≤ max_runs → length (open_lines checks many) ≤ max_runs * line_most 4 3
opens_most checks many few =
    omega (arith, gather_most (λ i. open_line (checks i)) (line_most 4 3) many (λ i. open_most (checks i)))

-- After the task line there is a place for each of them that can be counted.
pub opens_fit : (checks : ℕ → Checked) (many at : ℕ) → many ≤ max_runs → at ≤ line_most 4 4 → at + length (open_lines checks many) ≤ last_place
opens_fit checks many at few h = omega (arith, opens_most checks many few)

pub first_most : (t : Task) (checks : ℕ → Checked) → t.runs.many ≤ max_runs
    → length (first_lines t checks) ≤ line_most 4 4 + max_runs * line_most 4 3
first_most t checks few =
    omega (
      arith,
      length-append (task_line t) (open_lines checks t.runs.many),
      task_most t.table.facts t.table.actions t.table.limit (steps_of_all t.runs),
      opens_most checks t.runs.many few,
    )

pub answer_most : (list : List ℕ) → length list ≤ max_limit
    → length (answer_lines list) ≤ line_most 3 1 + max_limit * line_most 11 2 + line_most 3 0
answer_most list h =
    omega (
      arith,
      length-append (set_line (length list) ++ each repair_line list) end_line,
      length-append (set_line (length list)) (each repair_line list),
      line_most_lem set_word (length list ∷ []),
      each_most repair_line (line_most 11 2) repair_most list,
      line_most_lem end_word [],
    )

-- For a file whose task is well formed, and for any that was refused.
pub text_most : (r : TaskReply) (checks : ℕ → Checked) (o : Outcome) → (r.number ≡ accepted → r.task.runs.many ≤ max_runs)
    → length (take o.reply.length o.room) ≤ max_limit → length (text_of r checks o) ≤ longest_text
unfolding text_of read_text
text_most r checks o few h = pick (eqb r.number accepted) refl (eqb o.reply.number accepted)
  where
    pick : (a : Bool) → eqb r.number accepted ≡ a → (b : Bool)
        → length
        (cond {A = List ℕ} a
        (cond {A = List ℕ} b
        (first_lines r.task checks ++ answer_lines (take o.reply.length o.room))
        (first_lines r.task checks ++ refused_line o.reply.number o.reply.place))
        (refused_line r.number r.place))
        ≤ longest_text
    pick true e true =
        omega (
          arith,
          length-append (first_lines r.task checks) (answer_lines (take o.reply.length o.room)),
          first_most r.task checks (few (eqb-true r.number accepted e)),
          answer_most (take o.reply.length o.room) h,
        )
    pick true e false =
        omega (
          arith,
          length-append (first_lines r.task checks) (refused_line o.reply.number o.reply.place),
          first_most r.task checks (few (eqb-true r.number accepted e)),
          refused_most o.reply.number o.reply.place,
        )
    pick false e b = omega (arith, refused_most r.number r.place)
