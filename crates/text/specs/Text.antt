-- The text of a listing, byte by byte: document 01, "The listing"; 02, request 1.
use Rattle.std.specs.Prelude.{cond, List, [], ◌∷◌, ◌++◌, ℕ, zero, suc, ◌+◌, ◌*◌, ◌/◌, ◌%◌, eqb, ltb, length, get_or, take}
use Rattle.table.specs.Counting.{sum_below}
use Rattle.table.specs.Lists.{gather}
use Rattle.table.specs.Refusals.{accepted}
use Rattle.table.specs.Repairs.{by_kind, kind_of, action_of, fact_of}
use Rattle.table.specs.Sizes.{max_limit, max_runs}
use Rattle.table.specs.Tasks.{count_of}
use Rattle.table.specs.declared.Runs.{Runs}
use Rattle.table.specs.declared.Task.{Task}
use Rattle.runcheck.specs.OpenNeeds.{open_needs}
use Rattle.runcheck.specs.declared.Checked.{Checked}
use Rattle.table.specs.Outcomes.{Outcome}
use Rattle.table.specs.declared.TaskReply.{TaskReply}
use Rattle.text.specs.Ascii.{bytes_of}

-- The bytes of ASCII that a listing has beside its words: line feed, space and the digits from 0.
abbrev pub feed : ℕ
feed = 10

abbrev pub space : ℕ
space = 32

abbrev pub digit_zero : ℕ
digit_zero = 48

-- "Numbers are decimal": the last digit of n, and before it the digits of n / 10, of which a number below 10 has none.
-- At most `most` digits.
unfoldable pub digits : ℕ → ℕ → List ℕ
digits zero n = []
digits (suc most) n = cond {A = List ℕ} (ltb n 10) [] (digits most (n / 10)) ++ ((digit_zero + n % 10) ∷ [])

-- The greatest number of 64 bits has twenty digits.
abbrev pub most_digits : ℕ
most_digits = 20

abbrev pub decimal : ℕ → List ℕ
decimal n = digits most_digits n

-- What p gives for each of the numbers, one after another.
unfoldable pub each : (ℕ → List ℕ) → List ℕ → List ℕ
each p [] = []
each p (x ∷ xs) = p x ++ each p xs

-- "one space between fields and a line feed after each line"
abbrev pub field : ℕ → List ℕ
field n = space ∷ decimal n

unfoldable pub line : List ℕ → List ℕ → List ℕ
line word numbers = word ++ each field numbers ++ (feed ∷ [])

-- The words that lines begin with.
abbrev pub task_word : List ℕ
task_word = bytes_of "task"

abbrev pub open_word : List ℕ
open_word = bytes_of "open"

abbrev pub set_word : List ℕ
set_word = bytes_of "set"

abbrev pub drop_delete_word : List ℕ
drop_delete_word = bytes_of "drop-delete"

abbrev pub add_effect_word : List ℕ
add_effect_word = bytes_of "add-effect"

abbrev pub drop_need_word : List ℕ
drop_need_word = bytes_of "drop-need"

abbrev pub end_word : List ℕ
end_word = bytes_of "end"

abbrev pub refused_word : List ℕ
refused_word = bytes_of "refused"

-- "the task line's steps are the sum over the runs" (02, request 1)
abbrev pub steps_of_all : Runs → ℕ
steps_of_all r = sum_below (count_of r) r.many

-- "Fields: facts, actions, limit, steps; total open needs, first step, its lowest fact; length; then action and fact of
-- each repair."
abbrev pub task_line : Task → List ℕ
task_line t = line task_word (t.table.facts ∷ t.table.actions ∷ t.table.limit ∷ steps_of_all t.runs ∷ [])

abbrev pub open_line : Checked → List ℕ
open_line c = line open_word (c.total ∷ c.step ∷ c.fact ∷ [])

abbrev pub set_line : ℕ → List ℕ
set_line n = line set_word (n ∷ [])

abbrev pub repair_word : ℕ → List ℕ
repair_word kind = by_kind kind drop_delete_word add_effect_word drop_need_word

abbrev pub repair_line : ℕ → List ℕ
repair_line n = line (repair_word (kind_of n)) (action_of n ∷ fact_of n ∷ [])

abbrev pub end_line : List ℕ
end_line = line end_word []

abbrev pub refused_line : ℕ → ℕ → List ℕ
refused_line number place = line refused_word (number ∷ place ∷ [])

-- "one open line per run, in order" (02, request 1); what the check of each run gave is `checks`.
abbrev pub open_lines : (ℕ → Checked) → ℕ → List ℕ
open_lines checks many = gather (λ i. open_line (checks i)) many

-- The first lines of a file that was read.
abbrev pub first_lines : Task → (ℕ → Checked) → List ℕ
first_lines t checks = task_line t ++ open_lines checks t.runs.many

-- The checks of the runs as the code has them, one after another.
abbrev pub check_in : List Checked → ℕ → Checked
check_in checks i = get_or checks i (open_needs 0 0 0)

-- The lines of an answer; "a solved listing closes with `end`".
abbrev pub answer_lines : List ℕ → List ℕ
answer_lines list = set_line (length list) ++ each repair_line list ++ end_line

-- "A refused solve prints the first two lines and then that line"; an open line per run, "before a solve's refusal" (02, request 1).
unfoldable pub read_text : Task → (ℕ → Checked) → Outcome → List ℕ
read_text t checks o =
    cond {A = List ℕ} (eqb o.reply.number accepted)
    (first_lines t checks ++ answer_lines (take o.reply.length o.room))
    (first_lines t checks ++ refused_line o.reply.number o.reply.place)

-- "A refused file prints only `refused NUMBER PLACE`."
unfoldable pub text_of : TaskReply → (ℕ → Checked) → Outcome → List ℕ
text_of r checks o = cond {A = List ℕ} (eqb r.number accepted) (read_text r.task checks o) (refused_line r.number r.place)

-- The longest a listing can be: each word with its fields of at most a space and twenty digits, and the line feed.
abbrev pub line_most : ℕ → ℕ → ℕ
line_most letters fields = letters + fields * (1 + most_digits) + 1

abbrev pub longest_text : ℕ
longest_text = line_most 4 4 + max_runs * line_most 4 3 + line_most 3 1 + max_limit * line_most 11 2 + line_most 3 0
