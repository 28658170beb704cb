-- The words that a call answers with, and the one rule of the room that they are lent.
use Rattle.std.specs.Prelude.{List, [], ◌∷◌, ◌++◌, ◌≡◌, ℕ, ◌+◌, ◌<◌, ◌≤◌, length, get_or, drop}
use Rattle.runcheck.specs.declared.Checked.{Checked}
use Rattle.table.specs.Sizes.{all_steps}
use Rattle.table.specs.declared.Reply.{Reply}
use Rattle.table.specs.declared.Task.{Task}
use Rattle.records.specs.declared.record.RecordReply.{RecordReply}
use Rattle.room.specs.Placing.{placed}
use Rattle.taskwords.specs.Words.{task_words, table_out, runs_out}

-- The boundary's own number, outside the papers' (01's and 02's end at 23): the answer's room is too short, and nothing was called.
-- So 11 is always the inner call's, about the room that it was lent, in 01's order.
abbrev pub answer_too_short : ℕ
answer_too_short = 255

-- How many words each kind of answer has; the number and the place are always the first two, and of a call that changes the task all.
abbrev pub changed_length : ℕ
changed_length = 2

abbrev pub reply_length : ℕ
reply_length = 3

abbrev pub problem_length : ℕ
problem_length = 4

abbrev pub checked_length : ℕ
checked_length = 5

abbrev pub record_length : ℕ
record_length = 6

abbrev pub answer_most : ℕ
answer_most = 2 + task_words

abbrev pub changed_words : ℕ → ℕ → List ℕ
changed_words number place = number ∷ place ∷ []

abbrev pub reply_words : Reply → List ℕ
reply_words y = y.number ∷ y.place ∷ y.length ∷ []

abbrev pub problem_words : ℕ → ℕ → ℕ → ℕ → List ℕ
problem_words number place start goal = number ∷ place ∷ start ∷ goal ∷ []

abbrev pub checked_words : Checked → List ℕ
checked_words y = y.number ∷ y.place ∷ y.total ∷ y.step ∷ y.fact ∷ []

abbrev pub record_words : RecordReply → List ℕ
record_words y = y.number ∷ y.place ∷ y.kind ∷ y.start ∷ y.length ∷ y.next ∷ []

abbrev pub task_answer : ℕ → ℕ → Task → List ℕ
task_answer number place t = (number ∷ place ∷ []) ++ table_out t.table ++ runs_out t.runs

-- So many of the steps of all runs have room from a place on: all, or those up to the room's end.
pub record Fitting (room at count : ℕ) : Type 0 where
  pub some : count ≤ all_steps
  pub inside : 0 < count → at + count ≤ room
  pub rest : count < all_steps → room ≤ at + count

-- The n words placed from the first on, as far as the room goes, and the number returned.
pub record Given (n : ℕ) (words before after : List ℕ) (r : ℕ) : Type 0 where
  pub size : length words ≡ n
  pub number : r ≡ get_or words 0 0
  pub room_is : after ≡ placed before 0 words

-- The one rule. Where the room has fewer than n words, 255 is returned and nothing is called: the room for the answer is as
-- it was, and `Untouched` says it of what else was lent. Otherwise the call is made, the n words that `Due` says are placed
-- from the first on, nothing beside, and the first of them is returned. These n words are the one thing that a refused call
-- writes.
pub record Answers (n : ℕ) (Untouched : Type 0) (Due : List ℕ → Type 0) (before after : List ℕ) (r : ℕ) : Type 0 where
  pub short : length before < n → (r ≡ answer_too_short) × (after ≡ before) × Untouched
  pub given : n ≤ length before
      → (words : List ℕ) × (length words ≡ n) × Due words × (r ≡ get_or words 0 0) × (after ≡ words ++ drop n before)
