-- The kinds of record as the code names them, and the numbers that the definitions (taskformat/specs/Format) and the file have for them.
use Rattle.std.specs.Prelude.{Option, Some, None, MatchOption, ◌≡◌, false, ℕ}
use Rattle.taskformat.specs.Format.{no_kind, sizes_kind, start_kind, goal_kind, need_kind, add_kind, delete_kind, step_kind, end_kind, run_kind, lock_kind, is_kind}
use Rattle.records.specs.declared.kinds.Kind.{Kind}
use Rattle.records.specs.declared.kinds.Kind.TheVariants.{Sizes, Start, Goal, Need, Add, Delete, Step, End, Run, Lock}

abbrev pub kind_number : Kind → ℕ
kind_number Sizes = sizes_kind
kind_number Start = start_kind
kind_number Goal = goal_kind
kind_number Need = need_kind
kind_number Add = add_kind
kind_number Delete = delete_kind
kind_number Step = step_kind
kind_number End = end_kind
kind_number Run = run_kind
kind_number Lock = lock_kind

-- The last record's kind; none before the first.
abbrev pub last_kind : Option Kind → ℕ
last_kind (Some k) = kind_number k
last_kind None = no_kind

-- A byte stands for this kind; for none where it is no kind.
abbrev pub Decodes : ℕ → Option Kind → Type 0
Decodes byte o = MatchOption o (is_kind byte ≡ false) (λ k. kind_number k ≡ byte)
