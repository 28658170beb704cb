-- Reading any bytes gives one thing only: two results that `Reads` allows are equal. Assumes nothing.
use mathlib.Core.List.{List}
use mathlib.Core.Path.{◌≡◌, sym, ◌∙◌}
use Prim.Native.Nat.{ℕ}
use native.Mathlib.Omega.{arith}
use Rattle.table.specs.declared.TaskReply.{TaskReply}
use Rattle.taskformat.specs.Reading.{Seen, Reads, faulty, good, ended, trailing}

pub reads_unique : {s : List ℕ} {r q : TaskReply} {at : ℕ} {seen : Seen} → Reads s r at seen → Reads s q at seen → r ≡ q
reads_unique (faulty f e) (faulty _ d) = e ∙ sym d
reads_unique (faulty f e) (good c _ _) = absurd (omega arith)
reads_unique (faulty f e) (ended c _ _ _) = absurd (omega arith)
reads_unique (faulty f e) (trailing c _ _ _) = absurd (omega arith)
reads_unique (good c _ _) (faulty f _) = absurd (omega arith)
reads_unique (good _ _ more) (good _ _ also) = reads_unique more also
reads_unique (good _ more _) (ended _ k _ _) = absurd (more k)
reads_unique (good _ more _) (trailing _ k _ _) = absurd (more k)
reads_unique (ended c _ _ _) (faulty f _) = absurd (omega arith)
reads_unique (ended _ k _ _) (good _ more _) = absurd (more k)
reads_unique (ended _ _ _ e) (ended _ _ _ d) = e ∙ sym d
reads_unique (ended _ _ l _) (trailing _ _ m _) = absurd (omega arith)
reads_unique (trailing c _ _ _) (faulty f _) = absurd (omega arith)
reads_unique (trailing _ k _ _) (good _ more _) = absurd (more k)
reads_unique (trailing _ _ m _) (ended _ _ l _) = absurd (omega arith)
reads_unique (trailing _ _ _ e) (trailing _ _ _ d) = e ∙ sym d
