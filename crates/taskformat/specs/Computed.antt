-- Reading as a function, so that worked files can be computed. What it gives is what `Reads` says (proofs/Function).
use Rattle.std.specs.Prelude.{cond, List, ℕ, zero, suc, ◌+◌, eqb, ltb, length}
use Rattle.table.specs.Refusals.{no_end, bytes_after_end}
use Rattle.table.specs.declared.TaskReply.{TaskReply}
use Rattle.taskformat.specs.Format.{end_kind}
use Rattle.taskformat.specs.Reading.{Seen, nothing_seen, kind_at, next_at, seen_after, fault_at, refused_read, accepted_read}

-- What reading s gives from a place on, with at most n records still to come. With none left the place is past the last byte.
unfoldable pub read_from : ℕ → List ℕ → ℕ → Seen → TaskReply
read_from zero s at seen = refused_read no_end at
read_from (suc n) s at seen =
    let rest : TaskReply = read_from n s (next_at s at) (seen_after s at seen) in
    cond {A = TaskReply} (eqb (fault_at s at seen).number 0)
    (cond {A = TaskReply} (eqb (kind_at s at) end_kind)
    (cond {A = TaskReply} (ltb (at + 1) (length s)) (refused_read bytes_after_end (at + 1)) (accepted_read seen.task)) rest)
    (refused_read (fault_at s at seen).number (fault_at s at seen).place)

-- What reading a whole file gives.
unfoldable pub read_file : List ℕ → TaskReply
read_file s = read_from (length s) s 0 nothing_seen
