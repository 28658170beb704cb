-- `put_word`: one byte after another.
use mathlib.Core.List.{[], ◌∷◌}
use lib.ListN.{length, get_or}
use Rattle.room.proofs.Gathering.{Gathering}
use Rattle.room.proofs.put_word.Given as goal

abbrev pub invariant-loop-byte : goal.invariant-loop-byte
invariant-loop-byte l =
    Gathering (λ k. get_or l.word k 0 ∷ []) (length l.word) l.initial.room l.room l.at l.next l.byte-index
