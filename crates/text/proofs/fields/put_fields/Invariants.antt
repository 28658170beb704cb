-- `put_fields`: one field after another.
use lib.ListN.{length, get_or}
use Rattle.text.specs.Text.{field}
use Rattle.room.proofs.Gathering.{Gathering}
use Rattle.text.proofs.fields.put_fields.Given as goal

abbrev pub invariant-loop-n : goal.invariant-loop-n
invariant-loop-n l =
    Gathering (λ k. field (get_or l.numbers k 0)) (length l.numbers) l.initial.room l.room l.at l.next l.n-index
