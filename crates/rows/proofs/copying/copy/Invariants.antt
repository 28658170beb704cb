-- `copy` fills its part of the room number by number.
use Rattle.std.proofs.Common.{◌≡◌, ℕ, ◌+◌, ◌<◌, length, get_or}
use Rattle.rows.proofs.copying.copy.Given as goal

abbrev pub invariant-loop-i : goal.invariant-loop-i
invariant-loop-i l = record {
  whole : length l.place-items ≡ l.count;
  so_far : (k : ℕ) → k < l.i → get_or l.place-items k 0 ≡ get_or l.from (l.start + k) 0;
}
