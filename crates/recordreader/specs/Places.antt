-- Where a reader stands after it moved on: document 01, "The task file": "hands out one record after another".
use Rattle.std.specs.Prelude.{cond, List, ℕ, eqb}
use Rattle.table.specs.Refusals.{accepted}
use Rattle.records.specs.Records.{record_at}

-- The next place of the record there; the same place where that record is refused.
unfoldable pub place_after : List ℕ → ℕ → ℕ
place_after s at = cond (eqb (record_at s at).number accepted) (record_at s at).next at
