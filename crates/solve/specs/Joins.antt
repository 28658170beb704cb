-- The rows joined one by one, as solving holds them.
use Rattle.std.specs.Prelude.{◌||◌, ◌++◌, ◌≡◌, ◌+◌, ◌≤◌, length, take}
use Rattle.table.specs.Answer.{Verdict}
use Rattle.table.specs.Join.{is_hopeless, is_over, found_list}
use Rattle.table.specs.Sizes.{max_limit}
use Rattle.solve.specs.declared.join.Tally.{Tally}

-- One verdict more: its list stands behind the others, as long as they are an answer at all.
pub record Joins (before : Tally) (v : Verdict) (after : Tally) : Type 0 where
  pub hopeless : after.sum.hopeless ≡ (before.sum.hopeless || is_hopeless v)
  pub over : after.sum.over ≡ (before.sum.over || is_over v)
  pub total : after.sum.total ≡ before.sum.total + length (found_list v)
  pub list : after.sum.total ≤ max_limit → take after.sum.total after.list ≡ take before.sum.total before.list ++ found_list v
