-- `count_steps`: before a run the sum of the runs before it.
use mathlib.Core.Path.{◌≡◌}
use Rattle.table.specs.Counting.{sum_below}
use Rattle.table.specs.Tasks.{count_of}
use Rattle.text.proofs.lines.count_steps.Given as goal

abbrev pub invariant-loop-count : goal.invariant-loop-count
invariant-loop-count l = l.steps ≡ sum_below (count_of l.fn.task.runs) l.count-index
