-- `are_zero`: the join has nothing only if every word before the next is zero.
use mathlib.Core.Bool.{true}
use mathlib.Core.Path.{◌≡◌}
use Rattle.facts.specs.Sets.{within}
use Rattle.taskwords.specs.Words.{Zeros}
use Rattle.taskwords.proofs.words.are_zero.Given as goal

abbrev pub invariant-loop-word : goal.invariant-loop-word
invariant-loop-word l = within l.every 0 ≡ true → Zeros l.words 0 l.word-index
