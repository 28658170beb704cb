-- `put_counts` places its array word by word.
use Rattle.table.specs.Sizes.{max_runs}
use Rattle.room.proofs.Gathering.{Gathering}
use Rattle.taskwords.proofs.PuttingLaws.{word_of}
use Rattle.taskwords.proofs.answer.put_counts.Given as goal

abbrev pub invariant-loop-count : goal.invariant-loop-count
invariant-loop-count l = Gathering (word_of l.counts) max_runs l.initial.answer l.answer l.at l.next l.count-index
