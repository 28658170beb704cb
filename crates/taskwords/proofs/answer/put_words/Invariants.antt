-- `put_words` places its words one by one.
use lib.ListN.{length}
use Rattle.room.proofs.Gathering.{Gathering}
use Rattle.taskwords.proofs.PuttingLaws.{word_of}
use Rattle.taskwords.proofs.answer.put_words.Given as goal

abbrev pub invariant-loop-word : goal.invariant-loop-word
invariant-loop-word l = Gathering (word_of l.words) (length l.words) l.initial.answer l.answer l.at l.next l.word-index
