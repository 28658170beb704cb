use Rattle.taskwords.proofs.PartLaws.{zeros_more}
use Rattle.taskwords.proofs.words.are_zero.Goals as goal

pub loop-word-preserved : goal.loop-word-preserved
loop-word-preserved c = zeros_more c.args.words.now 0 c.loop-word.word-index c.loop-word.every c.join-every.result c.join-every.ensures c.loop-word.invariant
