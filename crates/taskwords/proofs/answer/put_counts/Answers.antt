use borrow.Author.Rules.{rules}
use native.Mathlib.Omega.{arith}
use Rattle.table.specs.Sizes.{max_runs}
use Rattle.room.proofs.Gathering.{next_fits, one_more}
use Rattle.taskwords.proofs.PuttingLaws.{words_begun, words_placed}
use Rattle.taskwords.proofs.answer.put_counts.Goals as goal

pub loop-count-init : goal.loop-count-init
loop-count-init c = words_begun c.args.counts.now max_runs (search rules) _ _ (search rules)

pub loop-count-preserved : goal.loop-count-preserved
loop-count-preserved c = one_more c.loop-count.invariant (search rules) c.put-next.ensures

pub put-next-requires : goal.put-next-requires
put-next-requires c = omega (arith, next_fits c.loop-count.invariant (search rules))

pub returns : goal.returns
returns c = words_placed _ _ (search rules) c.loop-count.invariant (search rules)
