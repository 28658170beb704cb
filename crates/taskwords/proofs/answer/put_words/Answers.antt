use borrow.Author.Rules.{rules}
use native.Mathlib.Omega.{arith}
use mathlib.Core.Path.{refl}
use Rattle.room.proofs.Gathering.{next_fits, one_more}
use Rattle.taskwords.proofs.PuttingLaws.{words_begun, words_placed}
use Rattle.taskwords.proofs.answer.put_words.Goals as goal

pub loop-word-init : goal.loop-word-init
loop-word-init c = words_begun c.args.words.now _ refl _ _ c.requires

pub loop-word-preserved : goal.loop-word-preserved
loop-word-preserved c = one_more c.loop-word.invariant (search rules) c.put-next.ensures

pub put-next-requires : goal.put-next-requires
put-next-requires c = omega (arith, next_fits c.loop-word.invariant (search rules))

pub returns : goal.returns
returns c = words_placed _ _ refl c.loop-word.invariant (search rules)
