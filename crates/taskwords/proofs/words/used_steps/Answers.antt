-- `used_steps`: the steps of the runs that there are, if all behind them is zero.
use native.Mathlib.Omega.{arith}
use mathlib.Core.Path.{subst}
use Rattle.taskwords.specs.Words.{Zeros}
use Rattle.taskwords.proofs.PartLaws.{zeros_from}
use Rattle.taskwords.proofs.words.used_steps.Goals as goal

pub returns-then-are_zero : goal.returns-then-are_zero
returns-then-are_zero c =
    let ws = c.args.words.now in
    (omega arith, subst (Zeros ws _) c.requires (zeros_from ws _ (c.are_zero.ensures c.if-are_zero.true)))
