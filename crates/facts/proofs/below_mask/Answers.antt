-- `facts::below_mask` gives the facts below n: one less than a power, or the full mask.
use mathlib.Core.Path.{sym}
use native.Mathlib.Omega.{arith}
use lib.Pow.{pow_pos}
use Rattle.facts.proofs.Laws.{only_in}
use Rattle.facts.proofs.Words.{below_in, below_out}
use Rattle.facts.proofs.below_mask.Goals as goal

pub overflow_sub-result : goal.overflow_sub-result
overflow_sub-result c = omega (arith, c.single.ensures, only_in c.args.n (omega arith), pow_pos c.args.n)

pub returns-then-n-lt-WIDTH : goal.returns-then-n-lt-WIDTH
returns-then-n-lt-WIDTH c = rw (c.single.ensures, below_in c.args.n (omega arith))

pub returns-else-n-lt-WIDTH : goal.returns-else-n-lt-WIDTH
returns-else-n-lt-WIDTH c = sym (below_out c.args.n (omega arith))
