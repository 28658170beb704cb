-- `facts::single` gives one fact, or none past the mask.
use mathlib.Core.Path.{sym}
use native.Mathlib.Omega.{arith}
use Rattle.facts.proofs.Laws.{only_out}
use Rattle.facts.proofs.Words.{shifted_only}
use Rattle.facts.proofs.single.Goals as goal

pub returns-then-f-lt-WIDTH : goal.returns-then-f-lt-WIDTH
returns-then-f-lt-WIDTH c = shifted_only c.args.f (omega arith)

pub returns-else-f-lt-WIDTH : goal.returns-else-f-lt-WIDTH
returns-else-f-lt-WIDTH c = sym (only_out c.args.f (omega arith))
