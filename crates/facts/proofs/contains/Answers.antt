-- `facts::contains` reads one bit, and past the mask there is none.
use mathlib.Core.Path.{refl, sym, ◌∙◌}
use native.Mathlib.Omega.{arith}
use borrow.Author.Tests.{le-ltb}
use Rattle.facts.specs.Sets.{width, has}
use Rattle.facts.proofs.Laws.{has_above}
use Rattle.facts.proofs.contains.Goals as goal

pub returns-then-f-lt-WIDTH : goal.returns-then-f-lt-WIDTH
unfolding has
returns-then-f-lt-WIDTH c = refl

pub returns-else-f-lt-WIDTH : goal.returns-else-f-lt-WIDTH
returns-else-f-lt-WIDTH c = le-ltb c.args.f width (omega arith) ∙ sym (has_above c.args.m width c.args.f (omega arith) (omega arith))
