-- `closes`: behind the input no line stands. Assumes nothing.
use mathlib.Core.Path.{sym, ◌∙◌}
use native.Mathlib.Omega.{arith}
use borrow.Author.Tests.{le-ltb}
use Rattle.frompddl.proofs.SplitLaws.{closing_begins, no_closing}
use Rattle.frompddl.proofs.split.closes.Goals as goal

pub returns-then-at-s : goal.returns-then-at-s
returns-then-at-s c = c.starts_with.ensures.value ∙ closing_begins c.args.s.now c.args.at

pub returns-else-at-s : goal.returns-else-at-s
returns-else-at-s c = le-ltb _ _ c.if-at-s.false ∙ sym (no_closing _ _ (omega arith))
