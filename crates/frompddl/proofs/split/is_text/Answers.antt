-- `is_text`: behind the input there is none. Assumes nothing.
use mathlib.Core.Path.{refl, sym, ◌∙◌}
use borrow.Author.Tests.{le-ltb}
use Rattle.frompddl.specs.Splitting.{is_text}
use Rattle.frompddl.proofs.SplitLaws.{no_text}
use Rattle.frompddl.proofs.split.is_text.Goals as goal

pub returns-then-at-s : goal.returns-then-at-s
unfolding is_text
returns-then-at-s c = refl

pub returns-else-at-s : goal.returns-else-at-s
returns-else-at-s c = le-ltb _ _ c.if-at-s.false ∙ sym (no_text _ _ c.if-at-s.false)
