-- `read_domain`: what the walk gives, by whether it ends here.
use mathlib.Core.Path.{sym, ◌∙◌}
use Rattle.pddlreader.proofs.TextLaws.{domain_whole, domain_not_whole}
use Rattle.pddlreader.proofs.read_domain.Goals as goal

pub returns-then-not-is_whole : goal.returns-then-not-is_whole
returns-then-not-is_whole c =
    let a = c.args in
    rw c.at.ensures
    (domain_not_whole a.limit a.text.now (record { cursor = c.walk_domain.result.0; table = c.walk_domain.result.1 }) c.walk_domain.ensures
    (sym c.is_whole.ensures ∙ c.if-not-is_whole.true))

pub returns : goal.returns
returns c =
    let a = c.args in
    rw c.no_runs-runs.ensures
    (domain_whole a.limit a.text.now (record { cursor = c.walk_domain.result.0; table = c.walk_domain.result.1 }) c.walk_domain.ensures
    (sym c.is_whole.ensures ∙ c.if-not-is_whole.false))
