-- `table::formed::are_actions_formed` meets its contract: no set has a fact from F on, those of unused actions none at all, and every lock is on a
-- need. Assumes nothing.
use mathlib.Core.Bool.{Bool, ◌&&◌}
use mathlib.Core.Path.{ap, ◌∙◌}
use Rattle.table.specs.Counting.{every_below, every_from}
use Rattle.table.specs.Passes.{sets_within}
use Rattle.table.specs.Sizes.{max_actions}
use Rattle.table.specs.Tasks.{locks_formed}
use Rattle.table.proofs.FlagLaws.{and_exchange}
use Rattle.table.proofs.PassLaws.{actions_pass}
use Rattle.table.proofs.formed.are_actions_formed.Goals as goal

pub returns : goal.returns
returns c =
    let t = c.args.t in
    (λ j. c.are_sets_formed.ensures j && c.are_within.ensures j) ∙
    and_exchange (every_from (sets_within t.needs t.adds t.deletes t.facts) 0 max_actions) (every_below (locks_formed t.needs t.locks) max_actions) _ ∙
    ap (λ (b : Bool). b && every_below (locks_formed t.needs t.locks) max_actions) (actions_pass t)
