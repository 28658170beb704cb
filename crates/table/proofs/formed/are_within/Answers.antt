use mathlib.Core.Path.{refl, ◌∙◌}
use native.Mathlib.Omega.{arith}
use lib.ListN.{get_or}
use lib.Pow.{pow_pos}
use Rattle.facts.proofs.Laws.{lt_within}
use Rattle.table.specs.Counting.{every_from}
use Rattle.table.specs.Passes.{sets_within}
use Rattle.table.specs.Sizes.{max_actions}
use Rattle.table.proofs.CountingLaws.{every_from_none, every_from_more, at_end}
use Rattle.table.proofs.PassLaws.{joined_sets}
use Rattle.table.proofs.formed.are_within.Goals as goal

pub loop-a-init : goal.loop-a-init
loop-a-init c =
    let a = c.args in
    lt_within 0 a.n (pow_pos a.n) ∙ every_from_none (sets_within a.needs.now a.adds.now a.deletes.now a.n) a.from

pub loop-a-preserved : goal.loop-a-preserved
unfolding sets_within
loop-a-preserved c =
    let a = c.args in
    let i = c.loop-a.a in
    joined_sets c.loop-a.every (get_or a.needs.now i 0) (get_or a.adds.now i 0) (get_or a.deletes.now i 0) a.n ∙
    every_from_more (sets_within a.needs.now a.adds.now a.deletes.now a.n) a.from i c.loop-a.auto.a c.loop-a.invariant refl

pub returns : goal.returns
returns c =
    let a = c.args in
    c.is_within.ensures ∙
    at_end (every_from (sets_within a.needs.now a.adds.now a.deletes.now a.n) a.from) c.loop-a.a max_actions (c.loop-a.auto.a-end c.requires) (omega arith) c.loop-a.invariant
