use mathlib.Core.Bool.{◌&&◌}
use mathlib.Core.Path.{refl, ap, ◌∙◌}
use Prim.Native.Nat.{ℕ}
use native.Mathlib.Omega.{arith}
use lib.Dec.{eqb}
use lib.ListN.{get_or}
use lib.Pow.{pow_pos}
use Rattle.facts.proofs.Laws.{lt_within}
use Rattle.table.specs.Counting.{every_below, every_from}
use Rattle.table.specs.Passes.{sets_within}
use Rattle.table.specs.Sizes.{max_actions}
use Rattle.table.specs.Tasks.{locks_formed}
use Rattle.table.proofs.CountingLaws.{every_below_none, every_below_more, every_from_none, every_from_more, at_end}
use Rattle.table.proofs.PassLaws.{joined_sets, joined_none}
use Rattle.table.proofs.formed.are_sets_formed.Goals as goal

pub loop-a-init : goal.loop-a-init
loop-a-init c =
    let a = c.args in (
      lt_within 0 a.n (pow_pos a.n) ∙ every_from_none (sets_within a.needs.now a.adds.now a.deletes.now a.n) 0,
      every_below_none (locks_formed a.needs.now a.locks.now),
    )

pub loop-a-preserved : goal.loop-a-preserved
unfolding sets_within locks_formed
loop-a-preserved c =
    let a = c.args in
    let i = c.loop-a.a in
    let sets = sets_within a.needs.now a.adds.now a.deletes.now a.n in (
      joined_sets c.loop-a.every (get_or a.needs.now i 0) (get_or a.adds.now i 0) (get_or a.deletes.now i 0) a.n ∙
          every_from_more sets 0 i (omega arith) c.loop-a.invariant.0 refl,
      joined_none c.loop-a.stray c.remove-stray.result ∙
          every_below_more (locks_formed a.needs.now a.locks.now) i c.loop-a.invariant.1 (ap (λ (m : ℕ). eqb m 0) c.remove-stray.ensures),
    )

pub returns : goal.returns
returns c =
    let a = c.args in
    let sets = every_from (sets_within a.needs.now a.adds.now a.deletes.now a.n) 0 in
    let locks = every_below (locks_formed a.needs.now a.locks.now) in
    let end = c.loop-a.auto.a-end in
    let within_all = c.is_within.ensures ∙ at_end sets c.loop-a.a max_actions end (omega arith) c.loop-a.invariant.0 in
    let on_needs = at_end locks c.loop-a.a max_actions end (omega arith) c.loop-a.invariant.1 in
    λ j. within_all j && on_needs j
