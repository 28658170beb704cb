-- `choices::Choice::size` adds the counts of the three kinds.
use native.Mathlib.Omega.{arith}
use Rattle.table.specs.Sizes.{per_kind}
use Rattle.choices.proofs.MaskLaws.{sum_bits_le, choice_length}
use Rattle.choices.proofs.Choice.size.Goals as goal

pub overflow_add-result : goal.overflow_add-result
overflow_add-result c =
    let s = c.args.self in
    omega (arith, c.count_actions.ensures, c.count_actions-2.ensures, sum_bits_le per_kind s.deletes, sum_bits_le per_kind s.adds)

pub overflow_add-result-2 : goal.overflow_add-result-2
overflow_add-result-2 c =
    let s = c.args.self in
    omega (
      arith,
      c.count_actions.ensures,
      c.count_actions-2.ensures,
      c.count_actions-3.ensures,
      sum_bits_le per_kind s.deletes,
      sum_bits_le per_kind s.adds,
      sum_bits_le per_kind s.needs,
    )

pub returns : goal.returns
returns c =
    λ f.
    omega (
      arith,
      c.count_actions.ensures,
      c.count_actions-2.ensures,
      c.count_actions-3.ensures,
      choice_length f c.args.self,
    )
