-- `first_lines`: the sizes' line and the run checks'.
use native.Mathlib.Omega.{arith}
use Rattle.text.specs.Text.{check_in}
use Rattle.text.proofs.TextLaws.{first_placed}
use Rattle.text.proofs.TextLength.{task_most, opens_fit}
use Rattle.text.proofs.lines.first_lines.Goals as goal

pub put_line-next-requires : goal.put_line-next-requires
put_line-next-requires c =
    let table = c.args.task.table in
    omega (arith, task_most table.facts table.actions table.limit c.count_steps.result)

pub open_lines-requires : goal.open_lines-requires
open_lines-requires c =
    let table = c.args.task.table in
    let few = c.requires.many_high in
    let line = task_most table.facts table.actions table.limit c.count_steps.result in
    record {
      many_le_max_runs = omega arith;
      many_bound = opens_fit (check_in c.args.checks) _ _ (omega arith) (omega (arith, c.put_line-next.ensures.next_is));
    }

pub returns : goal.returns
returns c =
    let a = c.args in
    first_placed a.task (check_in a.checks) c.count_steps.ensures c.put_line-next.ensures c.open_lines.ensures
