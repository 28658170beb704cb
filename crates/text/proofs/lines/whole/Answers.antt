-- `whole`: a refused file, a refused solve, or an answer.
use mathlib.Core.Path.{sym}
use native.Mathlib.Omega.{arith}
use lib.ListN.{take}
use lib.Seq.{length-take-le}
use Rattle.table.specs.Tasks.{WellFormed}
use Rattle.text.specs.Text.{check_in}
use Rattle.text.proofs.TextLength.{refused_most, first_most, answer_most}
use Rattle.text.proofs.TextLaws.{refused_placed, unsolved_placed, solved_placed}
use Rattle.text.proofs.lines.whole.Goals as goal

pub refused_line-requires : goal.refused_line-requires
refused_line-requires c =
    let a = c.args in
    omega (arith, refused_most a.read.number a.read.place)

pub returns-then-read-ne-ACCEPTED : goal.returns-then-read-ne-ACCEPTED
returns-then-read-ne-ACCEPTED c = refused_placed _ _ _ (omega arith) c.refused_line.ensures

-- a task that was read is well formed
pub first_lines-next-requires : goal.first_lines-next-requires
first_lines-next-requires c =
    c.requires.well_formed (omega arith)

pub refused_line-requires-then-solved-ne-ACCEPTED : goal.refused_line-requires-then-solved-ne-ACCEPTED
refused_line-requires-then-solved-ne-ACCEPTED c =
    let well : WellFormed c.args.read.task = c.requires.well_formed (omega arith) in
    let a = c.args in
    omega (
      arith,
      c.first_lines-next.ensures.next_is,
      first_most a.read.task (check_in a.checks) well.many_high,
      refused_most a.solved.number a.solved.place,
    )

pub returns-then-solved-ne-ACCEPTED : goal.returns-then-solved-ne-ACCEPTED
returns-then-solved-ne-ACCEPTED c =
    let a = c.args in
    unsolved_placed a.read (check_in a.checks) (record { reply = a.solved; room = a.list.now }) (omega arith)
    c.first_lines-next.ensures
    (omega arith)
    c.refused_line-then-solved-ne-ACCEPTED.ensures

pub slice_bounds-answer_lines-end : goal.slice_bounds-answer_lines-end
slice_bounds-answer_lines-end c = sym (length-take-le _ _ (omega arith))

pub answer_lines-requires : goal.answer_lines-requires
answer_lines-requires c =
    let well : WellFormed c.args.read.task = c.requires.well_formed (omega arith) in
    let a = c.args in
    let few = length-take-le a.solved.length a.list.now (omega arith) in
    omega (
      arith,
      c.first_lines-next.ensures.next_is,
      first_most a.read.task (check_in a.checks) well.many_high,
      answer_most (take a.solved.length a.list.now) (omega arith),
    )

pub returns : goal.returns
returns c =
    let a = c.args in
    solved_placed a.read (check_in a.checks) (record { reply = a.solved; room = a.list.now }) (omega arith)
    c.first_lines-next.ensures
    (omega arith)
    c.answer_lines.ensures
