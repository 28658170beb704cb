-- `answer_lines`: the length, the repairs, and the end.
use native.Mathlib.Omega.{arith}
use Rattle.text.proofs.LineLaws.{answer_length, answer_placed}
use Rattle.text.proofs.lines.answer_lines.Goals as goal

pub put_word-requires : goal.put_word-requires
put_word-requires c = omega (arith, answer_length c.args.list.now)

pub returns : goal.returns
returns c =
    answer_placed c.args.list.now c.put_line-next.ensures c.repair_lines-next.ensures c.put_word.ensures
