-- `put_line`: the word, the fields and the line feed.
use native.Mathlib.Omega.{arith}
use Rattle.text.proofs.LineLaws.{line_length, line_placed}
use Rattle.text.proofs.fields.put_line.Goals as goal

pub put_word-next-requires : goal.put_word-next-requires
put_word-next-requires c =
    let a = c.args in
    omega (arith, line_length a.word.now a.numbers.now)

pub put_fields-next-requires : goal.put_fields-next-requires
put_fields-next-requires c =
    let a = c.args in
    omega (arith, line_length a.word.now a.numbers.now)

pub put-requires : goal.put-requires
put-requires c =
    let a = c.args in
    omega (arith, line_length a.word.now a.numbers.now)

pub returns : goal.returns
returns c =
    line_placed c.args.numbers.now c.put_word-next.ensures c.put_fields-next.ensures c.put.ensures
