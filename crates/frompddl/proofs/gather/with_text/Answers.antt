-- `with_text`: the text is refused, or its run is put to the task. Assumes nothing.
use mathlib.Core.Path.{ap}
use native.Mathlib.Omega.{arith}
use Rattle.std.specs.Prelude.{Ok, Err}
use Rattle.frompddl.specs.Gathering.{outside, read}
use Rattle.frompddl.proofs.GatherLaws.{text_read, text_place}
use Rattle.frompddl.proofs.SplitLaws.{text_there, end_inside, end_further}
use Rattle.frompddl.proofs.gather.with_text.Goals as goal

-- the text ends behind its beginning, and in the input
pub slice_bounds-read_problem-count : goal.slice_bounds-read_problem-count
slice_bounds-read_problem-count c =
    let s = c.args.s.now in
    let at = c.args.at in
    omega (arith, c.text_end-end.ensures, end_further s at (text_there s at c.requires.at_value))

pub slice_bounds-read_problem-start : goal.slice_bounds-read_problem-start
slice_bounds-read_problem-start c =
    let s = c.args.s.now in
    let at = c.args.at in
    omega (arith, c.text_end-end.ensures, end_further s at (text_there s at c.requires.at_value))

pub slice_bounds-read_problem-end : goal.slice_bounds-read_problem-end
slice_bounds-read_problem-end c = omega (arith, c.text_end-end.ensures, end_inside c.args.s.now c.args.at)

pub overflow_add-at : goal.overflow_add-at
overflow_add-at c =
    let s = c.args.s.now in
    let at = c.args.at in
    let reads = text_read s at c.text_end-end.result c.text_end-end.ensures c.in-Err.ensures in
    omega (arith, text_place s at reads c.requires.at_value)

pub returns-in-Err : goal.returns-in-Err
returns-in-Err c =
    let reads = text_read c.args.s.now c.args.at c.text_end-end.result c.text_end-end.ensures c.in-Err.ensures in
    outside c.in-Err.refusal reads (ap Err c.at.ensures)

pub returns-in-Ok : goal.returns-in-Ok
returns-in-Ok c =
    let reads = text_read c.args.s.now c.args.at c.text_end-end.result c.text_end-end.ensures c.in-Ok.ensures in
    read c.in-Ok.read reads (ap Ok c.with_run.ensures)
