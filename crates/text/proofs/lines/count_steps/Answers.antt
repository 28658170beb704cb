use mathlib.Core.Path.{◌≡◌, refl, ap, sym, ◌∙◌}
use Prim.Native.Nat.{◌+◌, ◌<◌}
use native.Mathlib.Omega.{arith}
use lib.ListN.{length, take}
use lib.Seq.{length-take-le}
use Rattle.std.proofs.lemmas.List.{get_or-take}
use Rattle.table.specs.Counting.{sum_below}
use Rattle.table.specs.Sizes.{max_steps}
use Rattle.table.specs.Tasks.{count_of, WellFormed}
use Rattle.table.specs.declared.Task.{Task}
use Rattle.table.proofs.CountingLaws.{at_end, sum_below_le, sum_below_next}
use Rattle.text.proofs.lines.count_steps.Goals as goal

-- the runs that there are
taken : {t : Task} → WellFormed t → length (take t.runs.many t.runs.counts) ≡ t.runs.many
taken {t} w = length-take-le t.runs.many t.runs.counts (omega (arith, w.many_high, w.shaped.counts))

pub loop-count-init : goal.loop-count-init
unfolding sum_below
loop-count-init c = refl

pub overflow_add-steps : goal.overflow_add-steps
overflow_add-steps c =
    let w = c.requires in
    let i = c.loop-count.count-index in
    let low : i < c.args.task.runs.many = omega (arith, taken w, c.loop-count-test.true) in
    rw (get_or-take c.args.task.runs.many c.args.task.runs.counts i 0 low)
    (omega (
      arith,
      w.many_high,
      c.loop-count.invariant,
      w.count_high i,
      sum_below_le (count_of c.args.task.runs) i max_steps (λ k below. w.count_high k),
    ))

pub loop-count-preserved : goal.loop-count-preserved
loop-count-preserved c =
    let g = count_of c.args.task.runs in
    let i = c.loop-count.count-index in
    let low : i < c.args.task.runs.many = omega (arith, taken c.requires, c.loop-count-test.true) in
    rw (get_or-take c.args.task.runs.many c.args.task.runs.counts i 0 low)
    (ap (λ n. n + g i) c.loop-count.invariant ∙ sym (sum_below_next g i))

pub returns : goal.returns
returns c =
    let runs = c.args.task.runs in
    at_end (sum_below (count_of runs)) c.loop-count.count-index runs.many (omega (arith, taken c.requires, c.loop-count.auto.count-index-end))
    (omega (arith, taken c.requires, c.loop-count-test.false)) c.loop-count.invariant
