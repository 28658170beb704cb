-- `put_together`: the task file, the domain text and the problem texts, read one after another. Assumes nothing.
use mathlib.Core.Bool.{true, false}
use mathlib.Core.Path.{refl, sym, ap}
use native.Mathlib.Omega.{arith}
use lib.Seq.{length-take-le}
use Rattle.std.proofs.lemmas.Result.{err_from_is_err_and}
use Rattle.std.specs.Prelude.{Ok, Err}
use Rattle.table.specs.Outcomes.{read_of}
use Rattle.frompddl.proofs.PlaceLaws.{file_steps}
use Rattle.frompddl.proofs.SplitLaws.{end_inside, behind_inside}
use Rattle.frompddl.proofs.TogetherLaws.{beside_is, place_inside, puts_together, file_out, last_out}
use Rattle.frompddl.proofs.together.put_together.Goals as goal

-- the task file begins in the input
pub slice_bounds-read-count : goal.slice_bounds-read-count
slice_bounds-read-count c = behind_inside c.file_start-start.ensures (end_inside _ 0)

pub slice_bounds-read-start : goal.slice_bounds-read-start
slice_bounds-read-start c = behind_inside c.file_start-start.ensures (end_inside _ 0)

pub slice_bounds-read_domain-end : goal.slice_bounds-read_domain-end
slice_bounds-read_domain-end c = sym (length-take-le _ _ (omega (arith, c.text_end-first.ensures, end_inside c.args.s.now 0)))

pub gather-requires : goal.gather-requires
gather-requires c =
    rw (beside_is c.read-file.result _ _ c.no_task.ensures c.unwrap_or-beside.ensures) (file_steps c.read-file.ensures)

pub overflow_add-start : goal.overflow_add-start
overflow_add-start c =
    omega (arith, place_inside c.args.s.now c.file_start-start.result c.file_start-start.ensures (Err c.in-Err.refusal) c.in-Err.ensures)

-- the domain text is refused
pub returns-in_err-domain : goal.returns-in_err-domain
returns-in_err-domain c =
    let p = err_from_is_err_and c.from_residual.result c.from_residual.ensures.1 in
    rw (p.1, p.2)
    (puts_together c.args.s.now c.file_start-start.result c.file_start-start.ensures c.read-file.result c.read-file.ensures
    c.no_task.result c.unwrap_or-beside.result c.no_task.ensures c.unwrap_or-beside.ensures c.text_end-first.result c.text_end-first.ensures
    (Err c.in_err-domain.field-0.0) c.in_err-domain.ensures (Err c.in_err-domain.field-0.0) refl refl)

-- a problem text, or a ninth
pub returns-in_err-runs : goal.returns-in_err-runs
returns-in_err-runs c =
    let p = err_from_is_err_and c.from_residual-in_err-runs.result c.from_residual-in_err-runs.ensures.1 in
    rw (p.1, p.2)
    (puts_together c.args.s.now c.file_start-start.result c.file_start-start.ensures c.read-file.result c.read-file.ensures
    c.no_task.result c.unwrap_or-beside.result c.no_task.ensures c.unwrap_or-beside.ensures c.text_end-first.result c.text_end-first.ensures
    (Ok c.in_ok-domain.domain) c.in_ok-domain.ensures (Err c.in_err-runs.field-0.0) c.in_err-runs.ensures refl)

-- the task file
pub returns-in-Err : goal.returns-in-Err
returns-in-Err c =
    file_out c.args.s.now c.file_start-start.result c.file_start-start.ensures c.read-file.result c.read-file.ensures
    c.no_task.result c.unwrap_or-beside.result c.no_task.ensures c.unwrap_or-beside.ensures c.text_end-first.result c.text_end-first.ensures
    c.in_ok-domain.domain c.in_ok-domain.ensures c.in_ok-runs.runs c.in_ok-runs.ensures c.in-Err.refusal c.in-Err.is
    (ap (λ e. read_of (Err e)) c.at.ensures)

pub returns-then-runs-many : goal.returns-then-runs-many
returns-then-runs-many c =
    last_out c.args.s.now c.file_start-start.result c.file_start-start.ensures c.read-file.result c.read-file.ensures
    c.no_task.result c.unwrap_or-beside.result c.no_task.ensures c.unwrap_or-beside.ensures c.text_end-first.result c.text_end-first.ensures
    c.in_ok-domain.domain c.in_ok-domain.ensures c.in_ok-runs.runs c.in_ok-runs.ensures c.in_default.field-0 c.in_default.is true
    c.if-runs-many.true refl

-- not one problem for each run
pub returns-else-runs-many : goal.returns-else-runs-many
returns-else-runs-many c =
    last_out c.args.s.now c.file_start-start.result c.file_start-start.ensures c.read-file.result c.read-file.ensures
    c.no_task.result c.unwrap_or-beside.result c.no_task.ensures c.unwrap_or-beside.ensures c.text_end-first.result c.text_end-first.ensures
    c.in_ok-domain.domain c.in_ok-domain.ensures c.in_ok-runs.runs c.in_ok-runs.ensures c.in_default.field-0 c.in_default.is false
    c.if-runs-many.false (ap (λ e. read_of (Err e)) c.at-else-runs-many.ensures)
