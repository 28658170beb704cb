-- `records::fault::check` meets its contract: each test is the definition's next check. Assumes nothing.
use mathlib.Core.Path.{◌≡◌, sym, ◌∙◌}
use native.Mathlib.Omega.{arith}
use Rattle.std.proofs.lemmas.Result.{err_from_is_err_and}
use Rattle.taskformat.specs.Reading.{kind_at}
use Rattle.records.specs.Kinds.{kind_number}
use Rattle.records.specs.Records.{Says}
use Rattle.records.proofs.FaultLaws.{past_the_end, unknown, placed_wrong, cut_short, whole, left, says}
use Rattle.records.proofs.fault.check.Goals as goal

pub returns-in_default : goal.returns-in_default
returns-in_default c = rw c.at.ensures (past_the_end _ _ _ (omega (arith, c.in_default.ensures.lookup)))

pub returns-in_default-of : goal.returns-in_default-of
returns-in_default-of c =
    let read = c.in-Some.ensures.lookup.3 in
    rw c.at-in_default-of.ensures (unknown _ _ _ read.0 (rw (← read.1 0) c.in_default-of.ensures))

pub returns-then-is_misplaced : goal.returns-then-is_misplaced
returns-then-is_misplaced c =
    let read = c.in-Some.ensures.lookup.3 in
    let is : kind_number c.in-Some-of.kind ≡ kind_at c.args.s.now c.args.at = c.in-Some-of.ensures ∙ read.1 0 in
    rw c.at-then-is_misplaced.ensures (placed_wrong _ _ _ read.0 c.in-Some-of.kind (is) (sym c.if-is_misplaced.ensures))

pub returns-then-body-body_length : goal.returns-then-body-body_length
returns-then-body-body_length c =
    let read = c.in-Some.ensures.lookup.3 in
    let is : kind_number c.in-Some-of.kind ≡ kind_at c.args.s.now c.args.at = c.in-Some-of.ensures ∙ read.1 0 in
    let short = left c.args.s.now c.args.at in
    rw c.at-then-body-body_length.ensures
    (cut_short _ _ _ read.0 c.in-Some-of.kind (is) (sym c.if-is_misplaced.ensures) (omega (arith, c.body_length.ensures, short)))

pub returns-in_err-check_body : goal.returns-in_err-check_body
returns-in_err-check_body c =
    let read = c.in-Some.ensures.lookup.3 in
    let is : kind_number c.in-Some-of.kind ≡ kind_at c.args.s.now c.args.at = c.in-Some-of.ensures ∙ read.1 0 in
    let long = left c.args.s.now c.args.at in
    let said : Says c.args.s.now c.args.at c.of-parts.result = says _ _ c.in-Some-of.kind _ (is) c.of-parts.ensures in
    let p = err_from_is_err_and c.from_residual.result c.from_residual.ensures.1 in
    rw (p.1, p.2)
    (c.in_err-check_body.ensures ∙
    whole _ _ _ read.0 c.in-Some-of.kind (is) (sym c.if-is_misplaced.ensures) c.of-parts.result (said) (omega (arith, c.body_length.ensures, long)))

pub returns : goal.returns
returns c =
    let read = c.in-Some.ensures.lookup.3 in
    let is : kind_number c.in-Some-of.kind ≡ kind_at c.args.s.now c.args.at = c.in-Some-of.ensures ∙ read.1 0 in
    let long = left c.args.s.now c.args.at in
    let said : Says c.args.s.now c.args.at c.of-parts.result = says _ _ c.in-Some-of.kind _ (is) c.of-parts.ensures in (
      c.in_ok-check_body.ensures ∙
          whole _ _ _ read.0 c.in-Some-of.kind (is) (sym c.if-is_misplaced.ensures) c.of-parts.result (said) (omega (arith, c.body_length.ensures, long)),
      said,
    )
