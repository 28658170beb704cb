-- `records::record::record_at` meets its contract: of a record that begins and has a kind, cut short or whole. Assumes nothing.
use mathlib.Core.Path.{◌≡◌, sym, ap, ◌∙◌}
use native.Mathlib.Omega.{arith}
use Rattle.std.specs.Prelude.{Err}
use Rattle.taskformat.specs.Reading.{kind_at}
use Rattle.records.specs.Kinds.{kind_number}
use Rattle.records.specs.Records.{record_told}
use Rattle.records.proofs.RecordLaws.{cut_short, whole}
use Rattle.records.proofs.record.record_at.Goals as goal

pub returns-then-s-start : goal.returns-then-s-start
returns-then-s-start c =
    let read = c.in-Some.ensures.lookup.3 in
    let is : kind_number c.in-Some-of.kind ≡ kind_at c.args.s.now c.args.at = c.in-Some-of.ensures ∙ read.1 0 in
    ap (λ e. record_told (Err e)) c.at-then-s-start.ensures ∙
    sym (cut_short _ _ read.0 c.in-Some-of.kind (is) (omega (arith, c.body_length-length.ensures)))

pub returns : goal.returns
returns c =
    let read = c.in-Some.ensures.lookup.3 in
    let is : kind_number c.in-Some-of.kind ≡ kind_at c.args.s.now c.args.at = c.in-Some-of.ensures ∙ read.1 0 in
    rw c.body_length-length.ensures (sym (whole _ _ read.0 c.in-Some-of.kind (is) (omega (arith, c.body_length-length.ensures))))
