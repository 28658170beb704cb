-- `taskfile::read` meets its contract: a record with a fault, the end, and any other good record. Assumes nothing.
use mathlib.Core.Path.{◌≡◌, refl, sym, ap, ◌∙◌, subst₂}
use Prim.Native.Nat.{ℕ, ◌+◌}
use native.Mathlib.Omega.{arith}
use native.Mathlib.Nat.{add-zero}
use Rattle.std.proofs.lemmas.Result.{err_from_is_err_and}
use Rattle.table.specs.Refusals.{Refusal}
use Rattle.taskformat.specs.Format.{body_length}
use Rattle.taskformat.specs.Reading.{Seen, Reads, good, ended, trailing, kind_at, next_at, fault_at}
use Rattle.records.specs.Kinds.{kind_number}
use Rattle.records.specs.Records.{seen_of}
use Rattle.taskformat.proofs.Clear.{Clear, clear}
use Rattle.taskfile.proofs.ReaderLaws.{read_refused, seen_next, is_end, not_end, end_length, many_next}
use Rattle.taskfile.proofs.read.Goals as goal

pub returns-in_err-parts : goal.returns-in_err-parts
returns-in_err-parts c =
    let p = err_from_is_err_and c.from_residual.result c.from_residual.ensures.1 in
    rw (p.1, p.2) (c.loop-parts.invariant.reads _ (read_refused c.in_err-parts.field-0.0 c.in_err-parts.ensures))

pub overflow_add-next-in-loop-parts : goal.overflow_add-next-in-loop-parts
overflow_add-next-in-loop-parts c =
    let l = c.loop-parts in
    let clean : Clear c.args.s.now l.at (seen_of l.seen) = clear _ _ _ (ap (λ (f : Refusal). f.number) (sym c.in_ok-parts.ensures.0)) in
    let said = c.in_ok-parts.ensures.1.kind in
    let long : c.body_length.result ≡ body_length (kind_at c.args.s.now l.at) = c.body_length.ensures ∙ ap body_length said in
    omega (arith, (clean).whole, long)

pub returns-then-next-s : goal.returns-then-next-s
returns-then-next-s c =
    let l = c.loop-parts in
    let faultless : (fault_at c.args.s.now l.at (seen_of l.seen)).number ≡ 0 = ap (λ (f : Refusal). f.number) (sym c.in_ok-parts.ensures.0) in
    let ends = is_end c.in_ok-parts.parts.kind c.if-eq.ensures c.in_ok-parts.ensures.1.kind in
    let none : c.body_length.result ≡ 0 = c.body_length.ensures ∙ ap body_length (c.in_ok-parts.ensures.1.kind ∙ ends) ∙ end_length in
    rw (c.at.ensures, none) (l.invariant.reads _ (trailing (faultless) ends (omega (arith, none)) (rw add-zero refl)))

pub returns-then-eq : goal.returns-then-eq
returns-then-eq c =
    let l = c.loop-parts in
    let faultless : (fault_at c.args.s.now l.at (seen_of l.seen)).number ≡ 0 = ap (λ (f : Refusal). f.number) (sym c.in_ok-parts.ensures.0) in
    let ends = is_end c.in_ok-parts.parts.kind c.if-eq.ensures c.in_ok-parts.ensures.1.kind in
    let none : c.body_length.result ≡ 0 = c.body_length.ensures ∙ ap body_length (c.in_ok-parts.ensures.1.kind ∙ ends) ∙ end_length in
    let begun = (clear _ _ _ (faultless)).begun in
    l.invariant.reads _ (ended (faultless) ends (omega (arith, none, begun)) refl)

pub keep-requires-clause-further : goal.keep-requires-clause-further
keep-requires-clause-further c =
    let l = c.loop-parts in
    let clean : Clear c.args.s.now l.at (seen_of l.seen) = clear _ _ _ (ap (λ (f : Refusal). f.number) (sym c.in_ok-parts.ensures.0)) in
    rw c.in_ok-parts.ensures.1.kind (clean).runs

pub keep-requires-clause-step : goal.keep-requires-clause-step
keep-requires-clause-step c =
    let l = c.loop-parts in
    let clean : Clear c.args.s.now l.at (seen_of l.seen) = clear _ _ _ (ap (λ (f : Refusal). f.number) (sym c.in_ok-parts.ensures.0)) in
    rw c.in_ok-parts.ensures.1.kind (clean).room

pub loop-parts-preserved : goal.loop-parts-preserved
loop-parts-preserved c =
    let l = c.loop-parts in
    let parts = c.in_ok-parts.parts in
    let said = c.in_ok-parts.ensures.1 in
    let faultless : (fault_at c.args.s.now l.at (seen_of l.seen)).number ≡ 0 = ap (λ (f : Refusal). f.number) (sym c.in_ok-parts.ensures.0) in
    let next : next_at c.args.s.now l.at ≡ l.at + 1 + c.body_length.result = ap (λ (n : ℕ). l.at + 1 + n) (sym (c.body_length.ensures ∙ ap body_length said.kind)) in
    let same = c.keep.ensures ∙ seen_next c.args.s.now l.at (seen_of l.seen) parts said in
    record {
      reads = λ r h. l.invariant.reads r (good (faultless) (not_end parts.kind c.if-eq.ensures said.kind) (subst₂ (Reads c.args.s.now r) (sym (next)) same h));
      many = rw (ap (λ (q : Seen). q.task.runs.many) c.keep.ensures)
          (many_next l.seen.task (kind_number parts.kind) parts.first parts.second parts.third l.invariant.many (rw said.kind (clear _ _ _ (faultless)).runs));
    }
