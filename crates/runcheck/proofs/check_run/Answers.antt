-- `runcheck::check_run` meets its contract: a task that is not well formed is refused, then a run that isn't there, and the tally of any other is
-- the report. Assumes nothing.
use mathlib.Core.Path.{◌≡◌, ap, sym, ◌∙◌}
use mathlib.Core.Bool.{true}
use Rattle.std.specs.Prelude.{Err}
use Prim.Native.Nat.{ℕ}
use native.Mathlib.Omega.{arith}
use borrow.Author.Rules.{rules}
use borrow.Author.Tests.{le-ltb}
use Rattle.table.specs.Tasks.{Shaped, formed}
use Rattle.table.specs.declared.Task.{Task}
use Rattle.table.proofs.Formation.{formed_well}
use Rattle.runcheck.specs.OpenNeeds.{checked, checked_of}
use Rattle.runcheck.proofs.StateLaws.{checked_formed}
use Rattle.runcheck.proofs.TallyLaws.{answer}
use Rattle.runcheck.proofs.check_run.Goals as goal

pub returns-then-not-is_formed : goal.returns-then-not-is_formed
unfolding checked
returns-then-not-is_formed c =
    rw (sym c.is_formed.ensures ∙ c.if-not-is_formed.true) (ap (λ e. checked_of (Err e)) c.at.ensures)

pub returns-then-t-run : goal.returns-then-t-run
unfolding checked
returns-then-t-run c =
    let task : Task = c.args.t in
    let well : formed (task) ≡ true = sym c.is_formed.ensures ∙ c.if-not-is_formed.false in
    let run : ℕ = c.args.run in
    rw (well, le-ltb (run) (task).runs.many (omega arith)) (ap (λ e. checked_of (Err e)) c.at-then-t-run.ensures)

pub tally_run-requires : goal.tally_run-requires
tally_run-requires c =
    let task : Task = c.args.t in
    let shaped : Shaped c.args.t = search rules in
    let well : formed (task) ≡ true = sym c.is_formed.ensures ∙ c.if-not-is_formed.false in
    (formed_well (task) (shaped) (well), omega arith)

pub returns : goal.returns
returns c =
    let task : Task = c.args.t in
    let run : ℕ = c.args.run in
    let well : formed (task) ≡ true = sym c.is_formed.ensures ∙ c.if-not-is_formed.false in
    ap answer c.tally_run.ensures ∙ sym (checked_formed (task) (run) (well) (omega arith))
