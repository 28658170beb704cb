-- `choices::Choice::next_in` looks at the kinds in turn: each that is passed has no code from there on.
use mathlib.Core.Path.{◌≡◌}
use Prim.Native.Nat.{ℕ, ◌*◌, ◌-◌, ◌≤◌}
use native.Mathlib.Omega.{arith}
use Rattle.table.specs.Repairs.{drop_delete, add_effect, drop_need}
use Rattle.table.specs.Sizes.{per_kind}
use Rattle.choices.proofs.MaskLaws.{NoneIn, next_none, next_here}
use Rattle.choices.specs.declared.Choice.{Choice}
use Rattle.choices.specs.Trying.{NextAction}
use Rattle.choices.proofs.Choice.next_in.Goals as goal

-- No delete from there on, once these are passed.
no_delete : (s : Choice) (from next : ℕ) → NextAction s.deletes from next → per_kind ≤ next → NoneIn s from (per_kind * add_effect)
no_delete s from next n far = next_none s drop_delete from from next (omega arith) (omega arith) n (λ k h. absurd (omega arith)) far

-- And no add, once those are passed too.
no_add : (s : Choice) (from skip next : ℕ) → skip ≡ from - per_kind * add_effect → NextAction s.adds skip next
    → NoneIn s from (per_kind * add_effect) → per_kind ≤ next → NoneIn s from (per_kind * drop_need)
no_add s from skip next offset n before far = next_none s add_effect from skip next (omega arith) offset n before far

pub returns-then-deletes-lt-PER_KIND : goal.returns-then-deletes-lt-PER_KIND
returns-then-deletes-lt-PER_KIND c =
    let args = c.args in
    let deletes = c.next_action-deletes in (
      omega (arith, c.if-deletes-lt-PER_KIND.true),
      next_here args.self drop_delete args.from args.from deletes.result (omega arith) (omega arith) deletes.ensures
          deletes.result (omega arith) (λ k h. absurd (omega arith)) c.if-deletes-lt-PER_KIND.true,
    )

pub returns-then-adds-lt-PER_KIND : goal.returns-then-adds-lt-PER_KIND
returns-then-adds-lt-PER_KIND c =
    let no-delete =
    no_delete c.args.self c.args.from c.next_action-deletes.result c.next_action-deletes.ensures c.if-deletes-lt-PER_KIND.false in
    let args = c.args in
    let adds = c.next_action-adds in
    let skip = c.passed in (
      omega (arith, c.code_of.ensures),
      next_here args.self add_effect args.from skip.result adds.result (omega arith) skip.ensures adds.ensures
          c.code_of.result c.code_of.ensures no-delete c.if-adds-lt-PER_KIND.true,
    )

pub returns-then-needs-lt-PER_KIND : goal.returns-then-needs-lt-PER_KIND
returns-then-needs-lt-PER_KIND c =
    let no-delete =
    no_delete c.args.self c.args.from c.next_action-deletes.result c.next_action-deletes.ensures c.if-deletes-lt-PER_KIND.false in
    let no-add =
    no_add c.args.self c.args.from c.passed.result c.next_action-adds.result c.passed.ensures c.next_action-adds.ensures no-delete c.if-adds-lt-PER_KIND.false in
    let args = c.args in
    let dropped = c.next_action-needs in
    let skip = c.passed-2 in (
      omega (arith, c.code_of-then-needs-lt-PER_KIND.ensures),
      next_here args.self drop_need args.from skip.result dropped.result (omega arith) skip.ensures dropped.ensures
          c.code_of-then-needs-lt-PER_KIND.result c.code_of-then-needs-lt-PER_KIND.ensures no-add c.if-needs-lt-PER_KIND.true,
    )

pub returns : goal.returns
returns c =
    let no-delete =
    no_delete c.args.self c.args.from c.next_action-deletes.result c.next_action-deletes.ensures c.if-deletes-lt-PER_KIND.false in
    let no-add =
    no_add c.args.self c.args.from c.passed.result c.next_action-adds.result c.passed.ensures c.next_action-adds.ensures no-delete c.if-adds-lt-PER_KIND.false in
    let dropped = c.next_action-needs in
    let skip = c.passed-2 in
    record {
      after = omega arith;
      within = omega arith;
      absent =
          next_none c.args.self drop_need c.args.from skip.result dropped.result (omega arith) skip.ensures
          dropped.ensures no-add c.if-needs-lt-PER_KIND.false;
      present = λ h. absurd (omega arith);
    }
