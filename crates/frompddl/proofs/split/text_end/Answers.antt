-- `text_end`: the search finds the first closing line, if there is one. Assumes nothing.
use mathlib.Core.Bool.{true, false}
use mathlib.Core.Path.{◌≡◌}
use native.Mathlib.Omega.{arith}
use borrow.Author.Rules.{rules}
use borrow.Author.Tests.{tests}
use Rattle.std.specs.Prelude.{Some, None}
use Rattle.std.proofs.lemmas.Iterator.{first_from_Range}
use Rattle.frompddl.specs.Splitting.{closing}
use Rattle.frompddl.proofs.SplitLaws.{text_end_searched}
use Rattle.frompddl.proofs.split.text_end.Goals as goal

pub overflow_add-result : goal.overflow_add-result
overflow_add-result c =
    let found = text_end_searched c.args.s.now c.args.from (Some c.in-Some.at)
    (first_from_Range _ c.find.new.self _ (Some c.in-Some.at) (λ i. closing c.args.s.now i ≡ true) (λ i. closing c.args.s.now i ≡ false)
    c.in-Some.ensures.ran (λ x q k. search (rules, tests)) (λ x q k. search (rules, tests))) in
    omega (arith, found.0)

pub returns-in-Some : goal.returns-in-Some
returns-in-Some c =
    let found = text_end_searched c.args.s.now c.args.from (Some c.in-Some.at)
    (first_from_Range _ c.find.new.self _ (Some c.in-Some.at) (λ i. closing c.args.s.now i ≡ true) (λ i. closing c.args.s.now i ≡ false)
    c.in-Some.ensures.ran (λ x q k. search (rules, tests)) (λ x q k. search (rules, tests))) in
    found.1

pub returns-in-None : goal.returns-in-None
returns-in-None c =
    text_end_searched c.args.s.now c.args.from None
    (first_from_Range _ c.find.new.self _ None (λ i. closing c.args.s.now i ≡ true) (λ i. closing c.args.s.now i ≡ false)
    c.in-None.ensures.ran (λ x q k. search (rules, tests)) (λ x q k. search (rules, tests)))
