-- `alike_at`: the first place where what is left of the text and the word differ, or the end of the shorter.
use mathlib.Core.Path.{◌≡◌, refl, ap, ◌∙◌}
use lib.ListN.{drop}
use Rattle.std.proofs.Common.{rules, tests}
use Rattle.std.proofs.lemmas.Iterator.{YieldsList-from_slice, YieldsList-from_zip}
use Rattle.std.proofs.lemmas.Iterator.Search.{position_from_yields_List}
use Rattle.layout.specs.Beginnings.{alike}
use Rattle.pddlreader.proofs.ReachLaws.{differ, left_of, stands_up_to}
use Rattle.pddlreader.proofs.cursor.alike_at.Goals as goal

pub returns : goal.returns
returns c =
    let s = c.args.s.now in
    let w = c.args.word.now in
    let text = c.unwrap_or-left.result.now in
    let left : text ≡ drop c.args.at s = left_of s c.args.at c.get.result _ _ refl c.unwrap_or-left.ensures c.get.ensures.lookup.0 in
    let first =
    position_from_yields_List differ c.position.new.self _ c.position.result c.position.ensures.ran
    (YieldsList-from_zip (YieldsList-from_slice text cc) (YieldsList-from_slice w (search rules))) (λ x b q k. search (rules, tests)) in
    rw (c.unwrap_or.ensures, c.min.ensures) (stands_up_to text w c.position.result first ∙ ap (λ u. alike u w) left)
