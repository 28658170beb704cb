-- `rows::copying::copy` writes the numbers over those that stood there.
use mathlib.Core.List.{List, ◌++◌}
use mathlib.Core.Path.{◌≡◌, sym, ap, ◌∙◌}
use Prim.Native.Nat.{ℕ, ◌+◌, ◌<◌}
use native.Mathlib.Omega.{arith}
use lib.ListN.{length, take, drop, length-drop}
use lib.Seq.{ext_get_or, get_or-take, get_or-drop, take-take, length-take-le}
use Rattle.std.proofs.lemmas.Slice.{put_mid-paste}
use Rattle.rows.specs.Copies.{pasted}
use Rattle.rows.proofs.copying.copy.Goals as goal

pub returns : goal.returns
unfolding pasted
returns c =
    let a = c.args in
    let numbers = c.loop-i.place-items in
    let part : List ℕ = drop a.start a.from.now in
    let long : length (take a.count part) ≡ a.count = length-take-le a.count part (omega (arith, length-drop a.start a.from.now)) in
    let whole = c.loop-i.invariant.whole in
    let filled : numbers ≡ take a.count part =
    ext_get_or 0 numbers (take a.count part) (whole ∙ sym long)
    (λ k below.
    let inside : k < a.count = omega (arith, whole) in
    c.loop-i.invariant.so_far k (omega (arith, c.loop-i.auto.place-items, c.loop-i-test.false)) ∙
    sym (get_or-take a.count part k 0 inside ∙ get_or-drop a.start a.from.now k 0)) in
    put_mid-paste a.at _ a.to.now numbers (take a.count part) a.count filled (omega arith) (omega (arith, long)) ∙
    ap (λ (l : List ℕ). take a.at a.to.now ++ l ++ drop (a.at + a.count) a.to.now) (take-take a.count a.count part (omega arith))
