-- `facts::Facts` comes to an end: without the lowest fact, one fewer is left.
use mathlib.Core.Path.{ap, ◌∙◌}
use Prim.Native.Nat.{ℕ}
use native.Mathlib.Nat.{pos_of_ne-zero}
use native.Mathlib.Omega.{arith}
use Rattle.facts.specs.Sets.{only, removed, count}
use Rattle.facts.proofs.Counting.{count_rest}
use Rattle.facts.proofs.FactsIterator.next.Goals as goal

pub returns-clause-goes : goal.returns-clause-goes
returns-clause-goes c =
    let m = c.args.self.now.rest in
    let fewer = count_rest m (pos_of_ne-zero c.if-self-eq0.false) (omega arith) in
    let same = c.without_fact-self.ensures ∙ ap (λ (f : ℕ). removed m (only f)) c.lowest-f.ensures in
    record { on = λ _. (tt, tt, omega (arith, fewer, ap count same)); keeps = tt; rests = λ _. tt }
