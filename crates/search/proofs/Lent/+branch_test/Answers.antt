use mathlib.Core.Path.{◌≡◌, refl, sym, ap, ◌∙◌, subst}
use Prim.Native.Nat.{ℕ, ◌+◌, ◌*◌, ◌-◌, ◌<◌}
use native.Mathlib.Omega.{arith}
use lib.ListN.{length}
use Rattle.choices.specs.declared.Codes.{Codes}
use Rattle.table.specs.Sizes.{per_fact}
use Rattle.choices.specs.Trying.{NextIn}
use Rattle.choices.specs.Choices.{list_of, Apart}
use Rattle.search.specs.Runs.{runs_of}
use Rattle.search.specs.Searching.{Allowed, Complete, Lacks}
use Rattle.search.proofs.BoundLaws.{shared_none, shared_short}
use Rattle.search.proofs.SearchLaws.{OutAt, out_first, out_skip, out_next, out_all, allowed_with, apart_with, found_with, some_fewer, candidate_among}
use Rattle.search.proofs.Lent.+branch_test.Goals as goal
use Rattle.search.proofs.Lent.+branch_test.Goals.{branch-After-into_iter-code-iterator, branch-In-Some-code}

-- What the loop goes over is lacking.
lacks : (t : ℕ) (c : branch-After-into_iter-code-iterator t)
    → Lacks c.args.self.now.col.now (runs_of c.args.self.now) c.args.s c.args.out c.args.want c.into_iter-code-iterator.result.set
lacks t c =
    let a = c.args in
    let same : c.into_iter-code-iterator.result.set ≡ c.in-Some.q = ap (λ (it : Codes). it.set) (c.into_iter-code-iterator.ensures.into_iter_gives ∙ c.codes-code-items.ensures) in
    subst (Lacks a.self.now.col.now (runs_of a.self.now) a.s a.out a.want) (sym same) c.in-Some.ensures

-- The code that the loop comes to is the next of these, and what is out there.
next_of : (t : ℕ) (c : branch-In-Some-code t) → NextIn c.into_iter-code-iterator.result.set c.loop-code.code-iterator.from c.in-Some-code.code
next_of t c = subst (λ q. NextIn q c.loop-code.code-iterator.from c.in-Some-code.code) c.loop-code.invariant.0 c.in-Some-code.ensures.steps.0.1

at_code : (t : ℕ) (c : branch-In-Some-code t)
    → OutAt c.args.self.now.col.now (runs_of c.args.self.now) c.args.s c.args.out c.args.want c.into_iter-code-iterator.result.set
    (length (list_of c.args.self.now.col.now.fact c.args.s) + c.args.left) c.in-Some-code.code c.loop-code.out
at_code t c =
    let a = c.args in
    out_skip a.self.now.col.now (runs_of a.self.now) a.s a.out a.want c.into_iter-code-iterator.result.set (length (list_of a.self.now.col.now.fact a.s) + a.left)
    c.loop-code.out c.loop-code.code-iterator.from c.in-Some-code.code c.loop-code.invariant.1 (next_of t c) c.loop-code.invariant.2

pub branch-loop-code-init : goal.branch-loop-code-init
branch-loop-code-init t c =
    let a = c.args in
    let start : c.into_iter-code-iterator.result.from ≡ 0 = ap (λ (it : Codes). it.from) (c.into_iter-code-iterator.ensures.into_iter_gives ∙ c.codes-code-items.ensures) in (
      refl,
      omega arith,
      subst (λ i. OutAt a.self.now.col.now (runs_of a.self.now) a.s a.out a.want c.into_iter-code-iterator.result.set (length (list_of a.self.now.col.now.fact a.s) + a.left) i a.out) (sym start)
          (out_first a.self.now.col.now (runs_of a.self.now) a.s a.out a.want _ _ c.requires.apart),
    )

pub branch-test-requires : goal.branch-test-requires
branch-test-requires t c =
    let here = (goal.at.branch-test-requires t c).In-Some-code in
    let q = c.into_iter-code-iterator.result.set in
    let a = c.args in
    let col = a.self.now.col.now in
    let rs = runs_of a.self.now in
    let below = c.in-Some-code.ensures.steps.0.0 in
    let lacking = lacks t (goal.at.branch-test-requires t c).After-into_iter-code-iterator in
    let offered = (next_of t here).present below in
    let less : 2 * (a.left - 1) + 1 < t = omega (arith, c.decreases, c.requires.left_nonzero) in (
      less,
      (
        subst (Allowed col) (sym c.with_repair.ensures) (allowed_with col rs a.s q c.in-Some-code.code below c.requires.allowed lacking.allowed offered),
        (
          c.requires.allowed_2,
          subst (λ w. Apart w c.loop-code.out) (sym c.with_repair.ensures)
              (apart_with col rs a.s a.out a.want q (length (list_of col.fact a.s) + a.left) lacking c.loop-code.out c.in-Some-code.code below offered (at_code t here)),
        ),
      ),
    )

pub branch-returns-in-Some-test : goal.branch-returns-in-Some-test
branch-returns-in-Some-test t c =
    let here = (goal.at.branch-returns-in-Some-test t c).In-Some-code in
    let a = c.args in
    let below = c.in-Some-code.ensures.steps.0.0 in
    found_with a.self.now.col.now (runs_of a.self.now) a.s a.out a.want c.into_iter-code-iterator.result.set
    (length (list_of a.self.now.col.now.fact a.s) + a.left) (lacks t (goal.at.branch-returns-in-Some-test t c).After-into_iter-code-iterator) c.loop-code.out
    c.in-Some-code.code below ((next_of t here).present below) (at_code t here) a.left c.requires.left_nonzero refl c.with_repair.result
    c.with_repair.ensures c.in-Some-test.found c.in-Some-test.ensures

pub branch-loop-code-preserved : goal.branch-loop-code-preserved
branch-loop-code-preserved t c =
    let here = (goal.at.branch-loop-code-preserved t c).In-Some-code in
    let a = c.args in
    let below = c.in-Some-code.ensures.steps.0.0 in
    let same = c.in-Some-code.ensures.steps.1 in
    let col = a.self.now.col.now in
    let rs = runs_of a.self.now in
    let q = c.into_iter-code-iterator.result.set in
    let k = length (list_of col.fact a.s) + a.left in (
      ap (λ (it : Codes). it.set) same ∙ c.loop-code.invariant.0,
      omega (arith, ap (λ (it : Codes). it.from) same),
      subst (λ i. OutAt col rs a.s a.out a.want q k i c.with_repair-out.result) (sym (ap (λ (it : Codes). it.from) same))
          (subst (OutAt col rs a.s a.out a.want q k (c.in-Some-code.code + 1)) (sym c.with_repair-out.ensures)
          (out_next col rs a.s a.out a.want q k (lacks t (goal.at.branch-loop-code-preserved t c).After-into_iter-code-iterator) c.loop-code.out
          c.in-Some-code.code below ((next_of t here).present below) (at_code t here) a.left c.requires.left_nonzero refl c.with_repair.result
          c.with_repair.ensures c.in_default-test.ensures)),
    )

pub branch-returns : goal.branch-returns
branch-returns t c =
    let a = c.args in
    let col = a.self.now.col.now in
    let rs = runs_of a.self.now in
    let q = c.into_iter-code-iterator.result.set in
    let k = length (list_of col.fact a.s) + a.left in
    out_all col rs a.s a.out a.want q k (lacks t (goal.at.branch-returns t c).After-into_iter-code-iterator) c.loop-code.out per_fact (omega arith)
    (out_skip col rs a.s a.out a.want q k c.loop-code.out c.loop-code.code-iterator.from per_fact c.loop-code.invariant.1
    (subst (λ q. NextIn q c.loop-code.code-iterator.from per_fact) c.loop-code.invariant.0 c.in-None.ensures.steps.0) c.loop-code.invariant.2)

pub test-returns-then-is_complete : goal.test-returns-then-is_complete
test-returns-then-is_complete t c =
    let a = c.args in
    let rs = runs_of a.self.now in
    candidate_among a.self.now.col.now rs a.s a.out a.want a.left c.requires.allowed c.requires.apart
    (subst (Complete a.self.now.col.now rs a.s a.want) c.if-is_complete.true c.is_complete.ensures)

pub test-returns-then-left-eq0 : goal.test-returns-then-left-eq0
test-returns-then-left-eq0 t c =
    let a = c.args in
    let rs = runs_of a.self.now in
    shared_short a.self.now.col.now rs a.s a.out a.want a.s 0 a.left (omega (arith, c.if-left-eq0.true))
    (shared_none a.self.now.col.now rs a.s a.out a.want) (subst (Complete a.self.now.col.now rs a.s a.want) c.if-is_complete.false c.is_complete.ensures)

pub test-returns : goal.test-returns
test-returns t c =
    let a = c.args in
    let col = a.self.now.col.now in
    some_fewer col (runs_of a.self.now) a.s a.out a.want c.in_ok-out.out (length (list_of col.fact a.s) + a.left) c.in_ok-out.ensures
    c.branch-self.result c.branch-self.ensures
