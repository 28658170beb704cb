-- `search::Lent::earlier` asks the search for a list that the best so far has to be measured with.
use mathlib.Core.Path.{◌≡◌}
use Prim.Native.Nat.{◌+◌, ◌-◌, ◌≤◌}
use native.Mathlib.Omega.{arith}
use lib.ListN.{length}
use Rattle.choices.specs.Choices.{list_of}
use Rattle.search.specs.Runs.{runs_of}
use Rattle.search.proofs.LeastLaws.{Asked, asked_so, asked_allowed, asked_wanted, asked_apart, asked_size, some_earlier}
use Rattle.search.proofs.Lent.earlier.Goals as goal
use Rattle.search.proofs.Lent.earlier.Goals.{After-size-2}

-- What is asked for, and how many repairs that leaves.
asked : (c : After-size-2) → Asked c.args.self.now.col.now c.args.best c.args.from c.args.code c.shared-s.result c.without-out.result c.shared-want.result
asked c =
    let a = c.args in
    asked_so a.self.now.col.now a.best c.below-passed.result c.below.result c.fullest.result c.without-range.result c.shared-s.result
    c.without-out.result c.shared-want.result a.from a.code c.below-passed.ensures c.below.ensures c.fullest.ensures c.shared-s.ensures
    c.without-out.ensures c.without-range.ensures c.shared-want.ensures

part_size : (c : After-size-2) → (c.size-2.result ≤ c.size.result)
    × (length (list_of c.args.self.now.col.now.fact c.shared-s.result) + (c.size.result - c.size-2.result) ≡ length (list_of c.args.self.now.col.now.fact c.args.best))
part_size c =
    let a = c.args in
    let f = a.self.now.col.now.fact in
    let smaller = asked_size a.self.now.col.now (runs_of a.self.now) a.best a.from a.code _ _ _ (asked c) c.requires in
    (omega (arith, c.size-2.ensures f, c.size.ensures f), omega (arith, c.size-2.ensures f, c.size.ensures f))

pub overflow_sub-left : goal.overflow_sub-left
overflow_sub-left c = (part_size c).0

pub test-requires : goal.test-requires
test-requires c =
    let a = c.args in
    let col = a.self.now.col.now in
    let rs = runs_of a.self.now in
    let so = asked (goal.at.test-requires c).After-size-2 in
    record {
      allowed = asked_allowed col rs a.best a.from a.code _ _ _ so c.requires;
      allowed_2 = asked_wanted col rs a.best a.from a.code _ _ _ so c.requires;
      apart = asked_apart col rs a.best a.from a.code _ _ _ so c.requires;
    }

pub returns : goal.returns
returns c =
    let a = c.args in
    let sized = (goal.at.returns c).After-size-2 in
    some_earlier a.self.now.col.now (runs_of a.self.now) a.best a.from a.code _ _ _ (asked sized) c.requires _ (part_size sized).1 c.test.result
    c.test.ensures
