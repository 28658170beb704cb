-- `solve::join::Tally::with_row` meets its contract: by the row's first number, and what `copy` ensures. Assumes nothing.
use mathlib.Core.Path.{◌≡◌, refl, ap}
use Prim.Native.Nat.{◌≤◌}
use borrow.Author.Rules.{rules}
use native.Mathlib.Omega.{arith}
use lib.ListN.{length}
use Rattle.table.specs.Sizes.{max_limit, max_row, row_places}
use Rattle.solve.specs.declared.report.Sum.{Sum}
use Rattle.solve.proofs.JoinedLaws.{count_low, joins_none, joins_row}
use Rattle.solve.proofs.join.Tally.with_row.Goals as goal

pub returns-then-sum-gt-LIMIT : goal.returns-then-sum-gt-LIMIT
returns-then-sum-gt-LIMIT c =
    let seven : length c.args.row ≡ row_places = search rules in
    rw c.with_row-sum.ensures
    (joins_none c.args.self c.args.row seven c.requires.row_bound _ refl
    (omega (arith, c.if-sum-gt-LIMIT.true, ap (λ (x : Sum). x.total) c.with_row-sum.ensures)))

pub copy-requires : goal.copy-requires
copy-requires c =
    let seven : length c.args.row ≡ row_places = search rules in
    let low : c.announced.result ≤ max_row =
    count_low c.args.self c.args.row seven c.requires.row_bound c.announced.result c.announced.ensures in
    let six : length c.args.self.list ≡ max_limit = search rules in
    record {
      count_in_bounds = omega (arith, low, seven);
      count_in_bounds_2 = omega (arith, six, ap (λ (x : Sum). x.total) c.with_row-sum.ensures, c.announced.ensures);
    }

pub returns : goal.returns
returns c =
    let seven : length c.args.row ≡ row_places = search rules in
    let six : length c.args.self.list ≡ max_limit = search rules in
    rw c.with_row-sum.ensures
    (joins_row c.args.self c.args.row seven c.requires.row_bound c.announced.result c.announced.ensures c.copy.new.to
    (omega (arith, six, ap (λ (x : Sum). x.total) c.with_row-sum.ensures)) c.copy.ensures)
