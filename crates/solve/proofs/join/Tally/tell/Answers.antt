-- `solve::join::Tally::tell` meets its contract. Assumes nothing.
use mathlib.Core.Path.{◌≡◌, refl}
use borrow.Author.Rules.{rules}
use native.Mathlib.Omega.{arith}
use lib.ListN.{length}
use Rattle.std.proofs.lemmas.Result.{err_from_is_err_and}
use Rattle.table.specs.Sizes.{max_limit}
use Rattle.solve.proofs.JoinedLaws.{first_pasted}
use Rattle.solve.proofs.ReportLaws.{total_given}
use Rattle.solve.proofs.join.Tally.tell.Goals as goal

pub returns-in_err-total : goal.returns-in_err-total
returns-in_err-total c =
    let p = err_from_is_err_and c.from_residual.result c.from_residual.ensures.1 in
    rw (p.1, p.2) (c.in_err-total.ensures, refl)

pub copy-requires : goal.copy-requires
copy-requires c =
    let a = c.args in
    let sum = a.self.sum in
    let given = total_given sum.hopeless sum.over sum.total a.limit (length a.room.now) c.in_ok-total.total c.in_ok-total.ensures in
    let six : length a.self.list ≡ max_limit = search rules in
    record {
      count_in_bounds = omega (arith, given, c.requires, six);
      count_in_bounds_2 = omega (arith, given);
    }

pub returns : goal.returns
returns c =
    let a = c.args in (
      c.in_ok-total.ensures,
      first_pasted a.room.now a.self.list c.copy.new.to c.in_ok-total.total c.in_ok-total.total c.copy.ensures refl,
    )
