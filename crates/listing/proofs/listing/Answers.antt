-- `listing`: read, checked, solved and told, in 01's numbers.
use mathlib.Core.Path.{sym, subst}
use native.Mathlib.Omega.{arith}
use borrow.Author.Rules.{rules}
use Rattle.listing.proofs.TellingLaws.{solved_fits, read_formed, read_few, listed}
use Rattle.listing.specs.Listing.{answer_room}
use Rattle.solve.specs.Solving.{Solves}
use Rattle.table.specs.declared.Reply.{Reply}
use Rattle.taskformat.specs.Reading.{ReadsFile}
use Rattle.listing.proofs.listing.Goals as goal

pub check_runs-checks-requires : goal.check_runs-checks-requires
check_runs-checks-requires c = rw c.from-read.ensures (read_few c.read.ensures)

pub tell-requires : goal.tell-requires
tell-requires c =
    record {
      well_formed = rw c.from-read.ensures (read_formed c.read.ensures);
      length_in_bounds = rw c.from-solved.ensures (omega (arith, solved_fits c.solve.ensures));
      list_len_bound = search rules;
    }

pub returns : goal.returns
returns c =
    let read = c.from-read.result in
    let reads = subst (ReadsFile c.args.input.now) (sym c.from-read.ensures) c.read.ensures in
    let solves =
    subst (λ (r : Reply). Solves read.task answer_room (record { reply = r; room = c.solve.new.room })) (sym c.from-solved.ensures) c.solve.ensures in
    listed read c.check_runs-checks.result reads c.check_runs-checks.ensures solves c.tell.ensures
