-- `solve::report::report` meets its contract: what the sum tells. Assumes nothing.
use Rattle.std.proofs.lemmas.Result.{err_from_is_err_and}
use Rattle.solve.proofs.ReportLaws.{sum_fits, refusal_told, total_told}
use Rattle.solve.proofs.report.report.Goals as goal

pub returns-in_err-length : goal.returns-in_err-length
returns-in_err-length c =
    let a = c.args in
    let p = err_from_is_err_and c.from_residual.result c.from_residual.ensures.1 in
    rw (p.1, p.2)
    (refusal_told a.table.now a.t.table.facts a.t.table.limit a.room.now c.sum_rows-sum.result c.sum_rows-sum.ensures _ c.in_err-length.ensures)

pub write_lists-requires : goal.write_lists-requires
write_lists-requires c =
    record {
      facts_le_max_facts = c.requires.well_formed.facts_high;
      readable = c.requires.readable;
      facts_in_bounds = sum_fits c.args.table.now c.args.t.table.facts c.args.t.table.limit c.args.room.now c.sum_rows-sum.result
          c.sum_rows-sum.ensures c.in_ok-length.length c.in_ok-length.ensures;
    }

pub returns : goal.returns
returns c =
    let a = c.args in
    total_told a.table.now a.t.table.facts a.t.table.limit a.room.now c.sum_rows-sum.result c.sum_rows-sum.ensures
    c.in_ok-length.length c.in_ok-length.ensures c.write_lists.new.room c.write_lists.ensures
