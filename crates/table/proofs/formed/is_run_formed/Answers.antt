-- `table::formed::is_run_formed` meets its contract: the tests are the definition's, in its order. Assumes nothing.
use Rattle.table.specs.Tasks.{run_fits}
use Rattle.table.proofs.formed.is_run_formed.Goals as goal

pub returns : goal.returns
unfolding run_fits
returns c = rw (c.is_within.ensures, c.is_within-2.ensures)
