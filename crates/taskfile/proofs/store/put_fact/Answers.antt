-- `taskfile::store::put_fact` meets its contract: past the sets nothing is stored. Assumes nothing.
use mathlib.Core.Path.{sym}
use lib.Seq.{set_out}
use Rattle.taskfile.proofs.store.put_fact.Goals as goal

pub returns-else-place-sets : goal.returns-else-place-sets
returns-else-place-sets c = sym (set_out c.args.sets.now c.args.place _ c.if-place-sets.false)
