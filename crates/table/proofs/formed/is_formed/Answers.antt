-- `table::formed::is_formed` meets its contract: each part of the definition is tested by one call, and sizes or runs out of range end it. Assumes
-- nothing.
use mathlib.Core.Bool.{true}
use mathlib.Core.Path.{◌≡◌, sym, ◌∙◌}
use Rattle.table.specs.Counting.{every_below}
use Rattle.table.specs.Sizes.{max_runs}
use Rattle.table.specs.Tasks.{sizes_formed, run_formed}
use Rattle.table.specs.declared.Task.{Task}
use Rattle.table.proofs.Formation.{sizes_in, counts_fit}
use Rattle.table.proofs.formed.is_formed.Goals as goal

pub are_actions_formed-requires : goal.are_actions_formed-requires
are_actions_formed-requires c =
    let task : Task = c.args.t in
    let sized : sizes_formed (task) ≡ true = sym c.are_sizes_formed.ensures ∙ c.if-not-are_sizes_formed.false in
    (sizes_in (task) (sized)).3

pub are_steps_formed-requires : goal.are_steps_formed-requires
are_steps_formed-requires c =
    let task : Task = c.args.t in
    let sized : sizes_formed (task) ≡ true = sym c.are_sizes_formed.ensures ∙ c.if-not-are_sizes_formed.false in
    let ranged : every_below (run_formed (task)) max_runs ≡ true = sym c.are_runs_formed.ensures ∙ c.if-not-are_runs_formed.false in
    let sizes = sizes_in (task) (sized) in
    record {
      many_le_max_runs = sizes.6;
      actions_le_max_actions = sizes.3;
      counts_fit = counts_fit (task) (ranged);
    }
