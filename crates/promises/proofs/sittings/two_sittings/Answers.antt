-- `promises::sittings::two_sittings` meets its contract: what the first call gave is what the second one gets. Assumes nothing.
use borrow.Author.Rules.{rules}
use Rattle.table.specs.Outcomes.{made_of}
use Rattle.promises.proofs.Results.{task_left}
use Rattle.promises.proofs.sittings.two_sittings.Goals as goal

pub returns : goal.returns
returns c = record {
  between = made_of c.apply.result;
  first_call = c.apply.ensures;
  second_call = rw (task_left c.apply.result _ (λ e h. search rules) c.unwrap_or_else-made.ensures) at c.apply-2.ensures;
}
