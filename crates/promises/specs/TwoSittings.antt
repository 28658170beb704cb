-- Two sittings (02, request 7), as the test that runs them: what the second call gives, to which the task that the first one gave is handed.
use Rattle.std.specs.Prelude.{List, ℕ}
use Rattle.apply.specs.Applying.{Applies}
use Rattle.table.specs.declared.Task.{Task}
use Rattle.table.specs.declared.TaskReply.{TaskReply}

pub record MadeInTwo (t : Task) (morning afternoon : List ℕ) (s : TaskReply) : Type 0 where
  pub between : TaskReply
  pub first_call : Applies t morning between
  pub second_call : Applies between.task afternoon s
