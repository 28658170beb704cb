-- What is seen after one record more, by its parts (taskformat/specs/Reading says it by the file's bytes).
use Rattle.std.specs.Prelude.{ℕ}
use Rattle.table.specs.declared.Task.{Task}
use Rattle.taskformat.specs.Reading.{Seen, table_after, runs_after}
use Rattle.records.specs.declared.parts.Parts.{Parts}
use Rattle.records.specs.Kinds.{kind_number}
use Rattle.records.specs.Records.{number_of_body}

abbrev pub task_after : Task → (kind x y z : ℕ) → Task
task_after t kind x y z = record { table = table_after t.table kind x y z; runs = runs_after t.runs kind x }

abbrev pub seen_with : Seen → Parts → Seen
seen_with seen p = record {
  task = task_after seen.task (kind_number p.kind) p.first p.second p.third;
  kind = kind_number p.kind;
  body = number_of_body (kind_number p.kind) p.first p.second;
}
