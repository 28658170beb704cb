-- Lengths of files: document 01, "The task file" and "The listing".
use Rattle.std.specs.Prelude.{ℕ, ◌+◌, ◌-◌, ◌*◌}
use Rattle.table.specs.Sizes.{max_facts, max_actions, max_runs, max_steps}

-- "each well-formed task has exactly one file" (01), of at most 27,660 bytes: the sizes, start and goal facts, needs, adds, deletes and locks
-- (02, request 6), steps; for each further run its opening, start and goal facts and steps (02, request 1); the end.
abbrev pub longest_file : ℕ
longest_file =
    4 + 2 * (2 * max_facts) + 4 * (3 * (max_actions * max_facts)) + 2 * max_steps + (max_runs - 1) * (1 + 2 * (2 * max_facts) + 2 * max_steps) + 1

-- "The program reads standard input, at most" (01) 28,000 bytes (02, request 6: "The program's buffer"); "later bytes can't alter its answer".
abbrev pub program_room : ℕ
program_room = 28000
