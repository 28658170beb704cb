-- Every size, stride and bound of documents 01 and 02, by one name each.
use Rattle.std.specs.Prelude.{ℕ, ◌*◌}

-- "F 1 to 64, A 1 to 32, n 0 to 64, limit L 0 to 6" (01, "Sizes").
abbrev pub max_facts : ℕ
max_facts = 64

abbrev pub max_actions : ℕ
max_actions = 32

abbrev pub max_steps : ℕ
max_steps = 64

-- "A file may hold up to eight runs", "The limit of 64 steps holds for each run" (02, request 1).
abbrev pub max_runs : ℕ
max_runs = 8

-- The steps of all runs.
abbrev pub all_steps : ℕ
all_steps = max_steps * max_runs

abbrev pub max_limit : ℕ
max_limit = 6

-- "The number of a repair is 96f + 32k + a, from 0 to 6143" (01, "The model and its run").
abbrev pub kinds : ℕ
kinds = 3

abbrev pub per_kind : ℕ
per_kind = 32

abbrev pub per_fact : ℕ
per_fact = 96

abbrev pub last_repair : ℕ
last_repair = 6143

-- "64 rows of 7 numbers of 16 bits, 448 in all"; "unused places are 65535" (01, "The session table").
-- A row holds at most six repairs, whatever L is.
abbrev pub max_row : ℕ
max_row = 6

abbrev pub row_places : ℕ
row_places = 7

abbrev pub all_rows : ℕ
all_rows = 448

-- A session table is its rows.
abbrev pub session_places : ℕ
session_places = all_rows

abbrev pub unused : ℕ
unused = 65535
