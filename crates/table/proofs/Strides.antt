-- The strides and places are what the sizes make them: "96f + 32k + a, from 0 to 6143"; "64 rows of 7 numbers .. 448 in all"
-- (document 01). Assumes nothing.
use mathlib.Core.Path.{◌≡◌, refl}
use Prim.Native.Nat.{◌+◌, ◌*◌, ◌≤◌}
use native.Mathlib.Omega.{arith}
use Rattle.facts.specs.Sets.{width}
use Rattle.table.specs.Sizes.{max_facts, max_actions, kinds, per_kind, per_fact, last_repair, max_limit, max_row, row_places, all_rows, session_places}

-- a mask has room for every fact
pub width_facts : width ≡ max_facts
width_facts = refl

-- a kind has a number for each action
pub per_kind_actions : per_kind ≡ max_actions
per_kind_actions = refl

pub per_fact_kinds : per_fact ≡ kinds * per_kind
per_fact_kinds = refl

pub last_repair_facts : last_repair + 1 ≡ per_fact * max_facts
last_repair_facts = refl

-- a row has its length and its repairs
pub row_places_row : row_places ≡ max_row + 1
row_places_row = refl

pub all_rows_facts : all_rows ≡ row_places * max_facts
all_rows_facts = refl

-- a session table has nothing beside its rows
pub session_places_rows : session_places ≡ all_rows
session_places_rows = refl

-- a list that a row can't hold is over every limit
pub limit_within_row : max_limit ≤ max_row
limit_within_row = omega arith
