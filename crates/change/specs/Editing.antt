-- Editing one cell: document 01, "The session table": "An edit names a kind of cell with its action and fact, or a start
-- or goal fact, and sets it to present or absent." 02, request 1: "a start or goal edit .. name their run"; request 6: "Edits can set and
-- clear a lock."
use Rattle.std.specs.Prelude.{Bool, false, not, ◌&&◌, List, ◌≡◌, ℕ, ltb}
use Rattle.table.specs.Setting.{set_in}
use Rattle.table.specs.Tasks.{cells_of, course_of, with_locks, Shaped}
use Rattle.table.specs.declared.Task.{Task}
use Rattle.table.specs.declared.Table.{Table}
use Rattle.table.specs.declared.Runs.{Runs}
use Rattle.change.specs.declared.Cell.{Cell}
use Rattle.change.specs.declared.Cell.TheVariants.{Need, Add, Delete, Start, Goal, Lock}
use Rattle.change.specs.declared.Edit.{Edit}

-- The fact that a cell concerns, and so the row that an edit writes afresh.
abbrev pub cell_fact : Cell → ℕ
cell_fact (Need a f) = f
cell_fact (Add a f) = f
cell_fact (Delete a f) = f
cell_fact (Start r f) = f
cell_fact (Goal r f) = f
cell_fact (Lock a f) = f

-- 14 is given if not: the fact, and the action of a need, an add, a delete or a lock or the run of a start or a goal, are in the task.
unfoldable pub cell_inside : Task → Cell → Bool
cell_inside t (Need a f) = ltb a t.table.actions && ltb f t.table.facts
cell_inside t (Add a f) = ltb a t.table.actions && ltb f t.table.facts
cell_inside t (Delete a f) = ltb a t.table.actions && ltb f t.table.facts
cell_inside t (Start r f) = ltb r t.runs.many && ltb f t.table.facts
cell_inside t (Goal r f) = ltb r t.runs.many && ltb f t.table.facts
cell_inside t (Lock a f) = ltb a t.table.actions && ltb f t.table.facts

-- What a cell of a task holds: whether the fact is in that set of the action, or in the start or the goal of the run.
unfoldable pub cell_value : Task → Cell → Bool
cell_value t (Need a f) = (cells_of t.table).needs a f
cell_value t (Add a f) = (cells_of t.table).adds a f
cell_value t (Delete a f) = (cells_of t.table).deletes a f
cell_value t (Start r f) = (course_of t.runs r).start f
cell_value t (Goal r f) = (course_of t.runs r).goal f
cell_value t (Lock a f) = (cells_of t.table).locks a f

-- 18 (02, request 6): "a lock set on a cell that isn't a need, or a need cleared under a lock": either would leave a lock without a need.
unfoldable pub lock_left : Table → Cell → Bool → Bool
lock_left t (Need a f) p = not p && (cells_of t).locks a f
lock_left t (Add a f) p = false
lock_left t (Delete a f) p = false
lock_left t (Start r f) p = false
lock_left t (Goal r f) p = false
lock_left t (Lock a f) p = p && not ((cells_of t).needs a f)

abbrev pub leaves_lock : Task → Edit → Bool
leaves_lock t e = lock_left t.table e.cell e.present

-- The edit is made: neither 14 nor 18.
abbrev pub accepts : Task → Edit → Bool
accepts t e = cell_inside t e.cell && not (leaves_lock t e)

-- "sets it to present or absent": u is the task t with this one cell set. The named cell is what the edit says; every other cell, of the
-- same fact or of another, of the same run or of another, locks among them, and all sizes and steps are as they were.
pub record EditedTo (t : Task) (e : Edit) (u : Task) : Type 0 where
  pub shaped : Shaped u
  pub facts : u.table.facts ≡ t.table.facts
  pub actions : u.table.actions ≡ t.table.actions
  pub limit : u.table.limit ≡ t.table.limit
  pub many : u.runs.many ≡ t.runs.many
  pub counts : u.runs.counts ≡ t.runs.counts
  pub steps : u.runs.steps ≡ t.runs.steps
  pub named : cell_value u e.cell ≡ e.present
  pub others : (c : Cell) → (c ≡ e.cell → ⊥) → cell_value u c ≡ cell_value t c

-- ---- the same as the code works, on masks: that it is the one task with the cell set is proved (EditLaws)

abbrev pub with_needs : Table → List ℕ → Table
with_needs t sets = record { facts = t.facts; actions = t.actions; limit = t.limit; needs = sets; adds = t.adds; deletes = t.deletes; locks = t.locks }

abbrev pub with_adds : Table → List ℕ → Table
with_adds t sets = record { facts = t.facts; actions = t.actions; limit = t.limit; needs = t.needs; adds = sets; deletes = t.deletes; locks = t.locks }

abbrev pub with_deletes : Table → List ℕ → Table
with_deletes t sets = record { facts = t.facts; actions = t.actions; limit = t.limit; needs = t.needs; adds = t.adds; deletes = sets; locks = t.locks }

abbrev pub with_starts : Runs → List ℕ → Runs
with_starts r sets = record { many = r.many; starts = sets; goals = r.goals; counts = r.counts; steps = r.steps }

abbrev pub with_goals : Runs → List ℕ → Runs
with_goals r sets = record { many = r.many; starts = r.starts; goals = sets; counts = r.counts; steps = r.steps }

-- The task with the cell set.
unfoldable pub set_cell : Task → Cell → Bool → Task
set_cell t (Need a f) p = record { table = with_needs t.table (set_in t.table.needs a f p); runs = t.runs }
set_cell t (Add a f) p = record { table = with_adds t.table (set_in t.table.adds a f p); runs = t.runs }
set_cell t (Delete a f) p = record { table = with_deletes t.table (set_in t.table.deletes a f p); runs = t.runs }
set_cell t (Start r f) p = record { table = t.table; runs = with_starts t.runs (set_in t.runs.starts r f p) }
set_cell t (Goal r f) p = record { table = t.table; runs = with_goals t.runs (set_in t.runs.goals r f p) }
set_cell t (Lock a f) p = record { table = with_locks t.table (set_in t.table.locks a f p); runs = t.runs }

abbrev pub edited : Task → Edit → Task
edited t e = set_cell t e.cell e.present
