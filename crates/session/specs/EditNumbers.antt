-- An edit as four numbers, for callers who give it so. (Document 01 has no such format: this is ours.)
use Rattle.std.specs.Prelude.{cond, not, ℕ, eqb}
use Rattle.change.specs.declared.Cell.{Cell}
use Rattle.change.specs.declared.Cell.TheVariants.{Need, Add, Delete, Start, Goal, Lock}
use Rattle.change.specs.declared.Edit.{Edit}
use Rattle.table.specs.Sizes.{max_facts}

abbrev pub need_cell : ℕ
need_cell = 0

abbrev pub add_cell : ℕ
add_cell = 1

abbrev pub delete_cell : ℕ
delete_cell = 2

abbrev pub start_cell : ℕ
start_cell = 3

abbrev pub goal_cell : ℕ
goal_cell = 4

abbrev pub lock_cell : ℕ
lock_cell = 5

abbrev pub set_absent : ℕ
set_absent = 0

-- The second number says where: the action of a need, an add, a delete or a lock, the run of a start or a goal. An unknown kind is an edit
-- of a fact that no task has, so that it is refused with 14.
unfoldable pub cell_of : ℕ → ℕ → ℕ → Cell
cell_of k whose f =
    cond {A = Cell} (eqb k need_cell) (Need whose f)
    (cond {A = Cell} (eqb k add_cell) (Add whose f)
    (cond {A = Cell} (eqb k delete_cell) (Delete whose f)
    (cond {A = Cell} (eqb k start_cell) (Start whose f)
    (cond {A = Cell} (eqb k goal_cell) (Goal whose f) (cond {A = Cell} (eqb k lock_cell) (Lock whose f) (Start whose max_facts))))))

-- The kind of cell, its action or its run, the fact, and 0 for absent; any other fourth number is present.
unfoldable pub edit_of : ℕ → ℕ → ℕ → ℕ → Edit
edit_of kind whose fact present = record { cell = cell_of kind whose fact; present = not (eqb present set_absent) }
