-- Applying a list: document 01, "Applying a list changes all its cells at once", and refusals 12 and 15.
use Rattle.std.specs.Prelude.{Bool, not, ◌&&◌, ◌||◌, List, [], ◌∷◌, ◌≡◌, ℕ, ◌-◌, leb, ltb, length, get_or}
use Rattle.table.specs.Counting.{first_where}
use Rattle.table.specs.Order.{is_in}
use Rattle.table.specs.Refusals.{Refusal, first_of, refuse, refuse_at, accepted, not_well_formed, list_not_permitted}
use Rattle.table.specs.Repairs.{permitted, repaired}
use Rattle.table.specs.Strips.{Cells}
use Rattle.table.specs.Tasks.{cells_of, formed, Shaped}
use Rattle.table.specs.declared.Task.{Task}
use Rattle.table.specs.declared.TaskReply.{TaskReply}

-- 15: the number at an index does not ascend, or names no permitted repair; that of a locked need is none (02, request 6).
unfoldable pub wrong_at : Cells → List ℕ → ℕ → Bool
wrong_at c l i = (ltb 0 i && leb (get_or l i 0) (get_or l (i - 1) 0)) || not (permitted c (get_or l i 0))

-- "index of the first such"; the length of the list where there is none.
unfoldable pub first_wrong : Cells → List ℕ → ℕ
first_wrong c l = first_where (wrong_at c l) (length l)

-- The refusals of applying a list, in order.
unfoldable pub apply_refusal : Task → List ℕ → Refusal
apply_refusal t l =
    first_of
    (refuse (not (formed t)) not_well_formed ∷ refuse_at wrong (ltb wrong (length l)) list_not_permitted ∷ [])
  where
    wrong : ℕ
    wrong = first_wrong (cells_of t.table) l

-- The task u is t with the list applied, all cells at once (001, Definition 2): sizes and runs as they were, and each
-- cell that of the repaired table; no repair changes a lock (02, request 6).
pub record AppliedTo (t : Task) (l : List ℕ) (u : Task) : Type 0 where
  pub shaped : Shaped u
  pub runs : u.runs ≡ t.runs
  pub facts : u.table.facts ≡ t.table.facts
  pub actions : u.table.actions ≡ t.table.actions
  pub limit : u.table.limit ≡ t.table.limit
  pub needs : (a f : ℕ) → (cells_of u.table).needs a f ≡ (repaired (cells_of t.table) (is_in l)).needs a f
  pub adds : (a f : ℕ) → (cells_of u.table).adds a f ≡ (repaired (cells_of t.table) (is_in l)).adds a f
  pub deletes : (a f : ℕ) → (cells_of u.table).deletes a f ≡ (repaired (cells_of t.table) (is_in l)).deletes a f
  pub locks : (a f : ℕ) → (cells_of u.table).locks a f ≡ (cells_of t.table).locks a f

-- What a call gives: the refusal with the task given, or 0, 0 and the task with the list applied.
pub record Applies (t : Task) (l : List ℕ) (r : TaskReply) : Type 0 where
  pub number : r.number ≡ (apply_refusal t l).number
  pub place : r.place ≡ (apply_refusal t l).place
  pub refused : (r.number ≡ accepted → ⊥) → r.task ≡ t
  pub applied : r.number ≡ accepted → AppliedTo t l r.task
