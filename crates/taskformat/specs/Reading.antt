-- What reading a file gives, for every byte string: document 01, "The task file" and "Refusal numbers".
-- "Order in a file: the first faulty record; within it 1 (no kind byte), 2, 3, 1 (short body), 4, 5, 6, 7; 8 after a good end."
-- 02, request 1: 16 "after 6 and before 7"; 02, request 2: which byte is wrong; 02, request 6: 18 "after 6 and 16".
use Rattle.std.specs.Prelude.{Bool, true, cond, not, ◌||◌, ◌&&◌, List, [], ◌∷◌, ◌⊎◌, ◌≡◌, ℕ, ◌+◌, ◌-◌, ◌*◌, ◌<◌, eqb, leb, ltb, length, get_or, set}
use Rattle.facts.specs.Sets.{has}
use Rattle.table.specs.Refusals.{Check, Refusal, refuse_at, first_of, accepted, no_end, unknown_kind, sizes_misplaced, size_outside, number_outside, not_ascending, too_many_runs, lock_without_need, too_many_steps, bytes_after_end}
use Rattle.table.specs.Setting.{set_in}
use Rattle.table.specs.Sizes.{max_facts, max_actions, max_runs, max_steps, max_limit}
use Rattle.table.specs.Tasks.{count_of, no_task}
use Rattle.table.specs.declared.Task.{Task}
use Rattle.table.specs.declared.Table.{Table}
use Rattle.table.specs.declared.Runs.{Runs}
use Rattle.table.specs.declared.TaskReply.{TaskReply}
use Rattle.taskformat.specs.Format.{sizes_kind, start_kind, goal_kind, need_kind, add_kind, delete_kind, step_kind, end_kind, run_kind, lock_kind, is_kind, is_cell_kind, is_fact_kind, body_length, no_kind, position_of}

-- The run that was opened last: the first by the sizes, each further one by its kind 9.
abbrev pub last_run : Runs → ℕ
last_run r = r.many - 1

-- What the records so far have said: the task, and the last record's kind and body.
pub record Seen : Type 0 where
  pub task : Task
  pub kind : ℕ
  pub body : ℕ

abbrev pub nothing_seen : Seen
nothing_seen = record { task = no_task; kind = no_kind; body = 0 }

-- The record at a place of the file: its kind and the bytes of its body.
abbrev pub kind_at : List ℕ → ℕ → ℕ
kind_at s at = get_or s at 0

abbrev pub byte_at : List ℕ → ℕ → ℕ → ℕ
byte_at s at i = get_or s (at + 1 + i) 0

-- "Every number is one byte": how many there are.
abbrev pub byte_room : ℕ
byte_room = 256

-- A body of one or two bytes as one number, first number first.
unfoldable pub body_at : List ℕ → ℕ → ℕ
body_at s at = cond (is_cell_kind (kind_at s at)) (byte_room * byte_at s at 0 + byte_at s at 1) (byte_at s at 0)

-- 3: "first kind isn't 1, or 1 comes again"
unfoldable pub misplaced : Seen → ℕ → Bool
misplaced seen kind = cond (eqb seen.kind no_kind) (not (eqb kind sizes_kind)) (eqb kind sizes_kind)

-- 4: "a size is out of range"
unfoldable pub sizes_wrong : ℕ → ℕ → ℕ → Bool
sizes_wrong f a l = not (ltb 0 f && leb f max_facts && (ltb 0 a && leb a max_actions) && leb l max_limit)

-- 5: "fact or action outside". A body's first number is the fact of a start or goal, and the action of a cell or step;
abbrev pub first_outside : Table → ℕ → ℕ → Bool
first_outside t kind x = (is_fact_kind kind && leb t.facts x) || ((is_cell_kind kind || eqb kind step_kind) && leb t.actions x)

-- only a cell has a second, its fact.
unfoldable pub outside : Table → ℕ → ℕ → ℕ → Bool
outside t kind x y = first_outside t kind x || (is_cell_kind kind && leb t.facts y)

-- 6: "kind goes down, or body doesn't ascend" (within each of kinds 2 to 6 and 10). Kind 9 begins the order anew, and "Kinds 4 to 6 after a
-- kind 9 get 6" (02, request 1), kind 10 "like the other table kinds" (02, request 6): either way it is the kind that is out of order.
abbrev pub kind_disordered : Seen → ℕ → Bool
kind_disordered seen kind =
    (not (eqb kind run_kind) && ltb (position_of kind) (position_of seen.kind)) || (is_cell_kind kind && ltb 0 (last_run seen.task.runs))

unfoldable pub disordered : Seen → ℕ → ℕ → Bool
disordered seen kind body =
    kind_disordered seen kind || (eqb kind seen.kind && (is_fact_kind kind || is_cell_kind kind) && leb body seen.body)

-- 18: a "lock .. on a cell that isn't a need", of the needs read; they all stand before the locks (02, request 6).
unfoldable pub lock_stray : List ℕ → ℕ → ℕ → ℕ → Bool
lock_stray needs kind x y = eqb kind lock_kind && not (has (get_or needs x 0) y)

-- Which byte of the record at a place is wrong, by the number of its refusal, counted from the record's start, its kind byte: of 5 "the first number
-- that is outside", of 6 "the kind byte if the kind is out of order and the first body byte otherwise" (02, request 2), of any other the start (01).
unfoldable pub wrong_byte : ℕ → List ℕ → ℕ → Seen → ℕ
wrong_byte number s at seen =
    cond (eqb number number_outside) (cond (first_outside seen.task.table (kind_at s at) (byte_at s at 0)) first_byte second_byte)
    (cond (eqb number not_ascending) (cond (kind_disordered seen (kind_at s at)) kind_byte first_byte) kind_byte)
  where
    kind_byte : ℕ
    kind_byte = 0

    first_byte : ℕ
    first_byte = 1

    second_byte : ℕ
    second_byte = 2

-- The place of each refusal of the record at a place, 0 where there is none. (8 is of no record: `trailing`.)
unfoldable pub place_of : ℕ → List ℕ → ℕ → Seen → ℕ
place_of number s at seen = cond (eqb number accepted) 0 (at + wrong_byte number s at seen)

-- The faults of the record at a place, in 01's order.
unfoldable pub faults_at : List ℕ → ℕ → Seen → List Check
faults_at s at seen =
    fault (leb (length s) at) no_end ∷
    fault (not (is_kind kind)) unknown_kind ∷
    fault (misplaced seen kind) sizes_misplaced ∷
    fault (ltb (length s) (at + 1 + body_length kind)) no_end ∷
    fault (eqb kind sizes_kind && sizes_wrong (byte_at s at 0) (byte_at s at 1) (byte_at s at 2)) size_outside ∷
    fault (outside seen.task.table kind (byte_at s at 0) (byte_at s at 1)) number_outside ∷
    fault (disordered seen kind (body_at s at)) not_ascending ∷
    fault (eqb kind run_kind && leb max_runs seen.task.runs.many) too_many_runs ∷
    fault (lock_stray seen.task.table.needs kind (byte_at s at 0) (byte_at s at 1)) lock_without_need ∷
    fault (eqb kind step_kind && leb max_steps (count_of seen.task.runs (last_run seen.task.runs))) too_many_steps ∷ []
  where
    kind : ℕ
    kind = kind_at s at

    fault : Bool → ℕ → Check
    fault b n = refuse_at (place_of n s at seen) b n

-- The task with one record more, of this kind and these bytes.
unfoldable pub table_after : Table → ℕ → ℕ → ℕ → ℕ → Table
table_after t kind x y z = record {
  facts = cond (eqb kind sizes_kind) x t.facts;
  actions = cond (eqb kind sizes_kind) y t.actions;
  limit = cond (eqb kind sizes_kind) z t.limit;
  needs = cond (eqb kind need_kind) (set_in t.needs x y true) t.needs;
  adds = cond (eqb kind add_kind) (set_in t.adds x y true) t.adds;
  deletes = cond (eqb kind delete_kind) (set_in t.deletes x y true) t.deletes;
  locks = cond (eqb kind lock_kind) (set_in t.locks x y true) t.locks;
}

-- A start fact, a goal fact and a step are of the run that was opened last.
unfoldable pub runs_after : Runs → ℕ → ℕ → Runs
runs_after r kind x = record {
  many = cond (eqb kind sizes_kind) 1 (cond (eqb kind run_kind) (r.many + 1) r.many);
  starts = cond (eqb kind start_kind) (set_in r.starts (last_run r) x true) r.starts;
  goals = cond (eqb kind goal_kind) (set_in r.goals (last_run r) x true) r.goals;
  counts = cond (eqb kind step_kind) (set r.counts (last_run r) (count_of r (last_run r) + 1)) r.counts;
  steps = cond (eqb kind step_kind) (set r.steps (max_steps * last_run r + count_of r (last_run r)) x) r.steps;
}

-- What is seen after the record at a place, and the next place.
unfoldable pub seen_after : List ℕ → ℕ → Seen → Seen
seen_after s at seen = record {
  task = record {
    table = table_after seen.task.table (kind_at s at) (byte_at s at 0) (byte_at s at 1) (byte_at s at 2);
    runs = runs_after seen.task.runs (kind_at s at) (byte_at s at 0);
  };
  kind = kind_at s at;
  body = body_at s at;
}

abbrev pub next_at : List ℕ → ℕ → ℕ
next_at s at = at + 1 + body_length (kind_at s at)

-- "Beside its number and place .. any other refused call returns zeros (a read: a task of zeros)."
abbrev pub refused_read : ℕ → ℕ → TaskReply
refused_read n p = record { number = n; place = p; task = no_task }

abbrev pub accepted_read : Task → TaskReply
accepted_read t = record { number = accepted; place = 0; task = t }

-- The number and place of the first fault of the record at a place; none where it is good.
abbrev pub fault_at : List ℕ → ℕ → Seen → Refusal
fault_at s at seen = first_of (faults_at s at seen)

-- r is what reading s gives from a place on, where the records before it have been seen.
pub data Reads (s : List ℕ) (r : TaskReply) : ℕ → Seen → Type 0 where
  -- the first faulty record
  faulty : {at : ℕ} {seen : Seen} → 0 < (fault_at s at seen).number
      → r ≡ refused_read (fault_at s at seen).number (fault_at s at seen).place → Reads s r at seen
  -- a good record that is not the end: the rest decides
  good : {at : ℕ} {seen : Seen} → (fault_at s at seen).number ≡ 0 → (kind_at s at ≡ end_kind → ⊥)
      → Reads s r (next_at s at) (seen_after s at seen) → Reads s r at seen
  -- a good end that is the last byte
  ended : {at : ℕ} {seen : Seen} → (fault_at s at seen).number ≡ 0 → kind_at s at ≡ end_kind → at + 1 ≡ length s
      → r ≡ accepted_read seen.task → Reads s r at seen
  -- 8: "bytes after the end", at the first such byte
  trailing : {at : ℕ} {seen : Seen} → (fault_at s at seen).number ≡ 0 → kind_at s at ≡ end_kind → at + 1 < length s
      → r ≡ refused_read bytes_after_end (at + 1) → Reads s r at seen

-- Reading a whole file.
abbrev pub ReadsFile : List ℕ → TaskReply → Type 0
ReadsFile s r = Reads s r 0 nothing_seen

-- "Our table editor marks the bad byte in red" (02, request 2). There is one to mark: the place is that of a byte of the file or, only for 1, right
-- behind the last, where more has to come.
abbrev pub Marks : List ℕ → ℕ → ℕ → Type 0
Marks s number place = (place < length s) ⊎ ((number ≡ no_end) × (place ≡ length s))
