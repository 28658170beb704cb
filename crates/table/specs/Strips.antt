-- The model and its run: source document 001, Definitions 1 and 3, and 003; document 01, "The model and its run".
-- A set of facts is a function from facts to Bool.
use Rattle.std.specs.Prelude.{Bool, true, not, ◌&&◌, ◌||◌, ◌≡◌, ℕ, zero, suc, ◌<◌}

-- An action table: "Facts are 0 to F-1, actions 0 to A-1. Each action has needs, adds and deletes, three sets of facts."
-- Each set takes the action and then the fact. Locks mark needs that no list may drop (02, request 6); a run does not look at them.
pub record Cells : Type 0 where
  pub facts : ℕ
  pub actions : ℕ
  pub needs : ℕ → ℕ → Bool
  pub adds : ℕ → ℕ → Bool
  pub deletes : ℕ → ℕ → Bool
  pub locks : ℕ → ℕ → Bool

-- One known run: "a start set, a goal set and a list of n steps, each an action". `step i` is the action of step i + 1.
pub record Course : Type 0 where
  pub start : ℕ → Bool
  pub goal : ℕ → Bool
  pub count : ℕ
  pub step : ℕ → ℕ

-- The known runs of one table: so many, each a course (source document 000, multiple instances; 02, request 1).
pub record Courses : Type 0 where
  pub many : ℕ
  pub course : ℕ → Course

-- A run by itself.
abbrev pub one : Course → Courses
one r = record { many = 1; course = λ i. r }

-- "Afterwards the state is (state without deletes) joined with adds": add wins.
abbrev pub after_step : (ℕ → Bool) → (ℕ → Bool) → (ℕ → Bool) → ℕ → Bool
after_step state add delete f = (state f && not (delete f)) || add f

-- The state after the first i steps.
unfoldable pub state_at : Cells → Course → ℕ → ℕ → Bool
state_at c r zero = r.start
state_at c r (suc i) = after_step (state_at c r i) (c.adds (r.step i)) (c.deletes (r.step i))

-- "A run is valid if each step may run and all goals hold at the end."
pub record Valid (c : Cells) (r : Course) : Type 0 where
  pub may_run : (i : ℕ) → i < r.count → (f : ℕ) → c.needs (r.step i) f ≡ true → state_at c r i f ≡ true
  pub reaches : (f : ℕ) → r.goal f ≡ true → state_at c r r.count f ≡ true

-- One fact is right: "present wherever it is needed, and at the end if it is a goal" (01, "The session table").
pub record Right (c : Cells) (r : Course) (f : ℕ) : Type 0 where
  pub needed : (i : ℕ) → i < r.count → c.needs (r.step i) f ≡ true → state_at c r i f ≡ true
  pub wanted : r.goal f ≡ true → state_at c r r.count f ≡ true

-- Each of the runs is valid, and the fact is right in each.
abbrev pub AllValid : Cells → Courses → Type 0
AllValid c rs = (i : ℕ) → i < rs.many → Valid c (rs.course i)

abbrev pub AllRight : Cells → Courses → ℕ → Type 0
AllRight c rs f = (i : ℕ) → i < rs.many → Right c (rs.course i) f
