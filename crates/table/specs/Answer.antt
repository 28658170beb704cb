-- What a repair list has to do, and which list is the answer: document 01, "The model and its run"; demand 2.
use Rattle.std.specs.Prelude.{true, List, ◌≡◌, ℕ, ◌<◌, ◌≤◌, length}
use Rattle.table.specs.Order.{Ascending, is_in, ◌≼◌}
use Rattle.table.specs.Repairs.{permitted, repaired, fact_of}
use Rattle.table.specs.Strips.{Cells, Courses, AllValid, AllRight}

-- A permitted list: ascending, and each of its numbers names a permitted repair.
pub record Permitted (c : Cells) (l : List ℕ) : Type 0 where
  pub ascending : Ascending l
  pub each : (n : ℕ) → is_in l n ≡ true → permitted c n ≡ true

-- A list works: it is permitted, and every run is valid in the table with the list applied.
pub record Works (c : Cells) (rs : Courses) (l : List ℕ) : Type 0 where
  pub permitted : Permitted c l
  pub valid : AllValid (repaired c (is_in l)) rs

-- A list keeps the one fact f right: permitted repairs of f alone, with which f is right in every run (01, "The session table").
pub record Keeps (c : Cells) (rs : Courses) (f : ℕ) (l : List ℕ) : Type 0 where
  pub permitted : Permitted c l
  pub own : (n : ℕ) → is_in l n ≡ true → fact_of n ≡ f
  pub right : AllRight (repaired c (is_in l)) rs f

-- The first of the shortest lists of a set G of lists.
pub record First (G : List ℕ → Type 0) (l : List ℕ) : Type 0 where
  pub member : G l
  pub least : (m : List ℕ) → G m → l ≼ m

-- "The answer is the first of the shortest permitted lists that make the run valid."
abbrev pub Answer : Cells → Courses → List ℕ → Type 0
Answer c rs l = First (Works c rs) l

-- What can be said of a set of lists and a limit.
pub data Verdict : Type 0 where
  found : List ℕ → Verdict
  over : Verdict
  hopeless : Verdict

-- Found: its first of the shortest, which is within the limit. Over the limit: some list is in it, but none within the limit.
-- Hopeless: no list of any length is in it. (Demand 2.)
abbrev pub Within : (List ℕ → Type 0) → ℕ → Verdict → Type 0
Within G limit (found l) = First G l × (length l ≤ limit)
Within G limit over = ((m : List ℕ) × G m) × ((m : List ℕ) → G m → limit < length m)
Within G limit hopeless = (m : List ℕ) → G m → ⊥
