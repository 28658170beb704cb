-- What each part of the search promises: document 01, "A conflict" and "When a candidate still fails".
use Rattle.std.specs.Prelude.{Bool, true, false, Option, Some, None, List, ◌≡◌, ℕ, ◌<◌, ◌≤◌, length}
use Rattle.table.specs.Answer.{First}
use Rattle.table.specs.Order.{is_in}
use Rattle.table.specs.Repairs.{permitted, repaired}
use Rattle.table.specs.Sizes.{max_row, per_fact}
use Rattle.table.specs.Strips.{Cells, Course, Courses, Right, AllRight, state_at}
use Rattle.choices.specs.declared.Choice.{Choice}
use Rattle.choices.specs.Choices.{in_choice, numbers_in, list_of, code_number, Contains, Misses, Meets, Apart, Shares}
use Rattle.search.specs.declared.Column.{Column}
use Rattle.search.specs.Columns.{cells_in, KeepsIn}

-- The column's table with a candidate applied.
abbrev pub cells_with : Column → Choice → Cells
cells_with col s = repaired (cells_in col) (numbers_in col.fact s)

-- The fact is needed at place j with the candidate applied: by step j + 1, or as a goal after the last step.
pub data NeededAt (col : Column) (r : Course) (s : Choice) (j : ℕ) : Type 0 where
  by_step : j < r.count → (cells_with col s).needs (r.step j) col.fact ≡ true → NeededAt col r s j
  by_goal : j ≡ r.count → r.goal col.fact ≡ true → NeededAt col r s j

-- "a fact f is missing at step j": needed there, and absent.
pub record Missing (col : Column) (r : Course) (s : Choice) (j : ℕ) : Type 0 where
  pub needed : NeededAt col r s j
  pub absent : state_at (cells_with col s) r j col.fact ≡ false

-- Each repair of the choice is permitted.
abbrev pub Allowed : Column → Choice → Type 0
Allowed col s = (code : ℕ) → code < per_fact → in_choice s code ≡ true → permitted (cells_in col) (code_number col.fact code) ≡ true

-- q is a conflict of the candidate s: every list that keeps the fact right (and so has permitted repairs alone) has one of its
-- repairs, whether or not it contains s; none of them is in s, and each is permitted.
pub record Conflicts (col : Column) (rs : Courses) (s q : Choice) : Type 0 where
  pub meets : (l : List ℕ) → KeepsIn col rs l → Meets (is_in l) col.fact q
  pub fresh : Apart q s
  pub allowed : Allowed col q

-- The lists that are looked for: those that keep the fact right, have none of the repairs that are out and one of those that
-- are wanted.
pub record Sought (col : Column) (rs : Courses) (out want : Choice) (l : List ℕ) : Type 0 where
  pub keeps : KeepsIn col rs l
  pub misses : Misses (is_in l) col.fact out
  pub meets : Meets (is_in l) col.fact want

-- The candidate s lacks a repair of q: every list that is looked for has one, and s has none. None of them is out, and each
-- is permitted.
pub record Lacks (col : Column) (rs : Courses) (s out want q : Choice) : Type 0 where
  pub meets : (l : List ℕ) → Sought col rs out want l → Meets (is_in l) col.fact q
  pub fresh : Apart q s
  pub apart : Apart q out
  pub allowed : Allowed col q

-- Does the candidate keep the fact right in every run?
abbrev pub Rightness : Column → Courses → Choice → Bool → Type 0
Rightness col rs s true = AllRight (cells_with col s) rs col.fact
Rightness col rs s false = AllRight (cells_with col s) rs col.fact → ⊥

-- Does the candidate lack nothing? It keeps the fact right, and has one of the repairs that are wanted.
abbrev pub Complete : Column → Courses → Choice → Choice → Bool → Type 0
Complete col rs s want true = AllRight (cells_with col s) rs col.fact × Shares s want
Complete col rs s want false = AllRight (cells_with col s) rs col.fact → Shares s want → ⊥

-- Repairs that the candidate lacks one of, if it lacks any as far as the runs below n go.
abbrev pub LackingBelow : Column → Courses → Choice → Choice → Choice → ℕ → Option Choice → Type 0
LackingBelow col rs s out want n (Some q) = Lacks col rs s out want q
LackingBelow col rs s out want n None = ((i : ℕ) → i < n → Right (cells_with col s) (rs.course i) col.fact) × Shares s want

abbrev pub Lacking : Column → Courses → Choice → Choice → Choice → Option Choice → Type 0
Lacking col rs s out want q = LackingBelow col rs s out want rs.many q

-- The lists among which a search with a candidate looks: those that are looked for, contain the candidate and have at most k
-- repairs.
pub record Among (col : Column) (rs : Courses) (s out want : Choice) (k : ℕ) (l : List ℕ) : Type 0 where
  pub sought : Sought col rs out want l
  pub contains : Contains (is_in l) col.fact s
  pub short : length l ≤ k

-- One of the lists of G, or nothing exactly if G is empty.
abbrev pub SomeOf : ℕ → (List ℕ → Type 0) → Option Choice → Type 0
SomeOf f G (Some r) = G (list_of f r)
SomeOf f G None = (l : List ℕ) → G l → ⊥

-- All of r is out for these lists: what was out before, and beside that what none of them has.
pub record OutFor (col : Column) (rs : Courses) (s out want : Choice) (k : ℕ) (r : Choice) : Type 0 where
  pub before : (code : ℕ) → code < per_fact → in_choice out code ≡ true → in_choice r code ≡ true
  pub apart : Apart s r
  pub misses : (l : List ℕ) → Among col rs s out want k l → Misses (is_in l) col.fact r

-- What is out for these lists, or that there are none.
abbrev pub Reached : Column → Courses → Choice → Choice → Choice → ℕ → Option Choice → Type 0
Reached col rs s out want k (Some r) = OutFor col rs s out want k r
Reached col rs s out want k None = (l : List ℕ) → Among col rs s out want k l → ⊥

-- The lists have the same repairs of fact f with codes below n.
abbrev pub Agree : ℕ → ℕ → List ℕ → List ℕ → Type 0
Agree f n a b = (code : ℕ) → code < per_fact → code < n → is_in a (code_number f code) ≡ is_in b (code_number f code)

-- The lists that could come before the best so far where `from` is reached: no longer, the same below `from`, and then with a
-- repair before the code n.
pub record Earlier (col : Column) (rs : Courses) (best : Choice) (from n : ℕ) (l : List ℕ) : Type 0 where
  pub keeps : KeepsIn col rs l
  pub same : Agree col.fact from l (list_of col.fact best)
  pub one : (code : ℕ) × (code < per_fact) × (from ≤ code) × (code < n) × (is_in l (code_number col.fact code) ≡ true)
  pub short : length l ≤ length (list_of col.fact best)

-- A shortest list that keeps the column's fact right, if that has at most six repairs; or nothing, and then every list that
-- does has more.
abbrev pub Short : Column → Courses → Option Choice → Type 0
Short col rs (Some r) =
    KeepsIn col rs (list_of col.fact r) × (length (list_of col.fact r) ≤ max_row)
    × ((l : List ℕ) → KeepsIn col rs l → length (list_of col.fact r) ≤ length l)
Short col rs None = (l : List ℕ) → KeepsIn col rs l → max_row < length l

-- What the whole search of a column gives: the first of the shortest lists that keep its fact right, if that has at
-- most six; or nothing, and then every list that does has more.
abbrev pub Shortest : Column → Courses → Option Choice → Type 0
Shortest col rs (Some best) = First (KeepsIn col rs) (list_of col.fact best) × (length (list_of col.fact best) ≤ max_row)
Shortest col rs None = (l : List ℕ) → KeepsIn col rs l → max_row < length l
