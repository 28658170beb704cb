-- The answer out of single facts (003: "each fact can be diagnosed by itself"; 01, "The session table", listing).
use Rattle.std.specs.Prelude.{Bool, true, false, cond, List, [], ◌≡◌, ℕ, ◌<◌, ◌≤◌, ltb, length}
use Rattle.table.specs.Counting.{some_below, first_where}
use Rattle.table.specs.Lists.{gather}
use Rattle.table.specs.Answer.{Permitted, First, Verdict, found, over, hopeless}
use Rattle.table.specs.Order.{is_in}
use Rattle.table.specs.Repairs.{repaired, fact_of}
use Rattle.table.specs.Strips.{Cells, Courses, AllRight}

-- A list keeps the facts below n right: permitted repairs of those facts alone, with which each of them is right.
pub record KeepsBelow (c : Cells) (rs : Courses) (n : ℕ) (l : List ℕ) : Type 0 where
  pub permitted : Permitted c l
  pub own : (m : ℕ) → is_in l m ≡ true → fact_of m < n
  pub right : (f : ℕ) → f < n → AllRight (repaired c (is_in l)) rs f

-- "no set has a fact at or above F" (01, "Sizes"), of the two sets that can make a fact wrong.
pub record Inside (c : Cells) (rs : Courses) : Type 0 where
  pub needs : (a f : ℕ) → c.facts ≤ f → c.needs a f ≡ false
  pub goal : (i : ℕ) → i < rs.many → (f : ℕ) → c.facts ≤ f → (rs.course i).goal f ≡ false

unfoldable pub is_hopeless : Verdict → Bool
is_hopeless (found l) = false
is_hopeless over = false
is_hopeless hopeless = true

unfoldable pub is_over : Verdict → Bool
is_over (found l) = false
is_over over = true
is_over hopeless = false

-- The list that was found, if one was.
unfoldable pub found_list : Verdict → List ℕ
found_list (found l) = l
found_list over = []
found_list hopeless = []

-- The lists of the facts below n, in order of fact.
abbrev pub join_lists : (ℕ → Verdict) → ℕ → List ℕ
join_lists v n = gather (λ f. found_list (v f)) n

-- What the facts' verdicts come to, whatever the limit.
pub data Joined : Type 0 where
  -- a fact is hopeless
  no_list : Joined
  -- the lowest fact whose shortest list has more than a row holds
  beyond : ℕ → Joined
  -- the facts' lists, one after another
  in_order : List ℕ → Joined

unfoldable pub join_rows : (ℕ → Verdict) → ℕ → Joined
join_rows v n =
    cond {A = Joined} (some_below (λ f. is_hopeless (v f)) n) no_list
    (cond {A = Joined} (ltb (first_where (λ f. is_over (v f)) n) n) (beyond (first_where (λ f. is_over (v f)) n)) (in_order (join_lists v n)))

-- The limit is read afterwards: a fact beyond a row is over it, and so is a list that is longer.
unfoldable pub read_against : ℕ → Joined → Verdict
read_against limit no_list = hopeless
read_against limit (beyond f) = over
read_against limit (in_order l) = cond {A = Verdict} (ltb limit (length l)) over (found l)

abbrev pub join_verdicts : (ℕ → Verdict) → ℕ → ℕ → Verdict
join_verdicts v n limit = read_against limit (join_rows v n)

-- What a join says of a set of lists, where a row holds k repairs: none is in it; one is, and each has more than k; its first of the
-- shortest.
abbrev pub ComesTo : (List ℕ → Type 0) → ℕ → Joined → Type 0
ComesTo G k no_list = (m : List ℕ) → G m → ⊥
ComesTo G k (beyond f) = ((m : List ℕ) × G m) × ((m : List ℕ) → G m → k < length m)
ComesTo G k (in_order l) = First G l
