-- A test that computing decides: the verdict on one fact, where its list has at most two repairs. A tool for the bench sheet; what a
-- verdict means is in table/specs/Answer.
use Rattle.std.specs.Prelude.{Bool, false, not, ◌&&◌, cond, List, [], ◌∷◌, ℕ, ◌+◌, ◌-◌, ◌*◌, eqb, ltb}
use Rattle.table.specs.Counting.{every_below, some_below}
use Rattle.table.specs.Deciding.{is_all_right, is_formed}
use Rattle.table.specs.Answer.{Verdict, found, over, hopeless}
use Rattle.table.specs.Order.{is_in}
use Rattle.table.specs.Repairs.{permitted, repaired, fact_of}
use Rattle.table.specs.Sizes.{per_fact}
use Rattle.table.specs.Strips.{Cells, Course, Courses}
use Rattle.table.specs.Tasks.{cells_of, courses_of}
use Rattle.table.specs.declared.Task.{Task}

-- The fact is right in the table with a list applied.
unfoldable pub is_right_with : Cells → Courses → ℕ → List ℕ → Bool
is_right_with c rs f l = is_all_right (repaired c (is_in l)) rs f

-- The repair n alone makes the fact right.
unfoldable pub mends : Cells → Courses → ℕ → ℕ → Bool
mends c rs f n = permitted c n && is_right_with c rs f (n ∷ [])

-- The repairs p and q together make the fact right.
unfoldable pub mend_both : Cells → Courses → ℕ → ℕ → ℕ → Bool
mend_both c rs f p q = permitted c p && permitted c q && is_right_with c rs f (p ∷ q ∷ [])

-- No repair of the fact mends it whose code is below n.
unfoldable pub none_mends : Cells → Courses → ℕ → ℕ → Bool
none_mends c rs f n = every_below (λ i. not (mends c rs f (per_fact * f + i))) n

-- No pair mends it of p and a repair of the fact whose code is below n.
unfoldable pub none_with : Cells → Courses → ℕ → ℕ → ℕ → Bool
none_with c rs f n p = every_below (λ j. not (mend_both c rs f p (per_fact * f + j))) n

-- A run that no list helps: one without steps whose goal is absent at its start, or one whose first step has the fact as a locked need that is
-- absent there (02, request 6).
unfoldable pub is_shut : Cells → ℕ → Course → Bool
is_shut c f r =
    not (r.start f) && cond (eqb r.count 0) (r.goal f) (c.needs (r.step 0) f && c.locks (r.step 0) f)

-- Found, without a repair: the fact is right as it stands. Found, with one: it mends the fact, which is not right as it stands, and no
-- smaller repair of the fact does. Found, with two: they mend it, no repair does alone, and no pair that comes before them. Hopeless: some run is
-- such that no list helps.
unfoldable pub certifies : Cells → Courses → ℕ → Verdict → Bool
certifies c rs f (found []) = is_right_with c rs f []
certifies c rs f (found (x ∷ [])) =
    mends c rs f x && eqb (fact_of x) f && not (is_right_with c rs f []) && none_mends c rs f (x - per_fact * f)
certifies c rs f (found (x ∷ y ∷ [])) =
    mend_both c rs f x y && (ltb x y && eqb (fact_of x) f && eqb (fact_of y) f) && (not (is_right_with c rs f []) && none_mends c rs f per_fact) &&
    every_below (λ i. none_with c rs f per_fact (per_fact * f + i)) (x - per_fact * f) && none_with c rs f (y - per_fact * f) x
certifies c rs f (found (x ∷ y ∷ z ∷ l)) = false
certifies c rs f over = false
certifies c rs f hopeless = some_below (λ i. is_shut c f (rs.course i)) rs.many

-- Every fact's verdict is certified, and the task is well formed with arrays of their declared lengths.
unfoldable pub certified : Task → (ℕ → Verdict) → Bool
certified t v =
    is_formed t && every_below (λ f. certifies (cells_of t.table) (courses_of t) f (v f)) t.table.facts

-- The repairs of fact f in a list.
unfoldable pub of_fact : List ℕ → ℕ → List ℕ
of_fact [] f = []
of_fact (x ∷ l) f = cond {A = List ℕ} (eqb (fact_of x) f) (x ∷ of_fact l f) (of_fact l f)

-- The verdicts of the facts that a verdict on the task comes from: the list's parts, or hopeless.
abbrev pub parts_of : Verdict → ℕ → Verdict
parts_of (found l) f = found (of_fact l f)
parts_of over f = over
parts_of hopeless f = hopeless
