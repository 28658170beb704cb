-- One cell by its kind, as the code works: the three sets of an action alike, and a list's numbers one after another. What a list
-- means is in Applying, what an edit means in Editing.
use Rattle.std.specs.Prelude.{Bool, List, ℕ, zero, suc, eqb, get_or}
use Rattle.table.specs.Repairs.{by_kind, add_effect, fact_of, kind_of, action_of}
use Rattle.table.specs.declared.Table.{Table}
use Rattle.change.specs.Editing.{with_needs, with_adds, with_deletes}
use Rattle.table.specs.Setting.{set_in}

-- The table with fact f of action a set to present or absent, in the deletes, adds or needs by the kind of repair that concerns them.
unfoldable pub kind_set : Table → ℕ → ℕ → ℕ → Bool → Table
kind_set t k a f present =
    by_kind {A = Table} k (with_deletes t (set_in t.deletes a f present)) (with_adds t (set_in t.adds a f present))
    (with_needs t (set_in t.needs a f present))

-- The table with the repair of one number made: an added effect is then present, a dropped delete or need absent.
unfoldable pub number_set : Table → ℕ → Table
number_set t n = kind_set t (kind_of n) (action_of n) (fact_of n) (eqb (kind_of n) add_effect)

-- The table with the first i numbers of the list made, one after another.
unfoldable pub one_by_one : Table → List ℕ → ℕ → Table
one_by_one t l zero = t
one_by_one t l (suc i) = number_set (one_by_one t l i) (get_or l i 0)
