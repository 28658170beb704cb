-- The run check's running values: what the open needs of the first n steps come to, and how one step more is noted. The report of
-- OpenNeeds is the tally of all n + 1 steps.
use Rattle.std.specs.Prelude.{cond, not, ◌&&◌, ℕ, ◌+◌, eqb, ltb}
use Rattle.facts.specs.Sets.{joined, removed, count, lowest}
use Rattle.table.specs.Counting.{sum_below, first_where}
use Rattle.table.specs.Strips.{Cells, Course}
use Rattle.runcheck.specs.OpenNeeds.{States, is_open, open_at}
use Rattle.runcheck.specs.declared.OpenNeeds.{OpenNeeds}

-- "Afterwards the state is (state without deletes) joined with adds", of masks; a step whose open needs are the mask `absent` keeps it, if
-- it has any.
abbrev pub stepped : ℕ → ℕ → ℕ → ℕ → ℕ
stepped state absent adds deletes = cond (eqb absent 0) (joined (removed state deletes) adds) state

-- Nothing is open yet.
abbrev pub nothing : OpenNeeds
nothing = record { total = 0; step = 0; fact = 0 }

-- Of the first n steps: the first that has an open need; n where there is none.
unfoldable pub first_below : Cells → Course → States → ℕ → ℕ
first_below c r states n = first_where (λ i. ltb 0 (open_at c r states i)) n

-- The tally of the first n steps.
unfoldable pub tally_at : Cells → Course → States → ℕ → OpenNeeds
tally_at c r states n =
    cond {A = OpenNeeds} (eqb (sum_below (open_at c r states) n) 0)
    nothing
    (record {
      total = sum_below (open_at c r states) n;
      step = first_below c r states n + 1;
      fact = first_where (is_open c r states (first_below c r states n)) c.facts;
    })

-- The tally with one step more, whose open needs are the mask `absent`; the step is counted from 1.
unfoldable pub noted : OpenNeeds → ℕ → ℕ → OpenNeeds
noted s absent step =
    cond {A = OpenNeeds} (eqb s.total 0 && not (eqb absent 0))
    (record { total = s.total + count absent; step = step; fact = lowest absent })
    (record { total = s.total + count absent; step = s.step; fact = s.fact })
