-- Repairs as source document 001 permits them: "001 permits kind 1 for every fact. Ours leaves out only repairs that do nothing, so least
-- lists are the same" (01, "The model and its run"). proofs/PublishedLaws has that as a theorem.
use Rattle.std.specs.Prelude.{Bool, true, not, ◌&&◌, List, ◌≡◌, ℕ, ltb}
use Rattle.table.specs.Order.{Ascending, is_in}
use Rattle.table.specs.Repairs.{by_kind, fact_of, kind_of, action_of, repaired}
use Rattle.table.specs.Strips.{Cells, Courses, AllValid}

-- As `permits` of Repairs, but for kind 1: of a fact and an action of the task it is permitted, whether or not f is an add of a. 001 knows no
-- locks: a locked need is permitted here as little as there (02, request 6).
unfoldable pub permits_published : Cells → ℕ → ℕ → ℕ → Bool
permits_published c f k a = ltb f c.facts && ltb a c.actions && by_kind k (c.deletes a f) true (c.needs a f && not (c.locks a f))

unfoldable pub permitted_published : Cells → ℕ → Bool
permitted_published c n = permits_published c (fact_of n) (kind_of n) (action_of n)

-- As `Permitted` and `Works` of Answer, with the repairs that 001 permits.
pub record PermittedPublished (c : Cells) (l : List ℕ) : Type 0 where
  pub ascending : Ascending l
  pub each : (n : ℕ) → is_in l n ≡ true → permitted_published c n ≡ true

pub record WorksPublished (c : Cells) (rs : Courses) (l : List ℕ) : Type 0 where
  pub permitted : PermittedPublished c l
  pub valid : AllValid (repaired c (is_in l)) rs
