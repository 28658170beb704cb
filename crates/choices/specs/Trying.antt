-- What is done with sets of repairs: one repair more, two sets as one, what two share, a set's codes in turn.
use Rattle.std.specs.Prelude.{Bool, true, false, Option, Some, None, ◌≡◌, ℕ, ◌<◌, ◌≤◌, min, ltb}
use Rattle.facts.specs.Sets.{width, has, joined, shared, removed, only}
use Rattle.table.specs.Repairs.{by_kind}
use Rattle.table.specs.Sizes.{per_fact}
use Rattle.choices.specs.declared.Choice.{Choice}
use Rattle.choices.specs.Choices.{code_kind, code_action, in_choice, Shares}

-- A set with another set of actions for one kind.
abbrev pub with_mask : ℕ → ℕ → Choice → Choice
with_mask k m s =
    by_kind {A = Choice} k (record { deletes = m; adds = s.adds; needs = s.needs })
    (record { deletes = s.deletes; adds = m; needs = s.needs }) (record { deletes = s.deletes; adds = s.adds; needs = m })

-- The set's actions of one kind.
abbrev pub mask_in : ℕ → Choice → ℕ
mask_in k s = by_kind k s.deletes s.adds s.needs

-- "with one repair more": the set with the repair of this code too.
unfoldable pub with_repair : Choice → ℕ → Choice
with_repair s code = with_mask (code_kind code) (joined (mask_in (code_kind code) s) (only (code_action code))) s

-- The repairs that are in one of the sets or in both.
abbrev pub both_of : Choice → Choice → Choice
both_of a b = record {
  deletes = joined a.deletes b.deletes;
  adds = joined a.adds b.adds;
  needs = joined a.needs b.needs;
}

-- The repairs of the first set that are not in the second.
abbrev pub without_those : Choice → Choice → Choice
without_those a b = record {
  deletes = removed a.deletes b.deletes;
  adds = removed a.adds b.adds;
  needs = removed a.needs b.needs;
}

-- The repairs that are in both sets.
abbrev pub shared_by : Choice → Choice → Choice
shared_by a b = record {
  deletes = shared a.deletes b.deletes;
  adds = shared a.adds b.adds;
  needs = shared a.needs b.needs;
}

-- The repairs whose codes are below n.
abbrev pub CodesBelow : ℕ → Choice → Type 0
CodesBelow n s = (code : ℕ) → code < per_fact → in_choice s code ≡ ltb code n

-- The first action from `skip` on that is in the set, or a number outside where none is.
pub record NextAction (m skip next : ℕ) : Type 0 where
  pub absent : (a : ℕ) → a < next → skip ≤ a → has m a ≡ false
  pub present : next < width → has m next ≡ true
  pub after : next < width → skip ≤ next

-- The first code from `from` on that is in the set, or `per_fact` where none is.
pub record NextIn (s : Choice) (from next : ℕ) : Type 0 where
  pub after : min from per_fact ≤ next
  pub within : next ≤ per_fact
  pub absent : (code : ℕ) → code < next → from ≤ code → in_choice s code ≡ false
  pub present : next < per_fact → in_choice s next ≡ true

-- That code, or none.
abbrev pub FirstIn : Choice → ℕ → Option ℕ → Type 0
FirstIn s from (Some code) = (code < per_fact) × NextIn s from code
FirstIn s from None = NextIn s from per_fact

-- Have the sets a repair in common?
abbrev pub Sharing : Choice → Choice → Bool → Type 0
Sharing a b true = Shares a b
Sharing a b false = Shares a b → ⊥
