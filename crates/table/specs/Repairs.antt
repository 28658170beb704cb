-- Repairs: source document 001, Definition 2; document 01, "The model and its run".
use Rattle.std.specs.Prelude.{Bool, not, ◌&&◌, ◌||◌, cond, ℕ, ◌+◌, ◌*◌, ◌/◌, ◌%◌, eqb, ltb}
use Rattle.table.specs.Sizes.{max_facts, max_actions, kinds, per_fact, per_kind, unused}
use Rattle.table.specs.Strips.{Cells}

-- "Three kinds of repair, for action a and fact f: kind 0 drops a delete, .. kind 1 adds an effect, .. kind 2 drops a need."
abbrev pub drop_delete : ℕ
drop_delete = 0

abbrev pub add_effect : ℕ
add_effect = 1

abbrev pub drop_need : ℕ
drop_need = 2

-- One of three, by the kind.
abbrev pub by_kind {ℓ} : {A : Type ℓ} → ℕ → A → A → A → A
by_kind k d a n = cond (eqb k drop_delete) d (cond (eqb k add_effect) a n)

-- "The number of a repair is 96f + 32k + a", and back.
abbrev pub number_of : ℕ → ℕ → ℕ → ℕ
number_of f k a = per_fact * f + per_kind * k + a

abbrev pub fact_of : ℕ → ℕ
fact_of n = n / per_fact

abbrev pub kind_of : ℕ → ℕ
kind_of n = n % per_fact / per_kind

abbrev pub action_of : ℕ → ℕ
action_of n = n % per_fact % per_kind

-- "kind 0 .. permitted if f is a delete of a; kind 1 .. if f is not yet an add of a; kind 2 .. if f is a need of a." "Permitted now also means
-- 'not a locked need'" (02, request 6).
abbrev pub repairable : Cells → ℕ → ℕ → ℕ → Bool
repairable c f k a = by_kind k (c.deletes a f) (not (c.adds a f)) (c.needs a f && not (c.locks a f))

-- ".. A number whose a or f is not in the task names no permitted repair."
unfoldable pub permits : Cells → ℕ → ℕ → ℕ → Bool
permits c f k a = ltb f c.facts && ltb a c.actions && repairable c f k a

unfoldable pub permitted : Cells → ℕ → Bool
permitted c n = permits c (fact_of n) (kind_of n) (action_of n)

-- The repair (f, k, a) is in the set R of repair numbers. (The bound keeps a from naming the next kind's action.)
unfoldable pub chosen : (ℕ → Bool) → ℕ → ℕ → ℕ → Bool
chosen R f k a = ltb a max_actions && R (number_of f k a)

-- Definition 2: the table with a set of repairs applied. "Applying a list changes all its cells at once." No repair changes a lock.
abbrev pub repaired : Cells → (ℕ → Bool) → Cells
repaired c R = record {
  facts = c.facts;
  actions = c.actions;
  needs = λ a f. c.needs a f && not (chosen R f drop_need a);
  adds = λ a f. c.adds a f || chosen R f add_effect a;
  deletes = λ a f. c.deletes a f && not (chosen R f drop_delete a);
  locks = c.locks;
}

-- The number that the code gives a repair: one whose fact, kind or action is outside has `unused`, which names no permitted repair.
unfoldable pub numbered : ℕ → ℕ → ℕ → ℕ
numbered f k a = cond (ltb f max_facts && ltb k kinds && ltb a max_actions) (number_of f k a) unused
