-- Laws of one cell of a table, once over the kind of repair that concerns it: what `kind_set` changes and what it leaves. Assumes nothing.
use mathlib.Core.Bool.{Bool, true, false, ◌&&◌, cond}
use mathlib.Core.List.{List}
use mathlib.Core.Path.{◌≡◌, refl, sym, ap, ◌∙◌}
use Prim.Native.Nat.{ℕ, ◌+◌, ◌<◌}
use native.Mathlib.Numerals.{add-one}
use native.Mathlib.Omega.{arith}
use lib.Dec.{eqb}
use lib.ListN.{length, get_or, length-set}
use Rattle.facts.specs.Sets.{width, has}
use Rattle.table.specs.Repairs.{drop_delete, add_effect, drop_need, by_kind}
use Rattle.table.specs.Sizes.{max_actions, kinds}
use Rattle.table.specs.Tasks.{mask_of, Shaped}
use Rattle.table.specs.declared.Table.{Table}
use Rattle.table.specs.declared.Task.{Task}
use Rattle.table.proofs.FlagLaws.{cond_by}
use Rattle.table.proofs.RepairNumbers.{kind_cases}
use Rattle.table.proofs.SettingLaws.{has_set_in}
use Rattle.table.specs.Setting.{set_fact, set_in}
use Rattle.change.specs.Kinds.{kind_set, number_set, one_by_one}

-- ---- the three kinds alike

-- the deletes, adds or needs of all actions, by the kind
abbrev pub sets_of : Table → ℕ → List ℕ
sets_of t k = by_kind k t.deletes t.adds t.needs

pub mask_sets : (t : Table) (a k : ℕ) → k < kinds → mask_of t k a ≡ get_or (sets_of t k) a 0
mask_sets t a = kind_cases (λ k. mask_of t k a ≡ get_or (sets_of t k) a 0) refl refl refl

-- the arrays of a table have their declared length
abbrev pub Long : Table → Type 0
Long t = (k : ℕ) → k < kinds → length (sets_of t k) ≡ max_actions

pub shaped_long : (t : Task) → Shaped t → Long t.table
shaped_long t s = kind_cases (λ k. length (sets_of t.table k) ≡ max_actions) s.deletes s.adds s.needs

pub long_shaped : (u : Table) (t : Task) → Long u → u.locks ≡ t.table.locks → Shaped t → Shaped (record { table = u; runs = t.runs })
long_shaped u t long locks s = record {
  needs = long drop_need (omega arith);
  adds = long add_effect (omega arith);
  deletes = long drop_delete (omega arith);
  locks = ap length locks ∙ s.locks;
  starts = s.starts;
  goals = s.goals;
  counts = s.counts;
  steps = s.steps;
}

-- ---- one row of a table

module _ (t : Table) (a f : ℕ) (p : Bool) where
  sets_kind_set : (k : ℕ) → k < kinds → (j : ℕ) → j < kinds
      → sets_of (kind_set t k a f p) j ≡ cond (eqb j k) (set_in (sets_of t j) a f p) (sets_of t j)
  unfolding kind_set
  sets_kind_set =
      kind_cases
      (λ k. (j : ℕ) → j < kinds → sets_of (kind_set t k a f p) j ≡ cond (eqb j k) (set_in (sets_of t j) a f p) (sets_of t j))
      (kind_cases (λ j. sets_of (kind_set t drop_delete a f p) j ≡ cond (eqb j drop_delete) (set_in (sets_of t j) a f p) (sets_of t j)) refl refl refl)
      (kind_cases (λ j. sets_of (kind_set t add_effect a f p) j ≡ cond (eqb j add_effect) (set_in (sets_of t j) a f p) (sets_of t j)) refl refl refl)
      (kind_cases (λ j. sets_of (kind_set t drop_need a f p) j ≡ cond (eqb j drop_need) (set_in (sets_of t j) a f p) (sets_of t j)) refl refl refl)

  pub long_kind_set : Long t → (k : ℕ) → k < kinds → Long (kind_set t k a f p)
  long_kind_set long k hk j hj =
      ap length (sets_kind_set k hk j hj) ∙
      cond_by (λ (s : List ℕ). length s ≡ max_actions) (eqb j k)
      (λ _. length-set (sets_of t j) a (set_fact (get_or (sets_of t j) a 0) f p) ∙ long j hj) (λ _. long j hj)

  -- the one law of a cell that is set: it has the value, and every other cell is as it was
  pub cell_kind_set : Long t → a < max_actions → f < width → (k : ℕ) → k < kinds → (j b g : ℕ) → j < kinds
      → has (mask_of (kind_set t k a f p) j b) g ≡ cond (eqb j k && eqb b a && eqb g f) p (has (mask_of t j b) g)
  cell_kind_set long ha hf k hk j b g hj =
      ap (λ (m : ℕ). has m g) (mask_sets (kind_set t k a f p) b j hj ∙ ap (λ (s : List ℕ). get_or s b 0) (sets_kind_set k hk j hj)) ∙
      pick (eqb j k) ∙ ap (λ (m : ℕ). cond (eqb j k && eqb b a && eqb g f) p (has m g)) (sym (mask_sets t b j hj))
    where
      old : ℕ
      old = get_or (sets_of t j) b 0

      pick : (e : Bool) → has (get_or (cond e (set_in (sets_of t j) a f p) (sets_of t j)) b 0) g ≡ cond (e && eqb b a && eqb g f) p (has old g)
      pick true = has_set_in (sets_of t j) a f p b g (omega (arith, long j hj)) hf
      pick false = refl

  -- the sizes are as they were
  pub sizes_kind_set : (k : ℕ) → k < kinds
      → ((kind_set t k a f p).facts ≡ t.facts) × ((kind_set t k a f p).actions ≡ t.actions) × ((kind_set t k a f p).limit ≡ t.limit)
  unfolding kind_set
  sizes_kind_set =
      kind_cases
      (λ k. ((kind_set t k a f p).facts ≡ t.facts) × ((kind_set t k a f p).actions ≡ t.actions) × ((kind_set t k a f p).limit ≡ t.limit))
      (refl, refl, refl) (refl, refl, refl) (refl, refl, refl)

  -- and so are the locks
  pub locks_kind_set : (k : ℕ) → k < kinds → (kind_set t k a f p).locks ≡ t.locks
  unfolding kind_set
  locks_kind_set = kind_cases (λ k. (kind_set t k a f p).locks ≡ t.locks) refl refl refl

-- ---- numbers made one after another: at the loop's start and after a turn

pub one_by_one_none : (t : Table) (l : List ℕ) → t ≡ one_by_one t l 0
unfolding one_by_one
one_by_one_none t l = refl

pub one_by_one_more : (t : Table) (l : List ℕ) (i : ℕ) {u v : Table} → u ≡ one_by_one t l i → v ≡ number_set u (get_or l i 0) → v ≡ one_by_one t l (i + 1)
unfolding one_by_one
one_by_one_more t l i e g = rw (add-one, ← e) g
