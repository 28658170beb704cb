-- The walk along the layout's parts, as the code takes it: a word, the lines of a set, the facts that there are. Assumes nothing.
use mathlib.Core.Bool.{true, false}
use mathlib.Core.List.{List}
use mathlib.Core.Path.{◌≡◌, sym, ap, ◌∙◌}
use Prim.Native.Nat.{ℕ, suc, ◌+◌, ◌-◌, ◌<◌, ◌≤◌}
use native.Mathlib.Numerals.{add-one}
use native.Mathlib.Omega.{arith}
use Rattle.facts.specs.Sets.{joined, only}
use Rattle.layout.specs.Layouts.{Layout, word, pick}
use Rattle.layout.specs.Walking.{walk}
use Rattle.table.specs.Sizes.{max_facts}
use Rattle.pddl.specs.Texts.{fact_line}
use Rattle.pddl.specs.Trees.{Said, set_from, set_tree, count_from}
use Rattle.pddlreader.specs.Cursors.{walk_from, tried, had_to_stand}
use Rattle.pddlreader.specs.Walks.{ReadsLine, ReadsSet, ReadsCount}
use Rattle.pddlreader.specs.declared.cursor.Cursor.{Cursor}
use Rattle.pddlreader.specs.Cursors.{Tried}
use Rattle.pddlreader.specs.Walks.{SetRead}

module _ (s : List ℕ) (c : Cursor) (w : List ℕ) where
  pub walk_word : {A : Type 0} (l : Layout A) {after : Cursor} → after ≡ had_to_stand (tried s c w) → walk_from (word w l) s c ≡ walk_from l s after
  unfolding walk
  walk_word l e = rw e

  module _ {A : Type 0} (a b : Layout A) {t : Tried} (e : t ≡ tried s c w) where
    pub walk_stands : t.taken ≡ true → walk_from (pick w a b) s c ≡ walk_from a s t.cursor
    unfolding walk
    walk_stands h =
        let k : (tried s c w).taken ≡ true = sym (ap (λ (x : Tried). x.taken) e) ∙ h in
        rw (e, k)

    pub walk_missing : t.taken ≡ false → walk_from (pick w a b) s c ≡ walk_from b s t.cursor
    unfolding walk
    walk_missing h =
        let k : (tried s c w).taken ≡ false = sym (ap (λ (x : Tried). x.taken) e) ∙ h in
        rw (e, k)

-- ---- the lines of a set

module _ (line : ℕ → List ℕ) (s : List ℕ) where
  module _ (f : ℕ) (before : SetRead) {t : Tried} (e : t ≡ tried s before.cursor (line f)) where
    pub line_missing : t.taken ≡ false → {m : ℕ} → m ≡ before.set → ReadsLine line f s before (record { cursor = t.cursor; set = m })
    unfolding set_from
    line_missing h k left rest =
        walk_missing s before.cursor (line f) (set_from line left (suc f) (joined before.set (only f)) rest)
        (set_from line left (suc f) before.set rest) e h ∙ rw k

    pub line_stands : t.taken ≡ true → {m : ℕ} → m ≡ joined before.set (only f)
        → ReadsLine line f s before (record { cursor = t.cursor; set = m })
    unfolding set_from
    line_stands h k left rest =
        walk_stands s before.cursor (line f) (set_from line left (suc f) (joined before.set (only f)) rest)
        (set_from line left (suc f) before.set rest) e h ∙ rw k

  -- The set that was begun at c, of which the facts below f are read.
  abbrev pub SetSofar : ℕ → Cursor → ℕ → SetRead → Type 0
  SetSofar facts c f read =
      (rest : ℕ → Layout Said) → walk_from (set_tree line facts rest) s c ≡ walk_from (set_from line (facts - f) f read.set rest) s read.cursor

  pub set_begun : (facts : ℕ) (c : Cursor) → SetSofar facts c 0 (record { cursor = c; set = 0 })
  set_begun facts c rest =
      let e : facts - 0 ≡ facts = omega arith in
      rw e

  module _ (facts : ℕ) (c : Cursor) (f : ℕ) (read : SetRead) (so : SetSofar facts c f read) where
    pub set_more : (after : SetRead) → f < facts → ReadsLine line f s read after → SetSofar facts c (f + 1) after
    set_more after h next rest =
        let left : facts - f ≡ suc (facts - suc f) = omega arith in
        so rest ∙ rw (left, add-one f) (next (facts - suc f) rest)

    pub set_whole : facts ≤ f → ReadsSet line facts s c read
    unfolding set_from
    set_whole h rest =
        let e : facts - f ≡ 0 = omega arith in
        rw e at (so rest)

-- ---- the facts that there are

module _ (s : List ℕ) (c : Cursor) where
  -- The lines of the facts below n stood, and the walk is there.
  abbrev pub CountSofar : ℕ → Cursor → Type 0
  CountSofar n there =
      (rest : ℕ → Layout Said)
      → walk_from (count_from fact_line (max_facts - 1) 1 rest) s c ≡ walk_from (count_from fact_line (max_facts - n) n rest) s there

  module _ (n : ℕ) (there : Cursor) (so : CountSofar n there) where
    module _ {t : Tried} (few : n < max_facts) (e : t ≡ tried s there (fact_line n)) where
      opened : (rest : ℕ → Layout Said) → walk_from (count_from fact_line (max_facts - 1) 1 rest) s c ≡
          walk_from (pick (fact_line n) (count_from fact_line (max_facts - suc n) (suc n) rest) (rest n)) s there
      unfolding count_from
      opened rest =
          let left : max_facts - n ≡ suc (max_facts - suc n) = omega arith in
          rw left at (so rest)

      pub count_more : t.taken ≡ true → CountSofar (n + 1) t.cursor
      count_more h rest =
          opened rest ∙
          rw (add-one n)
          (walk_stands s there (fact_line n) (count_from fact_line (max_facts - suc n) (suc n) rest) (rest n) e h)

      pub count_ends : t.taken ≡ false → ReadsCount s c (record { cursor = t.cursor; facts = n })
      count_ends h rest =
          opened rest ∙ walk_missing s there (fact_line n) (count_from fact_line (max_facts - suc n) (suc n) rest) (rest n) e h

    pub count_full : n ≡ max_facts → ReadsCount s c (record { cursor = there; facts = max_facts })
    unfolding count_from
    count_full e rest = rw e at (so rest)
