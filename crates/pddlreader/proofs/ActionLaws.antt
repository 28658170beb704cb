-- The walk along the actions of a domain text, as the code takes it. Assumes nothing.
use mathlib.Core.Bool.{true, false}
use mathlib.Core.List.{List}
use mathlib.Core.Path.{◌≡◌, ◌∙◌}
use Prim.Native.Nat.{ℕ, suc, ◌+◌, ◌-◌, ◌<◌, ◌≤◌}
use native.Mathlib.Numerals.{add-one}
use native.Mathlib.Omega.{arith}
use lib.ListN.{set}
use Rattle.layout.specs.Layouts.{Layout, done, word, pick}
use Rattle.table.specs.Sizes.{max_actions}
use Rattle.table.specs.declared.Table.{Table}
use Rattle.pddl.specs.Texts.{fact_line, delete_line, action_head, effect_opening, action_end, domain_end}
use Rattle.pddl.specs.Trees.{Said, a_table, set_tree, action_tree, table_tree, actions_from, no_sets, first_action}
use Rattle.pddlreader.specs.Cursors.{walk_from, tried, had_to_stand}
use Rattle.pddlreader.specs.Walks.{ReadsSet, ReadsAction}
use Rattle.pddlreader.specs.Walks.{ActionRead}
use Rattle.pddlreader.specs.declared.cursor.Cursor.{Cursor}
use Rattle.pddlreader.specs.Cursors.{Tried}
use Rattle.pddlreader.specs.Walks.{SetRead}
use Rattle.pddlreader.proofs.WalkLaws.{walk_word, walk_stands, walk_missing}

-- The parts of an action, one after another.
pub action_read : (facts : ℕ) (s : List ℕ) (c : Cursor) (needs adds deletes : SetRead) {effect after : Cursor}
    → ReadsSet fact_line facts s c needs → effect ≡ had_to_stand (tried s needs.cursor effect_opening)
    → ReadsSet fact_line facts s effect adds → ReadsSet delete_line facts s adds.cursor deletes
    → after ≡ had_to_stand (tried s deletes.cursor action_end)
    → ReadsAction facts s c (record { cursor = after; needs = needs.set; adds = adds.set; deletes = deletes.set })
unfolding action_tree
action_read facts s c needs adds deletes needed opened added deleted ended rest =
    let ends : ℕ → Layout Said = λ e. word action_end (rest needs.set adds.set e) in
    let effects : ℕ → Layout Said = λ d. set_tree delete_line facts (λ e. word action_end (rest needs.set d e)) in
    needed (λ n. word effect_opening (set_tree fact_line facts (λ d. set_tree delete_line facts (λ e. word action_end (rest n d e))))) ∙
    walk_word s needs.cursor effect_opening (set_tree fact_line facts effects) opened ∙ added effects ∙ deleted ends ∙
    walk_word s deletes.cursor action_end (rest needs.set adds.set deletes.set) ended

-- What is still to walk once the first a actions are read.
abbrev pub actions_left : ℕ → ℕ → ℕ → List ℕ → List ℕ → List ℕ → Layout Said
actions_left limit facts a needs adds deletes = actions_from limit facts (max_actions - a) a needs adds deletes

-- The table so far has these sizes, and no lock.
abbrev pub Sized : ℕ → ℕ → ℕ → Table → Type 0
Sized limit facts a t = (t.limit ≡ limit) × (t.facts ≡ facts) × (t.actions ≡ a) × (t.locks ≡ no_sets)

-- It is the one that the text then says.
pub same_table : (s : List ℕ) (c : Cursor) {limit facts a : ℕ} (t : Table) → Sized limit facts a t
    → walk_from (table_tree limit facts a t.needs t.adds t.deletes) s c ≡ walk_from (word domain_end (done (a_table t))) s c
same_table s c t e = sized e.0 e.1 e.2 e.3
  where
    sized : {l f a : ℕ} {x : List ℕ} → t.limit ≡ l → t.facts ≡ f → t.actions ≡ a → t.locks ≡ x
        → walk_from (word domain_end (done (a_table (record { facts = f; actions = a; limit = l; needs = t.needs; adds = t.adds; deletes = t.deletes; locks = x })))) s c ≡
        walk_from (word domain_end (done (a_table t))) s c
    sized p q r x = rw (← p, ← q, ← r, ← x)

module _ (limit facts : ℕ) (s : List ℕ) where
  pub first_read : (c : Cursor) {t : Tried} {head : Cursor} (r : ActionRead) → t ≡ tried s c (action_head 0) → head ≡ had_to_stand t
      → ReadsAction facts s head r
      → walk_from (first_action limit facts) s c ≡
      walk_from (actions_left limit facts 1 (set no_sets 0 r.needs) (set no_sets 0 r.adds) (set no_sets 0 r.deletes)) s r.cursor
  unfolding first_action
  first_read c r e h read =
      let rest : ℕ → ℕ → ℕ → Layout Said = λ n d e. actions_left limit facts 1 (set no_sets 0 n) (set no_sets 0 d) (set no_sets 0 e) in
      walk_word s c (action_head 0) (action_tree facts rest) (rw e at h) ∙ read rest

  module _ (a : ℕ) (needs adds deletes : List ℕ) (c : Cursor) where
    abbrev Rest : ℕ → ℕ → ℕ → Layout Said
    Rest n d e = actions_from limit facts (max_actions - suc a) (suc a) (set needs a n) (set adds a d) (set deletes a e)

    module _ {t : Tried} (few : a < max_actions) (e : t ≡ tried s c (action_head a)) where
      opened : walk_from (actions_left limit facts a needs adds deletes) s c ≡
          walk_from (pick (action_head a) (action_tree facts Rest) (table_tree limit facts a needs adds deletes)) s c
      unfolding actions_from
      opened =
          let left : max_actions - a ≡ suc (max_actions - suc a) = omega arith in
          rw left

      pub next_read : t.taken ≡ true → (r : ActionRead) → ReadsAction facts s t.cursor r
          → walk_from (actions_left limit facts a needs adds deletes) s c ≡
          walk_from (actions_left limit facts (a + 1) (set needs a r.needs) (set adds a r.adds) (set deletes a r.deletes)) s r.cursor
      next_read h r read =
          rw (add-one a)
          (opened ∙ walk_stands s c (action_head a) (action_tree facts Rest) (table_tree limit facts a needs adds deletes) e h ∙ read Rest)

      pub no_more : t.taken ≡ false
          → walk_from (actions_left limit facts a needs adds deletes) s c ≡ walk_from (table_tree limit facts a needs adds deletes) s t.cursor
      no_more h = opened ∙ walk_missing s c (action_head a) (action_tree facts Rest) (table_tree limit facts a needs adds deletes) e h

    pub all_read : max_actions ≤ a
        → walk_from (actions_left limit facts a needs adds deletes) s c ≡ walk_from (table_tree limit facts a needs adds deletes) s c
    unfolding actions_from
    all_read h =
        let left : max_actions - a ≡ 0 = omega arith in
        rw left
