-- What the tree of the actions says: a table whose first sets are those read so far, action by action, and which has no lock. Assumes nothing.
use mathlib.Core.List.{List, [], ◌++◌, append_assoc}
use mathlib.Core.Path.{◌≡◌, refl, sym, ap, ◌∙◌, subst}
use Prim.Native.Nat.{ℕ, zero, suc, ◌+◌, ◌<◌, ◌≤◌}
use native.Mathlib.Omega.{arith}
use lib.ListN.{length, get_or, set, length-set}
use lib.Seq.{ext_get_or, get_or-set_same, get_or-set_other}
use Rattle.facts.specs.Sets.{width}
use Rattle.table.specs.Sizes.{max_actions}
use Rattle.table.specs.Tasks.{unlocked}
use Rattle.table.specs.declared.Table.{Table}
use Rattle.table.proofs.FlagLaws.{by_order}
use Rattle.layout.specs.Layouts.{Says, ends, after, stands, missing}
use Rattle.pddl.specs.Texts.{action_head, action_of, domain_end}
use Rattle.pddl.specs.Trees.{Said, a_table, no_sets, action_tree, table_tree, actions_from}
use Rattle.pddl.proofs.Pieces.{from}
use Rattle.pddl.proofs.SetTexts.{Inside}
use Rattle.pddl.proofs.ActionTexts.{body_text, action_parts, ActionSaid, action_said, action_made}

-- Sets of actions, of which those from a on are empty.
pub record SoFar (facts a : ℕ) (sets : List ℕ) : Type 0 where
  pub shaped : length sets ≡ max_actions
  pub inside : (b : ℕ) → Inside facts (get_or sets b 0)
  pub none : (b : ℕ) → a ≤ b → get_or sets b 0 ≡ 0

-- The sets of the actions below a are the same.
abbrev pub SameBelow : ℕ → List ℕ → List ℕ → Type 0
SameBelow a x y = (b : ℕ) → b < a → get_or x b 0 ≡ get_or y b 0

-- One action's set more.
module _ {facts a : ℕ} {sets : List ℕ} (m : ℕ) (s : SoFar facts a sets) (room : a < max_actions) where
  pub set_here : get_or (set sets a m) a 0 ≡ m
  set_here = get_or-set_same sets a m 0 (omega (arith, s.shaped))

  pub set_below : SameBelow a (set sets a m) sets
  set_below b h = get_or-set_other sets a b m 0 (λ e. omega arith)

  pub so_far_next : Inside facts m → SoFar facts (suc a) (set sets a m)
  so_far_next inside = record {
    shaped = length-set sets a m ∙ s.shaped;
    inside =
        λ b.
        by_order b a (λ h. subst (Inside facts) (sym (set_below b h)) (s.inside b))
        (λ h.
        by_order a b (λ l. subst (Inside facts) (sym (get_or-set_other sets a b m 0 (λ e. omega arith))) (s.inside b))
        (λ l.
        let e : a ≡ b = omega arith in
        subst (λ j. Inside facts (get_or (set sets a m) j 0)) e (subst (Inside facts) (sym set_here) inside)));
    none = λ b h. get_or-set_other sets a b m 0 (λ e. omega arith) ∙ s.none b (omega arith);
  }

-- ---- a text of the tree is that of a table

-- The sets after some further actions: as before below a.
pub record Grown (facts a b : ℕ) (before sets : List ℕ) : Type 0 where
  pub so_far : SoFar facts b sets
  pub kept : SameBelow a sets before

pub record TableSaid (limit facts left a : ℕ) (N D E : List ℕ) (v : Said) (t : List ℕ) : Type 0 where
  pub table : Table
  pub says : a_table (unlocked table) ≡ v
  pub facts_is : table.facts ≡ facts
  pub limit_is : table.limit ≡ limit
  pub further : ℕ
  pub few : further ≤ left
  pub actions_is : table.actions ≡ a + further
  pub needs : Grown facts a (a + further) N table.needs
  pub adds : Grown facts a (a + further) D table.adds
  pub deletes : Grown facts a (a + further) E table.deletes
  pub text : t ≡ from (action_of table) further a ++ domain_end

module _ (limit facts : ℕ) (few : facts ≤ width) (v : Said) where
  end_said : (left a : ℕ) (N D E t : List ℕ) → SoFar facts a N → SoFar facts a D → SoFar facts a E
      → Says v (table_tree limit facts a N D E) t → TableSaid limit facts left a N D E v t
  unfolding from
  end_said left a N D E t n d e (after u p (ends q r)) = record {
    table = record { facts = facts; actions = a; limit = limit; needs = N; adds = D; deletes = E; locks = no_sets };
    says = q;
    facts_is = refl;
    limit_is = refl;
    further = 0;
    few = omega arith;
    actions_is = omega arith;
    needs = same N n;
    adds = same D d;
    deletes = same E e;
    text = p ∙ rw r;
  }
    where
      same : (X : List ℕ) → SoFar facts a X → Grown facts a (a + 0) X X
      same X s =
          let z : a ≡ a + 0 = omega arith in
          record { so_far = subst (λ k. SoFar facts k X) z s; kept = λ b h. refl }

  -- One action more, and then the others.
  module _ (left a : ℕ) (N D E t u : List ℕ) (n : SoFar facts a N) (d : SoFar facts a D) (e : SoFar facts a E) (room : a < max_actions)
      (first : t ≡ action_head a ++ u)
      (x : ActionSaid facts (λ i j k. actions_from limit facts left (suc a) (set N a i) (set D a j) (set E a k)) v few u)
      (y : TableSaid limit facts left (suc a) (set N a x.needs) (set D a x.adds) (set E a x.deletes) v x.tail) where
    grown : {X Y : List ℕ} (m : ℕ) → SoFar facts a X → Grown facts (suc a) (suc a + y.further) (set X a m) Y
        → Grown facts a (a + suc y.further) X Y
    grown {X} {Y} m s g =
        let z : suc a + y.further ≡ a + suc y.further = omega arith in
        record {
          so_far = subst (λ k. SoFar facts k Y) z g.so_far;
          kept = λ b h. g.kept b (omega arith) ∙ set_below m s room b h;
        }

    here : {X Y : List ℕ} (m : ℕ) → SoFar facts a X → Grown facts (suc a) (suc a + y.further) (set X a m) Y → get_or Y a 0 ≡ m
    here m s g = g.kept a (omega arith) ∙ set_here m s room

    its_text : action_of y.table a ≡ action_head a ++ body_text facts x.needs x.adds x.deletes
    its_text =
        rw (y.facts_is, here x.needs n y.needs, here x.adds d y.adds, here x.deletes e y.deletes)
        (action_parts facts a x.needs x.adds x.deletes)

    pub text_more : t ≡ from (action_of y.table) (suc y.further) a ++ domain_end
    unfolding from
    text_more =
        let later = from (action_of y.table) y.further (suc a) in
        let body = body_text facts x.needs x.adds x.deletes in
        first ∙ ap (λ (l : List ℕ). action_head a ++ l) (x.text ∙ ap (λ (l : List ℕ). body ++ l) y.text) ∙
        sym (append_assoc (action_head a) body (later ++ domain_end)) ∙ ap (λ (l : List ℕ). l ++ (later ++ domain_end)) (sym its_text) ∙
        sym (append_assoc (action_of y.table a) later domain_end)

    one_more : TableSaid limit facts (suc left) a N D E v t
    one_more = record {
      table = y.table;
      says = y.says;
      facts_is = y.facts_is;
      limit_is = y.limit_is;
      further = suc y.further;
      few = omega (arith, y.few);
      actions_is = omega (arith, y.actions_is);
      needs = grown x.needs n y.needs;
      adds = grown x.adds d y.adds;
      deletes = grown x.deletes e y.deletes;
      text = text_more;
    }

  pub table_said : (left a : ℕ) (N D E t : List ℕ) → SoFar facts a N → SoFar facts a D → SoFar facts a E → a + left ≤ max_actions
      → Says v (actions_from limit facts left a N D E) t → TableSaid limit facts left a N D E v t
  unfolding actions_from
  table_said zero a N D E t n d e room s = end_said 0 a N D E t n d e s
  table_said (suc left) a N D E t n d e room (missing s) = end_said (suc left) a N D E t n d e s
  table_said (suc left) a N D E t n d e room (stands u p s) =
      let x = action_said facts (λ i j k. actions_from limit facts left (suc a) (set N a i) (set D a j) (set E a k)) v few u s in
      one_more left a N D E t u n d e (omega arith) p x
      (table_said left (suc a) (set N a x.needs) (set D a x.adds) (set E a x.deletes) x.tail
      (so_far_next x.needs n (omega arith) x.needs_inside) (so_far_next x.adds d (omega arith) x.adds_inside)
      (so_far_next x.deletes e (omega arith) x.deletes_inside) (omega arith) x.more)

-- ---- and each table's text is a text of the tree

-- Two lists of sets with the same sets.
same_lists : {facts a : ℕ} {X Y : List ℕ} → SoFar facts a X → SoFar facts a Y → SameBelow a X Y → X ≡ Y
same_lists {facts} {a} {X} {Y} x y same =
    ext_get_or 0 X Y (x.shaped ∙ sym y.shaped) (λ b h. by_order b a (λ l. same b l) (λ l. x.none b l ∙ sym (y.none b l)))

module _ (table : Table) (few : table.facts ≤ width)
    (needs : SoFar table.facts table.actions table.needs) (adds : SoFar table.facts table.actions table.adds)
    (deletes : SoFar table.facts table.actions table.deletes) where
  -- Sets read so far that are the table's.
  pub record Begun (a : ℕ) (X Y : List ℕ) : Type 0 where
    pub so_far : SoFar table.facts a X
    pub same : SameBelow a X Y

  pub begun_next : {a : ℕ} {X Y : List ℕ} → Begun a X Y → a < max_actions → SoFar table.facts table.actions Y
      → Begun (suc a) (set X a (get_or Y a 0)) Y
  begun_next {a} {X} {Y} x room y = record {
    so_far = so_far_next (get_or Y a 0) x.so_far room (y.inside a);
    same =
        λ b h.
        by_order b a (λ l. set_below (get_or Y a 0) x.so_far room b l ∙ x.same b l)
        (λ l.
        let e : a ≡ b = omega arith in
        subst (λ j. get_or (set X a (get_or Y a 0)) j 0 ≡ get_or Y j 0) e (set_here (get_or Y a 0) x.so_far room));
  }

  end_made : (a : ℕ) (N D E : List ℕ) → a ≡ table.actions → Begun a N table.needs → Begun a D table.adds → Begun a E table.deletes
      → Says (a_table (unlocked table)) (table_tree table.limit table.facts a N D E) domain_end
  end_made a N D E z n d e = after [] refl (ends same refl)
    where
      all : (X : List ℕ) {Y : List ℕ} → Begun a X Y → SoFar table.facts table.actions Y → X ≡ Y
      all X {Y} x y = same_lists x.so_far (subst (λ k. SoFar table.facts k Y) (sym z) y) x.same

      same : a_table (record { facts = table.facts; actions = a; limit = table.limit; needs = N; adds = D; deletes = E; locks = no_sets })
          ≡ a_table (unlocked table)
      same = rw (all N n needs, all D d adds, all E e deletes, z)

  -- The text of an action behind its head, and the further actions and the end.
  abbrev pub body_of : ℕ → List ℕ
  body_of a = body_text table.facts (get_or table.needs a 0) (get_or table.adds a 0) (get_or table.deletes a 0)

  abbrev pub onward : ℕ → ℕ → List ℕ
  onward further a = from (action_of table) further a ++ domain_end

  pub next_text : (further a : ℕ) → onward (suc further) a ≡ action_head a ++ (body_of a ++ onward further (suc a))
  unfolding from
  next_text further a =
      append_assoc (action_of table a) (from (action_of table) further (suc a)) domain_end ∙
      ap (λ (l : List ℕ). l ++ onward further (suc a))
      (action_parts table.facts a (get_or table.needs a 0) (get_or table.adds a 0) (get_or table.deletes a 0)) ∙
      append_assoc (action_head a) (body_of a) (onward further (suc a))

  pub next_made : (left further a : ℕ) (N D E : List ℕ)
      → Says (a_table (unlocked table))
      (actions_from table.limit table.facts left (suc a) (set N a (get_or table.needs a 0)) (set D a (get_or table.adds a 0))
      (set E a (get_or table.deletes a 0)))
      (onward further (suc a))
      → Says (a_table (unlocked table))
      (action_tree table.facts
      (λ i j k. actions_from table.limit table.facts left (suc a) (set N a i) (set D a j) (set E a k)))
      (body_of a ++ onward further (suc a))
  next_made left further a N D E s =
      action_made table.facts
      (λ i j k. actions_from table.limit table.facts left (suc a) (set N a i) (set D a j) (set E a k)) (a_table (unlocked table)) few
      (get_or table.needs a 0) (get_or table.adds a 0) (get_or table.deletes a 0) (onward further (suc a)) (needs.inside a)
      (adds.inside a) (deletes.inside a) s

  pub table_made : (left further a : ℕ) (N D E : List ℕ) → further ≤ left → a + further ≡ table.actions → a + left ≤ max_actions
      → Begun a N table.needs → Begun a D table.adds → Begun a E table.deletes
      → Says (a_table (unlocked table)) (actions_from table.limit table.facts left a N D E) (onward further a)
  unfolding actions_from from
  table_made zero zero a N D E h z room n d e = end_made a N D E (omega arith) n d e
  table_made zero (suc further) a N D E h z room n d e = absurd (omega arith)
  table_made (suc left) zero a N D E h z room n d e = missing (end_made a N D E (omega arith) n d e)
  table_made (suc left) (suc further) a N D E h z room n d e =
      stands (body_of a ++ onward further (suc a)) (next_text further a)
      (next_made left further a N D E
      (table_made left further (suc a) (set N a (get_or table.needs a 0)) (set D a (get_or table.adds a 0))
      (set E a (get_or table.deletes a 0)) (omega arith) (omega arith) (omega arith) (begun_next n (omega arith) needs)
      (begun_next d (omega arith) adds) (begun_next e (omega arith) deletes)))
