-- The texts of the domain tree are the domain texts, each saying its table without its locks. Assumes nothing.
use mathlib.Core.Bool.{false}
use mathlib.Core.List.{List, ◌++◌, append_assoc}
use mathlib.Core.Path.{◌≡◌, refl, sym, ap, ◌∙◌, subst}
use Prim.Native.Nat.{ℕ, zero, suc, ◌+◌, ◌-◌, ◌<◌, ◌≤◌}
use native.Mathlib.Omega.{arith}
use lib.Dec.{eqb}
use lib.ListN.{get_or, set, replicate}
use Rattle.facts.specs.Sets.{has, width}
use Rattle.facts.proofs.Laws.{has_empty}
use Rattle.table.specs.Lists.{gather}
use Rattle.table.specs.Repairs.{by_kind, drop_delete, add_effect, drop_need}
use Rattle.table.specs.Sizes.{max_actions}
use Rattle.table.specs.Tasks.{unlocked}
use Rattle.table.specs.declared.Table.{Table}
use Rattle.table.proofs.FlagLaws.{cond_by}
use Rattle.layout.specs.Layouts.{Layout, Says, word, after}
use Rattle.pddl.specs.Texts.{fact_line, domain_opening, predicates_end, action_head, action_of, domain_end, domain_text}
use Rattle.pddl.specs.Readings.{Domain}
use Rattle.pddl.specs.Trees.{Said, a_table, no_sets, count_from, action_tree, actions_from, first_action, domain_tree}
use Rattle.pddl.proofs.Pieces.{from, from_first}
use Rattle.pddl.proofs.Chains.{four, chained, word_said}
use Rattle.pddl.proofs.CountTexts.{count_said, count_made}
use Rattle.pddl.proofs.ActionTexts.{action_said}
use Rattle.pddl.proofs.TableTexts.{SoFar, so_far_next, text_more, table_said, Begun, begun_next, body_of, onward, next_text, next_made, table_made}

-- ---- no set yet

zeros : (n b : ℕ) → get_or {A = ℕ} (replicate n 0) b 0 ≡ 0
zeros zero b = refl
zeros (suc n) zero = refl
zeros (suc n) (suc b) = zeros n b

none_yet : (facts : ℕ) → SoFar facts 0 no_sets
none_yet facts = record {
  shaped = refl;
  inside = λ b g h. rw (zeros max_actions b) (has_empty g);
  none = λ b h. zeros max_actions b;
}

-- ---- the sets of a table of a domain, by kind

-- What holds of all three holds of the one of a kind.
of_kind : (P : ℕ → Type 0) (k : ℕ) {x y z : ℕ} → P x → P y → P z → P (by_kind k x y z)
of_kind P k p q r = cond_by P (eqb k drop_delete) (λ _. p) (λ _. cond_by P (eqb k add_effect) (λ _. q) (λ _. r))

-- ---- a text of the tree is a domain text

pub record DomainSaid (limit : ℕ) (v : Said) (t : List ℕ) : Type 0 where
  pub table : Table
  pub says : a_table (unlocked table) ≡ v
  pub fits : Domain limit table
  pub text : t ≡ domain_text table

-- Behind the predicates.
record FirstSaid (limit facts : ℕ) (v : Said) (t : List ℕ) : Type 0 where
  table : Table
  says : a_table (unlocked table) ≡ v
  facts_is : table.facts ≡ facts
  limit_is : table.limit ≡ limit
  low : 0 < table.actions
  high : table.actions ≤ max_actions
  needs : SoFar facts table.actions table.needs
  adds : SoFar facts table.actions table.adds
  deletes : SoFar facts table.actions table.deletes
  text : t ≡ gather (action_of table) table.actions ++ domain_end

module _ (limit facts : ℕ) (few : facts ≤ width) (v : Said) where
  -- The tree behind the first action.
  abbrev further : ℕ → ℕ → ℕ → Layout Said
  further n d e = actions_from limit facts 31 1 (set no_sets 0 n) (set no_sets 0 d) (set no_sets 0 e)

  first_said : (t : List ℕ) → Says v (first_action limit facts) t → FirstSaid limit facts v t
  unfolding first_action
  first_said t s =
      let w = word_said (action_head 0) (action_tree facts further) v t s in
      let x = action_said facts further v few w.tail w.more in
      let none = none_yet facts in
      let y =
      table_said limit facts few v 31 1 (set no_sets 0 x.needs) (set no_sets 0 x.adds) (set no_sets 0 x.deletes) x.tail
      (so_far_next x.needs none (omega arith) x.needs_inside) (so_far_next x.adds none (omega arith) x.adds_inside)
      (so_far_next x.deletes none (omega arith) x.deletes_inside) (omega arith) x.more in
      let many : 1 + y.further ≡ y.table.actions = sym y.actions_is in
      let all : suc y.further ≡ y.table.actions = omega (arith, y.actions_is) in
      record {
        table = y.table;
        says = y.says;
        facts_is = y.facts_is;
        limit_is = y.limit_is;
        low = omega (arith, y.actions_is);
        high = omega (arith, y.actions_is, y.few);
        needs = subst (λ k. SoFar facts k y.table.needs) many y.needs.so_far;
        adds = subst (λ k. SoFar facts k y.table.adds) many y.adds.so_far;
        deletes = subst (λ k. SoFar facts k y.table.deletes) many y.deletes.so_far;
        text =
            text_more limit facts few v 31 0 no_sets no_sets no_sets t w.tail none none none (omega arith) w.text x y ∙
            ap (λ (l : List ℕ). l ++ domain_end) (from_first (action_of y.table) (suc y.further) ∙ ap (gather (action_of y.table)) all);
      }

pub domain_said : (limit : ℕ) (v : Said) (t : List ℕ) → Says v (domain_tree limit) t → DomainSaid limit v t
unfolding domain_tree domain_text from
domain_said limit v t s =
    let o = word_said domain_opening (word (fact_line 0) (count_from fact_line 63 1 rest)) v t s in
    let z = word_said (fact_line 0) (count_from fact_line 63 1 rest) v o.tail o.more in
    let c = count_said fact_line rest v 63 1 z.tail z.more in
    let p = word_said predicates_end (first_action limit c.number) v c.tail c.more in
    let few : c.number ≤ width = omega (arith, c.number_is, c.few) in
    let f = first_said limit c.number few v p.tail p.more in
    let facts : suc c.lines ≡ f.table.facts = omega (arith, c.number_is, f.facts_is) in
    let lines =
    z.text ∙ ap (λ (l : List ℕ). fact_line 0 ++ l) c.text ∙ sym (append_assoc (fact_line 0) (from fact_line c.lines 1) c.tail) ∙
    ap (λ (l : List ℕ). l ++ c.tail) (from_first fact_line (suc c.lines) ∙ ap (gather fact_line) facts) in
    record {
      table = f.table;
      says = f.says;
      fits = record {
        facts_low = omega arith;
        facts_high = omega (arith, f.facts_is);
        actions_low = f.low;
        actions_high = f.high;
        limit_is = f.limit_is;
        needs = f.needs.shaped;
        adds = f.adds.shaped;
        deletes = f.deletes.shaped;
        inside =
            λ k a g h.
            of_kind (λ m. has m g ≡ false) k (f.deletes.inside a g (omega (arith, f.facts_is))) (f.adds.inside a g (omega (arith, f.facts_is)))
            (f.needs.inside a g (omega (arith, f.facts_is)));
        unused = λ k a h. of_kind (λ m. m ≡ 0) k (f.deletes.none a h) (f.adds.none a h) (f.needs.none a h);
      };
      text = chained domain_opening (gather fact_line f.table.facts) predicates_end (gather (action_of f.table) f.table.actions) domain_end o.text lines p.text f.text;
    }
  where
    rest : ℕ → Layout Said
    rest facts = word predicates_end (first_action limit facts)

-- ---- and each domain text is a text of the tree

module _ (limit : ℕ) (table : Table) (d : Domain limit table) where
  few : table.facts ≤ width
  few = d.facts_high

  needs_of : SoFar table.facts table.actions table.needs
  needs_of = record { shaped = d.needs; inside = d.inside drop_need; none = d.unused drop_need }

  adds_of : SoFar table.facts table.actions table.adds
  adds_of = record { shaped = d.adds; inside = d.inside add_effect; none = d.unused add_effect }

  deletes_of : SoFar table.facts table.actions table.deletes
  deletes_of = record { shaped = d.deletes; inside = d.inside drop_delete; none = d.unused drop_delete }

  none_begun : (Y : List ℕ) → Begun table few needs_of adds_of deletes_of 0 no_sets Y
  none_begun Y = record { so_far = none_yet table.facts; same = λ b h. absurd (omega arith) }

  -- The actions, of which there is one.
  first_made : (further : ℕ) → suc further ≡ table.actions
      → Says (a_table (unlocked table)) (first_action limit table.facts) (gather (action_of table) table.actions ++ domain_end)
  unfolding first_action
  first_made further all =
      rw (← d.limit_is)
      (after (body_of table few needs_of adds_of deletes_of 0 ++ onward table few needs_of adds_of deletes_of further 1)
      (ap (λ (l : List ℕ). l ++ domain_end) (ap (gather (action_of table)) (sym all) ∙ sym (from_first (action_of table) (suc further))) ∙
      next_text table few needs_of adds_of deletes_of further 0)
      (next_made table few needs_of adds_of deletes_of 31 further 0 no_sets no_sets no_sets
      (table_made table few needs_of adds_of deletes_of 31 further 1 (set no_sets 0 (get_or table.needs 0 0)) (set no_sets 0 (get_or table.adds 0 0))
      (set no_sets 0 (get_or table.deletes 0 0)) (omega (arith, d.actions_high)) (omega arith) (omega arith)
      (begun_next table few needs_of adds_of deletes_of (none_begun table.needs) (omega arith) needs_of)
      (begun_next table few needs_of adds_of deletes_of (none_begun table.adds) (omega arith) adds_of)
      (begun_next table few needs_of adds_of deletes_of (none_begun table.deletes) (omega arith) deletes_of))))

  pub domain_made : Says (a_table (unlocked table)) (domain_tree limit) (domain_text table)
  unfolding domain_tree domain_text from
  domain_made =
      let lines = table.facts - 1 in
      let further = table.actions - 1 in
      let all : suc lines ≡ table.facts = omega (arith, d.facts_low) in
      let number : table.facts ≡ 1 + lines = omega (arith, d.facts_low) in
      let acts : suc further ≡ table.actions = omega (arith, d.actions_low) in
      let behind = gather (action_of table) table.actions ++ domain_end in
      after (gather fact_line table.facts ++ (predicates_end ++ behind))
      (four domain_opening (gather fact_line table.facts) predicates_end (gather (action_of table) table.actions) domain_end)
      (after (from fact_line lines 1 ++ (predicates_end ++ behind))
      (ap (λ (l : List ℕ). l ++ (predicates_end ++ behind)) (ap (gather fact_line) (sym all) ∙ sym (from_first fact_line (suc lines))) ∙
      append_assoc (fact_line 0) (from fact_line lines 1) (predicates_end ++ behind))
      (count_made fact_line (λ facts. word predicates_end (first_action limit facts)) (a_table (unlocked table)) 63 lines 1 table.facts
      (predicates_end ++ behind) (omega (arith, d.facts_high)) number (after behind refl (first_made further acts))))
