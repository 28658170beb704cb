-- What the tree behind an action's head says: its needs, adds and deletes, and then what the rest says of them. Assumes nothing.
use mathlib.Core.List.{List, ◌++◌, append_assoc}
use mathlib.Core.Path.{◌≡◌, refl, sym, ap, ◌∙◌}
use Prim.Native.Nat.{ℕ, ◌≤◌}
use Rattle.facts.specs.Sets.{width}
use Rattle.layout.specs.Layouts.{Layout, Says, word, after}
use Rattle.pddl.specs.Texts.{fact_line, delete_line, lines_of, action_head, effect_opening, action_end, action_text}
use Rattle.pddl.specs.Trees.{Said, set_tree, action_tree}
use Rattle.pddl.proofs.Chains.{four, five, chained, word_said}
use Rattle.pddl.proofs.SetTexts.{Inside, lines_said, lines_made}

-- The text of an action behind its head.
abbrev pub body_text : ℕ → ℕ → ℕ → ℕ → List ℕ
body_text facts needs adds deletes =
    lines_of fact_line facts needs ++ effect_opening ++ lines_of fact_line facts adds ++ lines_of delete_line facts deletes ++ action_end

pub action_parts : (facts a needs adds deletes : ℕ)
    → action_text facts a needs adds deletes ≡ action_head a ++ body_text facts needs adds deletes
unfolding action_text
action_parts facts a needs adds deletes =
    let N = lines_of fact_line facts needs in
    let D = lines_of fact_line facts adds in
    let E = lines_of delete_line facts deletes in
    five (action_head a) N effect_opening D E action_end ∙ ap (λ (l : List ℕ). action_head a ++ l) (sym (four N effect_opening D E action_end))

module _ (facts : ℕ) (rest : ℕ → ℕ → ℕ → Layout Said) (v : Said) (few : facts ≤ width) where
  pub record ActionSaid (t : List ℕ) : Type 0 where
    pub needs : ℕ
    pub adds : ℕ
    pub deletes : ℕ
    pub needs_inside : Inside facts needs
    pub adds_inside : Inside facts adds
    pub deletes_inside : Inside facts deletes
    pub tail : List ℕ
    pub text : t ≡ body_text facts needs adds deletes ++ tail
    pub more : Says v (rest needs adds deletes) tail

  -- The trees behind the needs, behind the adds and behind the deletes.
  abbrev at_end : ℕ → ℕ → ℕ → Layout Said
  at_end needs adds deletes = word action_end (rest needs adds deletes)

  abbrev at_deletes : ℕ → ℕ → Layout Said
  at_deletes needs adds = set_tree delete_line facts (at_end needs adds)

  abbrev at_adds : ℕ → Layout Said
  at_adds needs = set_tree fact_line facts (at_deletes needs)

  abbrev at_effects : ℕ → Layout Said
  at_effects needs = word effect_opening (at_adds needs)

  pub action_said : (t : List ℕ) → Says v (action_tree facts rest) t → ActionSaid t
  unfolding action_tree
  action_said t s =
      let n = lines_said fact_line facts at_effects v few t s in
      let o = word_said effect_opening (at_adds n.set) v n.tail n.more in
      let d = lines_said fact_line facts (at_deletes n.set) v few o.tail o.more in
      let e = lines_said delete_line facts (at_end n.set d.set) v few d.tail d.more in
      let x = word_said action_end (rest n.set d.set e.set) v e.tail e.more in
      record {
        needs = n.set;
        adds = d.set;
        deletes = e.set;
        needs_inside = n.inside;
        adds_inside = d.inside;
        deletes_inside = e.inside;
        tail = x.tail;
        text =
            chained (lines_of fact_line facts n.set) effect_opening (lines_of fact_line facts d.set) (lines_of delete_line facts e.set)
            (action_end ++ x.tail) n.text o.text d.text (e.text ∙ ap (λ (l : List ℕ). lines_of delete_line facts e.set ++ l) x.text) ∙
            sym
            (append_assoc
            (lines_of fact_line facts n.set ++ effect_opening ++ lines_of fact_line facts d.set ++ lines_of delete_line facts e.set)
            action_end x.tail);
        more = x.more;
      }

  pub action_made : (needs adds deletes : ℕ) (tail : List ℕ) → Inside facts needs → Inside facts adds → Inside facts deletes
      → Says v (rest needs adds deletes) tail → Says v (action_tree facts rest) (body_text facts needs adds deletes ++ tail)
  unfolding action_tree
  action_made needs adds deletes tail p q r s =
      rw (five (lines_of fact_line facts needs) effect_opening (lines_of fact_line facts adds) (lines_of delete_line facts deletes) action_end tail)
      (lines_made fact_line facts at_effects v few needs
      (effect_opening ++ (lines_of fact_line facts adds ++ (lines_of delete_line facts deletes ++ (action_end ++ tail)))) p
      (after (lines_of fact_line facts adds ++ (lines_of delete_line facts deletes ++ (action_end ++ tail))) refl
      (lines_made fact_line facts (at_deletes needs) v few adds (lines_of delete_line facts deletes ++ (action_end ++ tail)) q
      (lines_made delete_line facts (at_end needs adds) v few deletes (action_end ++ tail) r (after tail refl s)))))
