-- The texts of the problem tree are the problem texts, each saying its start and its goal. Assumes nothing.
use mathlib.Core.List.{List, [], ◌++◌}
use mathlib.Core.Path.{◌≡◌, refl, ap, ◌∙◌}
use Prim.Native.Nat.{ℕ, ◌≤◌}
use Rattle.facts.specs.Sets.{width}
use Rattle.layout.specs.Layouts.{Layout, Says, word, done, after, ends}
use Rattle.pddl.specs.Texts.{fact_line, lines_of, problem_opening, goal_opening, problem_end, problem_text}
use Rattle.pddl.specs.Readings.{Problem}
use Rattle.pddl.specs.Trees.{Said, a_run, set_tree, problem_tree}
use Rattle.pddl.proofs.Chains.{four, chained, word_said}
use Rattle.pddl.proofs.SetTexts.{lines_said, lines_made}

module _ (facts : ℕ) (few : facts ≤ width) where
  pub record ProblemSaid (v : Said) (t : List ℕ) : Type 0 where
    pub start : ℕ
    pub goal : ℕ
    pub says : a_run start goal ≡ v
    pub fits : Problem facts start goal
    pub text : t ≡ problem_text facts start goal

  -- The trees behind the goal and behind the start.
  abbrev at_end : ℕ → ℕ → Layout Said
  at_end start goal = word problem_end (done (a_run start goal))

  abbrev at_goal : ℕ → Layout Said
  at_goal start = word goal_opening (set_tree fact_line facts (at_end start))

  -- What is at the end says the start and the goal that were read.
  end_said : (start goal : ℕ) (v : Said) (t : List ℕ) → Says v (at_end start goal) t → (a_run start goal ≡ v) × (t ≡ problem_end)
  end_said start goal v t (after u p (ends q r)) = (q, p ∙ rw r)

  pub problem_said : (v : Said) (t : List ℕ) → Says v (problem_tree facts) t → ProblemSaid v t
  unfolding problem_tree problem_text
  problem_said v t s =
      let o = word_said problem_opening (set_tree fact_line facts at_goal) v t s in
      let i = lines_said fact_line facts at_goal v few o.tail o.more in
      let p = word_said goal_opening (set_tree fact_line facts (at_end i.set)) v i.tail i.more in
      let g = lines_said fact_line facts (at_end i.set) v few p.tail p.more in
      let e = end_said i.set g.set v g.tail g.more in
      record {
        start = i.set;
        goal = g.set;
        says = e.0;
        fits = record { start_inside = i.inside; goal_inside = g.inside };
        text =
            chained problem_opening (lines_of fact_line facts i.set) goal_opening (lines_of fact_line facts g.set) g.tail o.text i.text
            p.text g.text ∙
            ap (λ (l : List ℕ). problem_opening ++ lines_of fact_line facts i.set ++ goal_opening ++ lines_of fact_line facts g.set ++ l) e.1;
      }

  pub problem_made : (start goal : ℕ) → Problem facts start goal → Says (a_run start goal) (problem_tree facts) (problem_text facts start goal)
  unfolding problem_tree problem_text
  problem_made start goal p =
      after (lines_of fact_line facts start ++ (goal_opening ++ (lines_of fact_line facts goal ++ problem_end)))
      (four problem_opening (lines_of fact_line facts start) goal_opening (lines_of fact_line facts goal) problem_end)
      (lines_made fact_line facts at_goal (a_run start goal) few start (goal_opening ++ (lines_of fact_line facts goal ++ problem_end)) p.start_inside
      (after (lines_of fact_line facts goal ++ problem_end) refl
      (lines_made fact_line facts (at_end start) (a_run start goal) few goal problem_end p.goal_inside (after [] refl (ends refl refl)))))
