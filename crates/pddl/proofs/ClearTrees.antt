-- The trees are clear: no line that may stand there is the beginning of what stands there without it. Two such lines differ before either
-- ends. Assumes nothing.
use mathlib.Core.Bool.{Bool, true, ◌||◌, ◌&&◌}
use mathlib.Core.List.{List, ◌++◌}
use mathlib.Core.Path.{◌≡◌, refl}
use Prim.Native.Nat.{ℕ, zero, suc, ◌+◌, ◌<◌, ◌≤◌}
use native.Mathlib.Omega.{arith}
use lib.Dec.{eqb, ltb}
use lib.ListN.{length, set, length-append}
use borrow.Author.Tests.{ne_eqb, ltb-true}
use Rattle.facts.specs.Sets.{joined, only, width}
use Rattle.table.specs.Counting.{every_below}
use Rattle.table.specs.Sizes.{max_actions}
use Rattle.table.proofs.CountingLaws.{every_below_all}
use Rattle.table.proofs.FlagLaws.{or_other, both}
use Rattle.text.specs.Text.{digits}
use Rattle.layout.specs.Beginnings.{alike}
use Rattle.layout.specs.Layouts.{Layout, Apart, Clear, word, done, after, stands, missing}
use Rattle.layout.proofs.AlikeLaws.{alike_short}
use Rattle.pddl.specs.Texts.{fact_line, delete_line, predicates_end, action_head, effect_opening, action_end, domain_end, goal_opening, problem_end}
use Rattle.pddl.specs.Trees.{Said, a_run, set_from, set_tree, count_from, action_tree, actions_from, no_sets, first_action, domain_tree, problem_tree}

-- ---- lines that differ, tried one with another

abbrev differs : List ℕ → List ℕ → Bool
differs w x = ltb (alike w x) (length w) && ltb (alike w x) (length x)

record Differ (w x : List ℕ) : Type 0 where
  early : alike w x < length w
  early_too : alike w x < length x

differ : (w x : List ℕ) → differs w x ≡ true → Differ w x
differ w x h =
    let two = both (ltb (alike w x) (length w)) (ltb (alike w x) (length x)) h in
    record { early = ltb-true (alike w x) (length w) two.0; early_too = ltb-true (alike w x) (length x) two.1 }

-- The lines of two facts; f1 and f10 share their first digit, and differ at the next byte.
module _ (line : ℕ → List ℕ) (tried : every_below (λ f. every_below (λ g. eqb f g || differs (line f) (line g)) width) width ≡ true) where
  two_lines : (f g : ℕ) → f < g → g < width → Differ (line f) (line g)
  two_lines f g h l =
      differ (line f) (line g)
      (or_other
      (every_below_all (λ g. eqb f g || differs (line f) (line g)) width
      (every_below_all (λ f. every_below (λ g. eqb f g || differs (line f) (line g)) width) width tried f (omega arith)) g l)
      (ne_eqb f g (λ e. omega arith)))

two_facts : (f g : ℕ) → f < g → g < width → Differ (fact_line f) (fact_line g)
unfolding every_below alike fact_line digits
two_facts = two_lines fact_line refl

two_deletes : (f g : ℕ) → f < g → g < width → Differ (delete_line f) (delete_line g)
unfolding every_below alike delete_line digits
two_deletes = two_lines delete_line refl

-- A line and what does not begin with it.
module _ (line : ℕ → List ℕ) (x : List ℕ) (n : ℕ) (tried : every_below (λ f. differs (line f) x) n ≡ true) where
  line_and : (f : ℕ) → f < n → Differ (line f) x
  line_and f h = differ (line f) x (every_below_all (λ f. differs (line f) x) n tried f h)

fact_predicates : (f : ℕ) → f < width → Differ (fact_line f) predicates_end
unfolding every_below alike fact_line digits
fact_predicates = line_and fact_line predicates_end width refl

fact_effects : (f : ℕ) → f < width → Differ (fact_line f) effect_opening
unfolding every_below alike fact_line digits
fact_effects = line_and fact_line effect_opening width refl

fact_end : (f : ℕ) → f < width → Differ (fact_line f) action_end
unfolding every_below alike fact_line digits
fact_end = line_and fact_line action_end width refl

fact_goal : (f : ℕ) → f < width → Differ (fact_line f) goal_opening
unfolding every_below alike fact_line digits
fact_goal = line_and fact_line goal_opening width refl

fact_problem : (f : ℕ) → f < width → Differ (fact_line f) problem_end
unfolding every_below alike fact_line digits
fact_problem = line_and fact_line problem_end width refl

delete_end : (f : ℕ) → f < width → Differ (delete_line f) action_end
unfolding every_below alike delete_line digits
delete_end = line_and delete_line action_end width refl

head_end : (a : ℕ) → a < max_actions → Differ (action_head a) domain_end
unfolding every_below alike action_head digits
head_end = line_and action_head domain_end max_actions refl

-- An add and a delete.
fact_delete : (f g : ℕ) → f < width → g < width → Differ (fact_line f) (delete_line g)
unfolding every_below alike fact_line delete_line digits
fact_delete f g h l =
    differ (fact_line f) (delete_line g)
    (every_below_all (λ g. differs (fact_line f) (delete_line g)) width
    (every_below_all (λ f. every_below (λ g. differs (fact_line f) (delete_line g)) width) width refl f h) g l)

-- ---- trees whose texts differ from a word

-- What begins with a word that differs differs there too.
before_either : (w x u : List ℕ) → Differ w x → (alike w (x ++ u) < length w) × (alike w (x ++ u) < length (x ++ u))
before_either w x u d =
    let same = alike_short w x u d.early_too in
    (omega (arith, d.early), omega (arith, d.early_too, length-append x u))

apart_word : (w x : List ℕ) (l : Layout Said) → Differ w x → Apart w (word x l)
apart_word w x l d v t (after u e s) = rw e (before_either w x u d)

apart_set : (w : List ℕ) (line : ℕ → List ℕ) (rest : ℕ → Layout Said) → ((m : ℕ) → Apart w (rest m)) → (left f m : ℕ)
    → ((g : ℕ) → f ≤ g → g < f + left → Differ w (line g)) → Apart w (set_from line left f m rest)
unfolding set_from
apart_set w line rest none zero f m d v t s = none m v t s
apart_set w line rest none (suc left) f m d v t (stands u e s) =
    rw e (before_either w (line f) u (d f (omega arith) (omega arith)))
apart_set w line rest none (suc left) f m d v t (missing s) =
    apart_set w line rest none left (suc f) m (λ g h l. d g (omega arith) (omega arith)) v t s

-- ---- clear trees

module _ (line : ℕ → List ℕ) (two : (f g : ℕ) → f < g → g < width → Differ (line f) (line g)) (rest : ℕ → Layout Said)
    (clear : (m : ℕ) → Clear (rest m)) (apart : (f : ℕ) → f < width → (m : ℕ) → Apart (line f) (rest m)) where
  clear_set : (left f m : ℕ) → f + left ≤ width → Clear (set_from line left f m rest)
  unfolding set_from Clear
  clear_set zero f m h = clear m
  clear_set (suc left) f m h = (
    clear_set left (suc f) (joined m (only f)) (omega arith),
    clear_set left (suc f) m (omega arith),
    apart_set (line f) line rest (apart f (omega arith)) left (suc f) m (λ g l k. two f g (omega arith) (omega arith)),
  )

clear_count : (line : ℕ → List ℕ) (rest : ℕ → Layout Said) → ((n : ℕ) → n ≤ width → Clear (rest n)) → ((n : ℕ) → n < width → Apart (line n) (rest n))
    → (left n : ℕ) → n + left ≤ width → Clear (count_from line left n rest)
unfolding count_from Clear
clear_count line rest clear none zero n h = clear n (omega arith)
clear_count line rest clear none (suc left) n h =
    (clear_count line rest clear none left (suc n) (omega arith), clear n (omega arith), none n (omega arith))

module _ (facts : ℕ) (few : facts ≤ width) where
  clear_action : (rest : ℕ → ℕ → ℕ → Layout Said) → ((n d e : ℕ) → Clear (rest n d e)) → Clear (action_tree facts rest)
  unfolding action_tree Clear
  clear_action rest clear =
      clear_set fact_line two_facts (λ n. word effect_opening (at_adds n))
      (λ n.
      clear_set fact_line two_facts (at_deletes n)
      (λ d. clear_set delete_line two_deletes (at_end n d) (λ e. clear n d e) (λ f h e. apart_word (delete_line f) action_end (rest n d e) (delete_end f h)) facts 0 0 (omega (arith, few)))
      (λ f h d.
      apart_set (fact_line f) delete_line (at_end n d) (λ e. apart_word (fact_line f) action_end (rest n d e) (fact_end f h)) facts 0 0
      (λ g l k. fact_delete f g h (omega arith)))
      facts 0 0 (omega (arith, few)))
      (λ f h n. apart_word (fact_line f) effect_opening (at_adds n) (fact_effects f h)) facts 0 0 (omega (arith, few))
    where
      at_end : ℕ → ℕ → ℕ → Layout Said
      at_end n d e = word action_end (rest n d e)

      at_deletes : ℕ → ℕ → Layout Said
      at_deletes n d = set_tree delete_line facts (at_end n d)

      at_adds : ℕ → Layout Said
      at_adds n = set_tree fact_line facts (at_deletes n)

  clear_actions : (limit left a : ℕ) (N D E : List ℕ) → a + left ≤ max_actions → Clear (actions_from limit facts left a N D E)
  unfolding actions_from Clear
  clear_actions limit zero a N D E h = tt
  clear_actions limit (suc left) a N D E h = (
    clear_action (λ n d e. actions_from limit facts left (suc a) (set N a n) (set D a d) (set E a e))
        (λ n d e. clear_actions limit left (suc a) (set N a n) (set D a d) (set E a e) (omega arith)),
    tt,
    apart_word (action_head a) domain_end _ (head_end a (omega arith)),
  )

  clear_first : (limit : ℕ) → Clear (first_action limit facts)
  unfolding first_action Clear
  clear_first limit =
      clear_action (λ n d e. actions_from limit facts 31 1 (set no_sets 0 n) (set no_sets 0 d) (set no_sets 0 e))
      (λ n d e. clear_actions limit 31 1 (set no_sets 0 n) (set no_sets 0 d) (set no_sets 0 e) (omega arith))

  pub clear_problem : Clear (problem_tree facts)
  unfolding problem_tree Clear
  clear_problem =
      clear_set fact_line two_facts at_goal
      (λ s. clear_set fact_line two_facts (at_end s) (λ g. tt) (λ f h g. apart_word (fact_line f) problem_end (done (a_run s g)) (fact_problem f h)) facts 0 0 (omega (arith, few)))
      (λ f h s. apart_word (fact_line f) goal_opening (set_tree fact_line facts (at_end s)) (fact_goal f h)) facts 0 0 (omega (arith, few))
    where
      at_end : ℕ → ℕ → Layout Said
      at_end s g = word problem_end (done (a_run s g))

      at_goal : ℕ → Layout Said
      at_goal s = word goal_opening (set_tree fact_line facts (at_end s))

pub clear_domain : (limit : ℕ) → Clear (domain_tree limit)
unfolding domain_tree Clear
clear_domain limit =
    clear_count fact_line (λ facts. word predicates_end (first_action limit facts)) (λ facts h. clear_first facts h limit)
    (λ facts h. apart_word (fact_line facts) predicates_end (first_action limit facts) (fact_predicates facts h)) 63 1 (omega arith)
