-- The walk along a whole text, and what it gives at its end. Assumes nothing.
use mathlib.Core.Bool.{true, false}
use mathlib.Core.List.{List}
use mathlib.Core.Path.{◌≡◌, ◌∙◌}
use Prim.Native.Nat.{ℕ, ◌-◌, ◌<◌, ◌≤◌}
use Rattle.layout.specs.Layouts.{Layout, done, word}
use Rattle.layout.specs.Walking.{walk, reads, stops}
use Rattle.table.specs.Sizes.{max_facts}
use Rattle.taskformat.specs.Reading.{accepted_read, refused_read}
use Rattle.table.specs.Refusals.{not_the_layout}
use Rattle.pddl.specs.Readings.{without_runs, accepted_problem, refused_problem, ReadsDomain, ReadsProblem}
use Rattle.pddl.specs.Texts.{fact_line, domain_opening, predicates_end, domain_end, problem_opening, goal_opening, problem_end}
use Rattle.pddl.specs.Trees.{Said, a_table, a_run, set_tree, count_from, first_action, domain_tree, problem_tree}
use Rattle.pddlreader.specs.Cursors.{walk_from, tried, had_to_stand, is_whole}
use Rattle.pddlreader.specs.Walks.{ReadsSet, ReadsCount, ReadsActions, start, WalksDomain, WalksProblem}
use Rattle.pddlreader.specs.Walks.{TableRead}
use Rattle.pddlreader.specs.declared.cursor.Cursor.{Cursor}
use Rattle.pddlreader.specs.Cursors.{Tried}
use Rattle.pddlreader.specs.Walks.{Counted}
use Rattle.pddlreader.specs.Walks.{SetRead}
use Rattle.pddlreader.specs.Walks.{RunRead}
use Rattle.pddl.proofs.Walked.{domain_walked, domain_stopped, problem_walked, problem_stopped}
use Rattle.pddlreader.proofs.WalkLaws.{walk_word}

-- The parts of a text, one after another.
pub domain_parts : (limit : ℕ) (s : List ℕ) {opened first told after : Cursor} {t : Tried} (counted : Counted) (read : TableRead)
    → opened ≡ had_to_stand (tried s start domain_opening) → t ≡ tried s opened (fact_line 0) → first ≡ had_to_stand t
    → ReadsCount s first counted → told ≡ had_to_stand (tried s counted.cursor predicates_end)
    → ReadsActions limit counted.facts s told read → after ≡ had_to_stand (tried s read.cursor domain_end)
    → WalksDomain limit s (record { cursor = after; table = read.table })
unfolding domain_tree
domain_parts limit s {opened = opened} counted read opening line stood count ending actions closing =
    let rest : ℕ → Layout Said = λ facts. word predicates_end (first_action limit facts) in
    let facts : Layout Said = count_from fact_line (max_facts - 1) 1 rest in
    walk_word s start domain_opening (word (fact_line 0) facts) opening ∙ walk_word s opened (fact_line 0) facts (rw line at stood) ∙
    count rest ∙ walk_word s counted.cursor predicates_end (first_action limit counted.facts) ending ∙ actions ∙
    walk_word s read.cursor domain_end (done (a_table read.table)) closing

pub problem_parts : (facts : ℕ) (s : List ℕ) {opened told after : Cursor} (begin goal : SetRead)
    → opened ≡ had_to_stand (tried s start problem_opening) → ReadsSet fact_line facts s opened begin
    → told ≡ had_to_stand (tried s begin.cursor goal_opening) → ReadsSet fact_line facts s told goal
    → after ≡ had_to_stand (tried s goal.cursor problem_end)
    → WalksProblem facts s (record { cursor = after; start = begin.set; goal = goal.set })
unfolding problem_tree
problem_parts facts s begin goal opening started ending aimed closing =
    let goals : ℕ → Layout Said = λ g. word problem_end (done (a_run begin.set g)) in
    let starts : ℕ → Layout Said = λ b. word goal_opening (set_tree fact_line facts (λ g. word problem_end (done (a_run b g)))) in
    walk_word s start problem_opening (set_tree fact_line facts starts) opening ∙ started starts ∙
    walk_word s begin.cursor goal_opening (set_tree fact_line facts goals) ending ∙ aimed goals ∙
    walk_word s goal.cursor problem_end (done (a_run begin.set goal.set)) closing

-- At the end: all was read, or the walk stops.
module _ {A : Type 0} (v : A) (s : List ℕ) (c : Cursor) where
  ends_here : is_whole c s ≡ true → walk_from (done v) s c ≡ reads v
  unfolding walk
  ends_here e = rw e

  stops_short : is_whole c s ≡ false → walk_from (done v) s c ≡ stops c.far
  unfolding walk
  stops_short e = rw e

module _ (limit : ℕ) (s : List ℕ) (read : TableRead) (walked : WalksDomain limit s read) where
  pub domain_whole : is_whole read.cursor s ≡ true → ReadsDomain s limit (accepted_read (without_runs read.table))
  domain_whole e = domain_walked limit s read.table (walked ∙ ends_here (a_table read.table) s read.cursor e)

  pub domain_not_whole : is_whole read.cursor s ≡ false → ReadsDomain s limit (refused_read not_the_layout read.cursor.far)
  domain_not_whole e =
      domain_stopped limit s read.cursor.far (walked ∙ stops_short (a_table read.table) s read.cursor e)

module _ (facts : ℕ) (some : 0 < facts) (few : facts ≤ max_facts) (s : List ℕ) (read : RunRead) (walked : WalksProblem facts s read) where
  pub problem_whole : is_whole read.cursor s ≡ true → ReadsProblem s facts (accepted_problem read.start read.goal)
  problem_whole e =
      problem_walked facts few some s read.start read.goal
      (walked ∙ ends_here (a_run read.start read.goal) s read.cursor e)

  pub problem_not_whole : is_whole read.cursor s ≡ false → ReadsProblem s facts (refused_problem not_the_layout read.cursor.far)
  problem_not_whole e =
      problem_stopped facts few some s read.cursor.far
      (walked ∙ stops_short (a_run read.start read.goal) s read.cursor e)
