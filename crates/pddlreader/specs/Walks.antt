-- What the inner functions promise: walking a part of the layout from here, and then any rest, is walking that rest from there, by what was
-- read. So it holds of a text outside the layout too: the walk stops as far either way.
use Rattle.std.specs.Prelude.{true, List, ◌≡◌, ℕ, suc, ◌-◌}
use Rattle.layout.specs.Layouts.{Layout, done, word}
use Rattle.table.specs.Sizes.{max_facts}
use Rattle.table.specs.declared.Table.{Table}
use Rattle.pddl.specs.Texts.{fact_line, domain_end}
use Rattle.pddl.specs.Trees.{Said, a_table, a_run, set_from, set_tree, count_from, action_tree, first_action, domain_tree, problem_tree}
use Rattle.pddlreader.specs.Cursors.{walk_from}
use Rattle.pddlreader.specs.declared.cursor.Cursor.{Cursor}

-- What a part of a text says, and the walk's place after it: a set of facts; how many facts there are; what an action needs, adds and deletes; a
-- table; and a run's start and goal.
pub record SetRead : Type 0 where
  pub cursor : Cursor
  pub set : ℕ

pub record Counted : Type 0 where
  pub cursor : Cursor
  pub facts : ℕ

pub record ActionRead : Type 0 where
  pub cursor : Cursor
  pub needs : ℕ
  pub adds : ℕ
  pub deletes : ℕ

pub record TableRead : Type 0 where
  pub cursor : Cursor
  pub table : Table

pub record RunRead : Type 0 where
  pub cursor : Cursor
  pub start : ℕ
  pub goal : ℕ

-- The line of fact f, of a set whose lower facts were read.
abbrev pub ReadsLine : (ℕ → List ℕ) → ℕ → List ℕ → SetRead → SetRead → Type 0
ReadsLine line f s before after =
    (left : ℕ) (rest : ℕ → Layout Said)
    → walk_from (set_from line (suc left) f before.set rest) s before.cursor ≡
    walk_from (set_from line left (suc f) after.set rest) s after.cursor

-- A set among so many facts.
abbrev pub ReadsSet : (ℕ → List ℕ) → ℕ → List ℕ → Cursor → SetRead → Type 0
ReadsSet line facts s c r =
    (rest : ℕ → Layout Said) → walk_from (set_tree line facts rest) s c ≡ walk_from (rest r.set) s r.cursor

-- The facts that there are, after the first.
abbrev pub ReadsCount : List ℕ → Cursor → Counted → Type 0
ReadsCount s c r =
    (rest : ℕ → Layout Said) → walk_from (count_from fact_line (max_facts - 1) 1 rest) s c ≡ walk_from (rest r.facts) s r.cursor

-- What stands behind the head of an action.
abbrev pub ReadsAction : ℕ → List ℕ → Cursor → ActionRead → Type 0
ReadsAction facts s c r =
    (rest : ℕ → ℕ → ℕ → Layout Said) → walk_from (action_tree facts rest) s c ≡ walk_from (rest r.needs r.adds r.deletes) s r.cursor

-- The actions that there are; then the domain text ends.
abbrev pub ReadsActions : ℕ → ℕ → List ℕ → Cursor → TableRead → Type 0
ReadsActions limit facts s c r =
    walk_from (first_action limit facts) s c ≡ walk_from (word domain_end (done (a_table r.table))) s r.cursor

-- A whole text, from its first byte on: all that is left is whether it ends here.
abbrev pub start : Cursor
start = record { good = true; at = 0; far = 0 }

abbrev pub WalksDomain : ℕ → List ℕ → TableRead → Type 0
WalksDomain limit s r = walk_from (domain_tree limit) s start ≡ walk_from (done (a_table r.table)) s r.cursor

abbrev pub WalksProblem : ℕ → List ℕ → RunRead → Type 0
WalksProblem facts s r = walk_from (problem_tree facts) s start ≡ walk_from (done (a_run r.start r.goal)) s r.cursor
