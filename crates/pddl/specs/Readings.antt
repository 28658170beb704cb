-- What reading a text gives, for every text: 02, request 4, "A reader for exactly that layout gives the actions, starts, goals and sizes back.
-- Anything else is refused, at the length of the longest beginning that it shares with some text of the layout (for a problem, some problem
-- over the domain's sizes)." 02, request 6: "the PDDL texts don't carry locks", so what comes back has none.
use Rattle.std.specs.Prelude.{Result, Ok, Err, false, List, ◌⊎◌, ◌≡◌, ℕ, ◌<◌, ◌≤◌, length}
use Rattle.facts.specs.Sets.{has}
use Rattle.table.specs.Refusals.{accepted, size_outside, not_the_layout, number_of}
use Rattle.table.specs.Sizes.{max_facts, max_actions}
use Rattle.table.specs.Tasks.{mask_of, unlocked, no_runs}
use Rattle.table.specs.declared.Table.{Table}
use Rattle.table.specs.declared.Task.{Task}
use Rattle.table.specs.declared.TaskReply.{TaskReply}
use Rattle.table.specs.declared.refusals.Refusal.{Refusal}
use Rattle.taskformat.specs.Reading.{refused_read, accepted_read}
use Rattle.layout.specs.Beginnings.{Longest}
use Rattle.pddl.specs.Texts.{domain_text, problem_text}
use Rattle.pddl.specs.declared.ProblemReply.{ProblemReply}
use Rattle.pddl.specs.declared.RunEnds.{RunEnds}

-- ---- the domain

-- The tables that a domain text says, with the limit that is passed beside it: those of well-formed tasks, whatever their locks.
pub record Domain (limit : ℕ) (t : Table) : Type 0 where
  pub facts_low : 0 < t.facts
  pub facts_high : t.facts ≤ max_facts
  pub actions_low : 0 < t.actions
  pub actions_high : t.actions ≤ max_actions
  pub limit_is : t.limit ≡ limit
  pub needs : length t.needs ≡ max_actions
  pub adds : length t.adds ≡ max_actions
  pub deletes : length t.deletes ≡ max_actions
  pub inside : (k a f : ℕ) → t.facts ≤ f → has (mask_of t k a) f ≡ false
  pub unused : (k a : ℕ) → t.actions ≤ a → mask_of t k a ≡ 0

-- s is a domain text.
pub record IsDomain (limit : ℕ) (s : List ℕ) : Type 0 where
  pub table : Table
  pub fits : Domain limit table
  pub text : s ≡ domain_text table

-- The table as a task that has no run yet.
abbrev pub without_runs : Table → Task
without_runs t = record { table = t; runs = no_runs }

-- r is what reading s as a domain gives: of the text of a table, the table without its locks.
pub data ReadsDomain (s : List ℕ) (limit : ℕ) (r : TaskReply) : Type 0 where
  domain : (t : Table) → Domain limit t → s ≡ domain_text t → r ≡ accepted_read (without_runs (unlocked t)) → ReadsDomain s limit r
  outside : (n : ℕ) → (IsDomain limit s → ⊥) → Longest (IsDomain limit) s n → r ≡ refused_read not_the_layout n → ReadsDomain s limit r

-- ---- a problem over so many facts

-- The starts and goals that a problem text says.
pub record Problem (facts start goal : ℕ) : Type 0 where
  pub start_inside : (f : ℕ) → facts ≤ f → has start f ≡ false
  pub goal_inside : (f : ℕ) → facts ≤ f → has goal f ≡ false

pub record IsProblem (facts : ℕ) (s : List ℕ) : Type 0 where
  pub start : ℕ
  pub goal : ℕ
  pub fits : Problem facts start goal
  pub text : s ≡ problem_text facts start goal

abbrev pub refused_problem : ℕ → ℕ → ProblemReply
refused_problem n p = record { number = n; place = p; start = 0; goal = 0 }

abbrev pub accepted_problem : ℕ → ℕ → ProblemReply
accepted_problem start goal = record { number = accepted; place = 0; start = start; goal = goal }

-- What the code answers, in 01's numbers.
abbrev pub problem_told : Result RunEnds Refusal → ProblemReply
problem_told (Ok ends) = accepted_problem ends.start ends.goal
problem_told (Err e) = refused_problem (number_of e.why) e.place

-- r is what reading s as a problem over so many facts gives; "4 at 0 if the F given to the problem reader is out of range" comes first.
pub data ReadsProblem (s : List ℕ) (facts : ℕ) (r : ProblemReply) : Type 0 where
  no_size : (facts ≡ 0) ⊎ (max_facts < facts) → r ≡ refused_problem size_outside 0 → ReadsProblem s facts r
  problem : 0 < facts → facts ≤ max_facts → (start goal : ℕ) → Problem facts start goal → s ≡ problem_text facts start goal
      → r ≡ accepted_problem start goal → ReadsProblem s facts r
  outside : 0 < facts → facts ≤ max_facts → (n : ℕ) → (IsProblem facts s → ⊥) → Longest (IsProblem facts) s n
      → r ≡ refused_problem not_the_layout n → ReadsProblem s facts r
