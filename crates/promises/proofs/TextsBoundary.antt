-- Demand 1, and the readers' verdict, of the boundary's functions for PDDL texts (02, request 4), said of the functions themselves, as
-- BoundaryDemand says it of the others. Assumes nothing.
use mathlib.Core.Bool.{false}
use mathlib.Core.List.{List, [], ◌∷◌, ◌++◌}
use mathlib.Core.Logic.{◌⊎◌}
use mathlib.Core.Path.{◌≡◌, refl, ap, ◌∙◌}
use Prim.Native.Nat.{ℕ, ◌<◌, ◌≤◌}
use native.Mathlib.Omega.{arith}
use lib.ListN.{length, drop}
use Rattle.boundary.proofs.Called.{ZpWriteDomainGives, zp_write_domain_gives, zp_write_domain_asks_nothing, ZpWriteProblemGives, zp_write_problem_gives, zp_write_problem_asks_nothing, ZpReadDomainGives, zp_read_domain_gives, zp_read_domain_asks_nothing, ZpReadProblemGives, zp_read_problem_gives, zp_read_problem_asks_nothing, ZpAddRunGives, zp_add_run_gives, zp_add_run_asks_nothing}
use Rattle.boundary.proofs.texts.zp_add_run.Reads as zp-add-run
use Rattle.boundary.proofs.texts.zp_read_domain.Reads as zp-read-domain
use Rattle.boundary.proofs.texts.zp_read_problem.Reads as zp-read-problem
use Rattle.boundary.proofs.texts.zp_write_domain.Reads as zp-write-domain
use Rattle.boundary.proofs.texts.zp_write_problem.Reads as zp-write-problem
use Rattle.pddl.proofs.ReadBack.{reads_problem_once}
use Rattle.pddl.specs.Readings.{IsDomain, IsProblem, no_size}
use Rattle.pddl.specs.declared.ProblemReply.{ProblemReply}
use Rattle.pddlwriter.proofs.WritingLaws.{domain_unformed, problem_unformed, problem_missing}
use Rattle.table.proofs.Formation.{well_formed}
use Rattle.table.specs.Asks.{AsksNothing}
use Rattle.table.specs.Tasks.{formed, WellFormed}
use Rattle.table.specs.declared.TaskReply.{TaskReply}
use Rattle.taskwords.proofs.AnsweringLaws.{answers_said}
use Rattle.taskwords.proofs.LendingLaws.{lent_back_kept}
use Rattle.taskwords.specs.Answers.{task_answer, problem_words}
use Rattle.taskwords.specs.Words.{task_in}
use Rattle.promises.proofs.BadInputLaws.{domain_fair, problem_fair, domain_number, problem_number, run_number}
use Rattle.promises.proofs.BoundaryDemand.{Alone, Lending, Said, AnswerRoom, told_room, kept_of, outcome_said}
use Rattle.promises.proofs.Demands.{Refused}
use Rattle.promises.proofs.TextsDemand.{Exactly, domain_exactly, problem_exactly}

pub record TextsThere : Type 0 where
  -- no function asks anything of its caller
  pub write_domain_asks : AsksNothing zp-write-domain.Pre
  pub write_problem_asks : AsksNothing zp-write-problem.Pre
  pub read_domain_asks : AsksNothing zp-read-domain.Pre
  pub read_problem_asks : AsksNothing zp-read-problem.Pre
  pub add_run_asks : AsksNothing zp-add-run.Pre
  -- the answer's room
  pub write_domain_room : (ws room answer : List ℕ) (o : Lending) → ZpWriteDomainGives ws room answer o → AnswerRoom 3 answer o.0 o.1
  pub write_problem_room : (ws : List ℕ) (run : ℕ) (room answer : List ℕ) (o : Lending) → ZpWriteProblemGives ws run room answer o
      → AnswerRoom 3 answer o.0 o.1
  pub read_domain_room : (text : List ℕ) (limit : ℕ) (answer : List ℕ) (o : Alone) → ZpReadDomainGives text limit answer o
      → AnswerRoom 670 answer o.0 o.1
  pub read_problem_room : (text : List ℕ) (facts : ℕ) (answer : List ℕ) (o : Alone) → ZpReadProblemGives text facts answer o
      → AnswerRoom 4 answer o.0 o.1
  pub add_run_room : (ws : List ℕ) (start goal : ℕ) (steps answer : List ℕ) (o : Lending) → ZpAddRunGives ws start goal steps answer o
      → AnswerRoom 2 answer o.0 o.1
  -- "12, 14 .. in writing"
  pub domain_of_none : (ws : List ℕ) → formed (task_in ws) ≡ false → (room answer : List ℕ) → 3 ≤ length answer → (o : Lending)
      → ZpWriteDomainGives ws room answer o → Said (12 ∷ 0 ∷ 0 ∷ []) answer o.0 o.1 × (o.2 ≡ room)
  pub problem_of_none : (ws : List ℕ) → formed (task_in ws) ≡ false → (run : ℕ) (room answer : List ℕ) → 3 ≤ length answer → (o : Lending)
      → ZpWriteProblemGives ws run room answer o → Said (12 ∷ 0 ∷ 0 ∷ []) answer o.0 o.1 × (o.2 ≡ room)
  pub no_such_run : (ws : List ℕ) → WellFormed (task_in ws) → (run : ℕ) → (task_in ws).runs.many ≤ run → (room answer : List ℕ) → 3 ≤ length answer
      → (o : Lending) → ZpWriteProblemGives ws run room answer o → Said (14 ∷ 0 ∷ 0 ∷ []) answer o.0 o.1 × (o.2 ≡ room)
  -- the readers: the words told are of a number and a place as they should be
  pub domain_exactly_there : (text : List ℕ) (limit : ℕ) (answer : List ℕ) → 670 ≤ length answer → (o : Alone) → ZpReadDomainGives text limit answer o
      → (y : TaskReply) × Exactly (IsDomain limit) text y.number y.place ×
      (o.1 ≡ task_answer y.number y.place y.task ++ drop 670 answer)
  pub problem_exactly_there : (text : List ℕ) (facts : ℕ) → 0 < facts → facts ≤ 64 → (answer : List ℕ) → 4 ≤ length answer → (o : Alone)
      → ZpReadProblemGives text facts answer o
      → (y : ProblemReply) × Exactly (IsProblem facts) text y.number y.place ×
      (o.1 ≡ problem_words y.number y.place y.start y.goal ++ drop 4 answer)
  pub no_facts : (text : List ℕ) (facts : ℕ) → (facts ≡ 0) ⊎ (64 < facts) → (answer : List ℕ) → 4 ≤ length answer → (o : Alone)
      → ZpReadProblemGives text facts answer o → Said (4 ∷ 0 ∷ 0 ∷ 0 ∷ []) answer o.0 o.1
  -- a refused call changes nothing that was lent
  pub write_domain_changes_nothing : (ws room answer : List ℕ) (o : Lending) → ZpWriteDomainGives ws room answer o → Refused o.0 → o.2 ≡ room
  pub write_problem_changes_nothing : (ws : List ℕ) (run : ℕ) (room answer : List ℕ) (o : Lending) → ZpWriteProblemGives ws run room answer o
      → Refused o.0 → o.2 ≡ room
  pub add_run_changes_nothing : (ws : List ℕ) (start goal : ℕ) (steps answer : List ℕ) (o : Lending) → ZpAddRunGives ws start goal steps answer o
      → Refused o.0 → o.2 ≡ ws

pub texts_there : TextsThere
texts_there = record {
  write_domain_asks = zp_write_domain_asks_nothing;
  write_problem_asks = zp_write_problem_asks_nothing;
  read_domain_asks = zp_read_domain_asks_nothing;
  read_problem_asks = zp_read_problem_asks_nothing;
  add_run_asks = zp_add_run_asks_nothing;
  write_domain_room = λ ws room answer o g. told_room (zp_write_domain_gives ws room answer o g) (λ y i. (domain_fair (task_in ws) room _ i).listed);
  write_problem_room = λ ws run room answer o g.
      told_room (zp_write_problem_gives ws run room answer o g) (λ y i. (problem_fair (task_in ws) run room _ i).listed);
  read_domain_room = λ text limit answer o g. told_room (zp_read_domain_gives text limit answer o g) (domain_number text limit);
  read_problem_room = λ text facts answer o g. told_room (zp_read_problem_gives text facts answer o g) (problem_number text facts);
  add_run_room = λ ws start goal steps answer o g.
      told_room (zp_add_run_gives ws start goal steps answer o g)
      (λ y i. omega (arith, ap (λ (q : TaskReply). q.number) i.0, run_number (task_in ws) start goal steps));
  domain_of_none = λ ws h room answer n o g.
      outcome_said (zp_write_domain_gives ws room answer o g) 12 (λ y e. e ∙ domain_unformed (task_in ws) room h) n;
  problem_of_none = λ ws h run room answer n o g.
      outcome_said (zp_write_problem_gives ws run room answer o g) 12 (λ y e. e ∙ problem_unformed (task_in ws) room run h) n;
  no_such_run = λ ws w run past room answer n o g.
      outcome_said (zp_write_problem_gives ws run room answer o g) 14
      (λ y e. e ∙ problem_missing (task_in ws) room run (well_formed (task_in ws) w) past) n;
  domain_exactly_there = λ text limit answer n o g.
      let x = (zp_read_domain_gives text limit answer o g).given n in
      let y = x.2.0 in
      (y, domain_exactly text limit y x.2.1, x.4 ∙ ap (λ w. w ++ drop 670 answer) x.2.2);
  problem_exactly_there = λ text facts some few answer n o g.
      let x = (zp_read_problem_gives text facts answer o g).given n in
      let y = x.2.0 in
      (y, problem_exactly text facts y some few x.2.1, x.4 ∙ ap (λ w. w ++ drop 4 answer) x.2.2);
  no_facts = λ text facts h answer n o g.
      answers_said (zp_read_problem_gives text facts answer o g) n (4 ∷ 0 ∷ 0 ∷ 0 ∷ [])
      (λ words t.
      t.2 ∙
      ap (λ (y : ProblemReply). problem_words y.number y.place y.start y.goal) (reads_problem_once t.1 (no_size h refl)));
  write_domain_changes_nothing = λ ws room answer o g.
      kept_of (zp_write_domain_gives ws room answer o g) (λ y i. (domain_fair (task_in ws) room _ i).keeps);
  write_problem_changes_nothing = λ ws run room answer o g.
      kept_of (zp_write_problem_gives ws run room answer o g) (λ y i. (problem_fair (task_in ws) run room _ i).keeps);
  add_run_changes_nothing = λ ws start goal steps answer o g.
      kept_of (zp_add_run_gives ws start goal steps answer o g) (λ y i first. i.1 ∙ lent_back_kept ws y.number y.task first);
}
