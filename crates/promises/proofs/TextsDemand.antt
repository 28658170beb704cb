-- 02, request 4, the repaired table as PDDL, as one theorem over the calls: a field for each phrase. `WriteDomainGives t room o` says that a call of
-- `write_domain` with this task and this room gave o, and that the contract above the function allows it; so for every call. Assumes nothing.
use mathlib.Core.Bool.{false}
use mathlib.Core.List.{List, ◌++◌}
use mathlib.Core.Logic.{◌↔◌, ◌⊎◌, inl, inr}
use mathlib.Core.Path.{◌≡◌, refl, sym, ap, ◌∙◌, subst}
use Prim.Native.Nat.{ℕ, suc, ◌<◌, ◌≤◌}
use native.Mathlib.Omega.{arith}
use lib.ListN.{length, drop, replicate}
use lib.Seq.{take-append_seam}
use Rattle.addrun.proofs.AddingLaws.{added_well}
use Rattle.addrun.proofs.Called.{AddRunGives, add_run_gives, add_run_asks_nothing}
use Rattle.addrun.proofs.Together.{accepted_each, together, unlocked_well, unlocked_valid}
use Rattle.addrun.proofs.add_run.Reads as add-run
use Rattle.addrun.specs.Adding.{built, steps_of}
use Rattle.apply.proofs.Called.{ApplyGives}
use Rattle.layout.specs.Beginnings.{Longest}
use Rattle.pddl.proofs.ReadBack.{unlocked_text, reads_problem_once, domain_back, accepted_domain, domain_accepted, domain_cut, domain_tail, domain_of, no_locks, problem_back, accepted_problem_lem, problem_accepted, problem_cut, problem_tail, problem_of_lem}
use Rattle.pddl.specs.Readings.{IsDomain, IsProblem, ReadsDomain, ReadsProblem, without_runs, refused_problem, accepted_problem, domain, no_size, problem}
use Rattle.pddl.specs.Readings as readings
use Rattle.pddl.specs.Texts.{domain_text}
use Rattle.pddl.specs.declared.ProblemReply.{ProblemReply}
use Rattle.pddlreader.proofs.Called.{ReadDomainGives, read_domain_gives, read_domain_asks_nothing, ReadProblemGives, read_problem_gives, read_problem_asks_nothing}
use Rattle.pddlreader.proofs.read_domain.Reads as read-domain
use Rattle.pddlreader.proofs.read_problem.Reads as read-problem
use Rattle.pddlwriter.proofs.Called.{WriteDomainGives, write_domain_gives, write_domain_asks_nothing, WriteProblemGives, write_problem_gives, write_problem_asks_nothing}
use Rattle.pddlwriter.proofs.WritingLaws.{domain_unformed, domain_given, problem_unformed, problem_missing, problem_given}
use Rattle.pddlwriter.proofs.write_domain.Reads as write-domain
use Rattle.pddlwriter.proofs.write_problem.Reads as write-problem
use Rattle.pddlwriter.specs.Writing.{problem_of}
use Rattle.runcheck.proofs.Called.{CheckGives}
use Rattle.runcheck.specs.declared.Checked.{Checked}
use Rattle.solve.proofs.Called.{SolveGives}
use Rattle.table.proofs.FlagLaws.{by_order}
use Rattle.table.proofs.Formation.{well_formed}
use Rattle.table.proofs.OutcomeLaws.{given_short, given_fits}
use Rattle.table.specs.Asks.{AsksNothing}
use Rattle.table.specs.Outcomes.{Outcome, refused, answered, given}
use Rattle.table.specs.Tasks.{start_of, goal_of, unlocked, unlocked_task, formed, Shaped, WellFormed}
use Rattle.table.specs.declared.Task.{Task}
use Rattle.table.specs.declared.TaskReply.{TaskReply}
use Rattle.taskformat.specs.Reading.{accepted_read}
use Rattle.promises.proofs.Demands.{Refused, wrote, demand_two}

-- ---- "Refusals: 12, 14 and 11 in writing"

pub record Writing : Type 0 where
  pub domain_asks : AsksNothing write-domain.Pre
  pub problem_asks : AsksNothing write-problem.Pre
  -- the text from the first place on, and nothing beside
  pub domain_written : (t : Task) → WellFormed t → (room : List ℕ) → length (domain_text t.table) ≤ length room → (o : Outcome)
      → WriteDomainGives t room o → o ≡ answered (domain_text t.table) room
  pub problem_written : (t : Task) → WellFormed t → (run : ℕ) → run < t.runs.many → (room : List ℕ)
      → length (problem_of t run) ≤ length room → (o : Outcome) → WriteProblemGives t run room o → o ≡ answered (problem_of t run) room
  -- 12
  pub domain_unformed : (t : Task) → formed t ≡ false → (room : List ℕ) (o : Outcome) → WriteDomainGives t room o → o ≡ refused 12 room
  pub problem_unformed : (t : Task) → formed t ≡ false → (run : ℕ) (room : List ℕ) (o : Outcome) → WriteProblemGives t run room o
      → o ≡ refused 12 room
  -- 14: a problem of a run that isn't there
  pub no_such_run : (t : Task) → WellFormed t → (run : ℕ) → t.runs.many ≤ run → (room : List ℕ) (o : Outcome) → WriteProblemGives t run room o
      → o ≡ refused 14 room
  -- 11
  pub domain_short : (t : Task) → WellFormed t → (room : List ℕ) → length room < length (domain_text t.table) → (o : Outcome)
      → WriteDomainGives t room o → o ≡ refused 11 room
  pub problem_short : (t : Task) → WellFormed t → (run : ℕ) → run < t.runs.many → (room : List ℕ)
      → length room < length (problem_of t run) → (o : Outcome) → WriteProblemGives t run room o → o ≡ refused 11 room

-- ---- "A reader for exactly that layout gives the actions, starts, goals and sizes back. Anything else is refused"

-- A reader's verdict on a text: accepted exactly if it is of the layout; else 17, "at the length of the longest beginning that it shares with some
-- text of the layout"; so at its length where it is cut, and at the length of the good text where it has a tail.
pub record Exactly (Text : List ℕ → Type 0) (s : List ℕ) (number place : ℕ) : Type 0 where
  pub accepted_if : (number ≡ 0) ↔ Text s
  pub refused_17 : Refused number → number ≡ 17
  pub place_is : Refused number → Longest Text s place
  pub cut : (u : List ℕ) → 0 < length u → Text (s ++ u) → (number ≡ 17) × (place ≡ length s)
  pub tail : (good u : List ℕ) → 0 < length u → s ≡ good ++ u → Text good → (number ≡ 17) × (place ≡ length good)

pub record Reading : Type 0 where
  pub domain_asks : AsksNothing read-domain.Pre
  pub problem_asks : AsksNothing read-problem.Pre
  pub domain_exactly : (s : List ℕ) (limit : ℕ) (r : TaskReply) → ReadDomainGives s limit r → Exactly (IsDomain limit) s r.number r.place
  -- "for a problem, some problem over the domain's sizes"
  pub problem_exactly : (s : List ℕ) (facts : ℕ) (r : ProblemReply) → 0 < facts → facts ≤ 64 → ReadProblemGives s facts r
      → Exactly (IsProblem facts) s r.number r.place
  -- "after 4 at 0 if the F given to the problem reader is out of range"
  pub no_facts : (s : List ℕ) (facts : ℕ) (r : ProblemReply) → (facts ≡ 0) ⊎ (64 < facts) → ReadProblemGives s facts r → r ≡ refused_problem 4 0

-- ---- both round trips, and the task again

pub record BackAgain : Type 0 where
  -- what was written of a table is read as that table, with the limit passed beside; "the PDDL texts don't carry locks" (02, request 6), and what
  -- comes back has none
  pub domain_read_back : (t : Task) → WellFormed t → (room : List ℕ) (o : Outcome) → WriteDomainGives t room o → o.reply.number ≡ 0
      → (r : TaskReply) → ReadDomainGives (wrote o) t.table.limit r → r ≡ accepted_read (without_runs (unlocked t.table))
  pub no_locks : (s : List ℕ) (limit : ℕ) (r : TaskReply) → ReadDomainGives s limit r → r.task.table.locks ≡ replicate 32 0
  pub problem_read_back : (t : Task) → WellFormed t → (run : ℕ) → run < t.runs.many → (room : List ℕ) (o : Outcome)
      → WriteProblemGives t run room o → o.reply.number ≡ 0 → (r : ProblemReply) → ReadProblemGives (wrote o) t.table.facts r
      → r ≡ accepted_problem (start_of t.runs run) (goal_of t.runs run)
  -- what was read is written as that text, whatever runs were put to it
  pub domain_write_back : (s : List ℕ) (limit : ℕ) (r : TaskReply) → ReadDomainGives s limit r → r.number ≡ 0
      → (u : Task) → WellFormed u → u.table ≡ r.task.table → (room : List ℕ) → length s ≤ length room → (o : Outcome)
      → WriteDomainGives u room o → o ≡ answered s room
  -- "Steps and L are passed beside it": the table read, and run after run with its start, its goal and its steps, is the task again,
  -- without its locks
  pub no_run_yet : (t : Task) → built t 0 ≡ without_runs (unlocked t.table)
  pub one_run_more : (t : Task) → WellFormed t → (i : ℕ) → i < t.runs.many → (r : TaskReply)
      → AddRunGives (built t i) (start_of t.runs i) (goal_of t.runs i) (steps_of t i) r → r ≡ accepted_read (built t (suc i))
  pub the_task : (t : Task) → WellFormed t → built t t.runs.many ≡ unlocked_task t
  -- whatever is put together is well formed
  pub run_asks : AsksNothing add-run.Pre
  pub put_together : (t : Task) → Shaped t → (start goal : ℕ) (steps : List ℕ) (r : TaskReply) → AddRunGives t start goal steps r
      → r.number ≡ 0 → WellFormed r.task
  -- the whole loop: solved, the list applied, written, read and put together, and the check of every run counts nothing
  pub loop : (t : Task) → WellFormed t → (room : List ℕ) (o : Outcome) → SolveGives t room o → o.reply.number ≡ 0 → (r : TaskReply)
      → ApplyGives t (wrote o) r → WellFormed r.task → (run : ℕ) → run < r.task.runs.many → (c : Checked)
      → CheckGives (built r.task r.task.runs.many) run c → c.total ≡ 0

pub record Texts : Type 0 where
  pub writing : Writing
  pub reading : Reading
  pub back_again : BackAgain

-- ---- the theorem

-- What a call wrote of a text that fits.
wrote_text : (text room : List ℕ) → wrote (answered text room) ≡ text
wrote_text text room = take-append_seam text (drop (length text) room)

module _ (t : Task) (w : WellFormed t) where
  domain_is : (room : List ℕ) (o : Outcome) → WriteDomainGives t room o → o ≡ given (domain_text t.table) room
  domain_is room o g = write_domain_gives t room o g ∙ domain_given t room (well_formed t w)

  problem_is : (run : ℕ) → run < t.runs.many → (room : List ℕ) (o : Outcome) → WriteProblemGives t run room o → o ≡ given (problem_of t run) room
  problem_is run there room o g = write_problem_gives t run room o g ∙ sym (problem_given t room run (given (problem_of t run) room) (well_formed t w) there refl)

-- Of what was given, and accepted, the text was written.
wrote_given : (text room : List ℕ) (o : Outcome) → o ≡ given text room → o.reply.number ≡ 0 → wrote o ≡ text
wrote_given text room o e ok =
    by_order (length room) (length text)
    (λ h. let n = ap (λ (x : Outcome). x.reply.number) (e ∙ given_short text room h) in absurd (omega arith))
    (λ h. ap wrote (e ∙ given_fits text room h) ∙ wrote_text text room)

writing : Writing
writing = record {
  domain_asks = write_domain_asks_nothing;
  problem_asks = write_problem_asks_nothing;
  domain_written = λ t w room n o g. domain_is t w room o g ∙ given_fits (domain_text t.table) room n;
  problem_written = λ t w run there room n o g. problem_is t w run there room o g ∙ given_fits (problem_of t run) room n;
  domain_unformed = λ t h room o g. write_domain_gives t room o g ∙ domain_unformed t room h;
  problem_unformed = λ t h run room o g. write_problem_gives t run room o g ∙ problem_unformed t room run h;
  no_such_run = λ t w run past room o g. write_problem_gives t run room o g ∙ problem_missing t room run (well_formed t w) past;
  domain_short = λ t w room n o g. domain_is t w room o g ∙ given_short (domain_text t.table) room n;
  problem_short = λ t w run there room n o g. problem_is t w run there room o g ∙ given_short (problem_of t run) room n;
}

-- A refusal with 17 at a place, of either reader.
pub domain_exactly : (s : List ℕ) (limit : ℕ) (r : TaskReply) → ReadsDomain s limit r → Exactly (IsDomain limit) s r.number r.place
domain_exactly s limit r reads = record {
  accepted_if = (accepted_domain reads, domain_accepted reads);
  refused_17 = seventeen reads;
  place_is = longest reads;
  cut = λ u some whole.
      let e = domain_cut s u whole some reads in
      (ap (λ (x : TaskReply). x.number) e, ap (λ (x : TaskReply). x.place) e);
  tail = λ good u some e is.
      let d = domain_tail good u is some (subst (λ (l : List ℕ). ReadsDomain l limit r) e reads) in
      (ap (λ (x : TaskReply). x.number) d, ap (λ (x : TaskReply). x.place) d);
}
  where
    seventeen : ReadsDomain s limit r → Refused r.number → r.number ≡ 17
    seventeen (domain t d e p) other = absurd (other (ap (λ (x : TaskReply). x.number) p))
    seventeen (readings.ReadsDomain.outside n never l p) other = ap (λ (x : TaskReply). x.number) p

    longest : ReadsDomain s limit r → Refused r.number → Longest (IsDomain limit) s r.place
    longest (domain t d e p) other = absurd (other (ap (λ (x : TaskReply). x.number) p))
    longest (readings.ReadsDomain.outside n never l p) other =
        subst (Longest (IsDomain limit) s) (sym (ap (λ (x : TaskReply). x.place) p)) l

pub problem_exactly : (s : List ℕ) (facts : ℕ) (r : ProblemReply) → 0 < facts → facts ≤ 64 → ReadsProblem s facts r
    → Exactly (IsProblem facts) s r.number r.place
problem_exactly s facts r some few reads = record {
  accepted_if = (accepted_problem_lem some few reads, problem_accepted some few reads);
  refused_17 = seventeen reads;
  place_is = longest reads;
  cut = λ u more whole.
      let e = problem_cut some few s u whole more reads in
      (ap (λ (x : ProblemReply). x.number) e, ap (λ (x : ProblemReply). x.place) e);
  tail = λ good u more e is.
      let d = problem_tail some few good u is more (subst (λ (l : List ℕ). ReadsProblem l facts r) e reads) in
      (ap (λ (x : ProblemReply). x.number) d, ap (λ (x : ProblemReply). x.place) d);
}
  where
    seventeen : ReadsProblem s facts r → Refused r.number → r.number ≡ 17
    seventeen (no_size (inl h) p) other = absurd (omega arith)
    seventeen (no_size (inr h) p) other = absurd (omega arith)
    seventeen (problem _ _ a b d e p) other = absurd (other (ap (λ (x : ProblemReply). x.number) p))
    seventeen (readings.ReadsProblem.outside _ _ n never l p) other = ap (λ (x : ProblemReply). x.number) p

    longest : ReadsProblem s facts r → Refused r.number → Longest (IsProblem facts) s r.place
    longest (no_size (inl h) p) other = absurd (omega arith)
    longest (no_size (inr h) p) other = absurd (omega arith)
    longest (problem _ _ a b d e p) other = absurd (other (ap (λ (x : ProblemReply). x.number) p))
    longest (readings.ReadsProblem.outside _ _ n never l p) other =
        subst (Longest (IsProblem facts) s) (sym (ap (λ (x : ProblemReply). x.place) p)) l

reading : Reading
reading = record {
  domain_asks = read_domain_asks_nothing;
  problem_asks = read_problem_asks_nothing;
  domain_exactly = λ s limit r g. domain_exactly s limit r (read_domain_gives s limit r g);
  problem_exactly = λ s facts r some few g. problem_exactly s facts r some few (read_problem_gives s facts r g);
  no_facts = λ s facts r h g. reads_problem_once (read_problem_gives s facts r g) (no_size h refl);
}

-- A text that was read is that of the table that came of it.
read_text : (s : List ℕ) (limit : ℕ) (r : TaskReply) → ReadsDomain s limit r → r.number ≡ 0 → s ≡ domain_text r.task.table
read_text s limit r (domain t d e p) ok = e ∙ unlocked_text t ∙ ap (λ (x : TaskReply). domain_text x.task.table) (sym p)
read_text s limit r (readings.ReadsDomain.outside n never l p) ok =
    let other = ap (λ (x : TaskReply). x.number) p in
    absurd (omega arith)

back_again : BackAgain
unfolding built
back_again = record {
  domain_read_back = λ t w room o g ok r h.
      domain_back t.table (domain_of t w)
      (subst (λ (l : List ℕ). ReadsDomain l t.table.limit r) (wrote_given (domain_text t.table) room o (domain_is t w room o g) ok)
      (read_domain_gives (wrote o) t.table.limit r h));
  no_locks = λ s limit r g. no_locks (read_domain_gives s limit r g);
  problem_read_back = λ t w run there room o g ok r h.
      problem_back (start_of t.runs run) (goal_of t.runs run) w.facts_low w.facts_high (problem_of_lem t w run)
      (subst (λ (l : List ℕ). ReadsProblem l t.table.facts r) (wrote_given (problem_of t run) room o (problem_is t w run there room o g) ok)
      (read_problem_gives (wrote o) t.table.facts r h));
  domain_write_back = λ s limit r g ok u w e room n o h.
      let text = read_text s limit r (read_domain_gives s limit r g) ok ∙ ap domain_text (sym e) in
      let long = ap length text in
      domain_is u w room o h ∙ given_fits (domain_text u.table) room (omega arith) ∙ ap (λ (l : List ℕ). answered l room) (sym text);
  no_run_yet = λ t. refl;
  one_run_more = λ t w i there r g.
      add_run_gives (built t i) (start_of t.runs i) (goal_of t.runs i) (steps_of t i) r g ∙ accepted_each t w i there;
  the_task = together;
  run_asks = add_run_asks_nothing;
  put_together = λ t shaped start goal steps r g ok.
      let e = add_run_gives t start goal steps r g in
      subst (λ (x : TaskReply). WellFormed x.task) (sym e)
      (added_well t start goal steps shaped (sym (ap (λ (x : TaskReply). x.number) e) ∙ ok));
  loop = λ t w room o g ok r a well run there c k.
      let s = demand_two.given t w room o g ok in
      let list = ap wrote s.shown ∙ wrote_text s.list room in
      let valid = unlocked_valid r.task (s.cures r (subst (λ (l : List ℕ). ApplyGives t l r) list a)).1 in
      let checked = subst (λ (u : Task). CheckGives u run c) (together r.task well) k in
      (demand_two.nothing_open (unlocked_task r.task) (unlocked_well r.task well) run there c checked).1 (valid run there);
}

pub texts : Texts
texts = record { writing = writing; reading = reading; back_again = back_again }
