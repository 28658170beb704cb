-- What the input comes to where it is accepted: the repaired table, well formed, with every run valid. Assumes nothing.
use mathlib.Core.List.{List}
use mathlib.Core.Logic.{◌↔◌}
use mathlib.Core.Path.{◌≡◌, sym, ap, ◌∙◌, subst}
use Prim.Native.Nat.{ℕ, ◌≤◌}
use native.Mathlib.Omega.{arith}
use lib.ListN.{length, take, drop}
use lib.Seq.{take-append_seam}
use Rattle.apply.proofs.ApplyLaws.{permitted_accepted, applied_well, applied_valid}
use Rattle.apply.specs.Applying.{Applies}
use Rattle.listing.specs.Listing.{answer_room}
use Rattle.solve.specs.Solving.{told, Solves}
use Rattle.table.proofs.Formation.{well_formed}
use Rattle.table.proofs.OutcomeLaws.{given_cases}
use Rattle.table.specs.Answer.{First, Verdict, found, over, hopeless, Within}
use Rattle.table.specs.Outcomes.{Outcome}
use Rattle.table.specs.Refusals.{accepted}
use Rattle.table.specs.Tasks.{WorksFor, WellFormed}
use Rattle.table.specs.declared.Task.{Task}
use Rattle.table.specs.declared.TaskReply.{TaskReply}
use Rattle.taskformat.proofs.AcceptedIsFile.{accepted_file}
use Rattle.taskformat.proofs.FilesAreTasks.{cut_decides}
use Rattle.taskformat.specs.Lengths.{program_room}
use Rattle.taskformat.specs.Reading.{ReadsFile}
use Rattle.topddl.specs.Repairing.{list_in, Repairs, unread, unsolved, solved, Repaired}

-- ---- the list of a solve that was accepted

-- It is the answer, within the limit.
record Given (t : Task) (l : List ℕ) : Type 0 where
  answer : First (WorksFor t) l
  within : length l ≤ t.table.limit

told_list : (t : Task) (room : List ℕ) (o : Outcome) (v : Verdict) → Within (WorksFor t) t.table.limit v → o ≡ told v room
    → o.reply.number ≡ accepted → Given t (list_in o)
unfolding told
told_list t room o (found l) p e ok =
    given_cases l room (λ u. o ≡ u → Given t (list_in o)) (λ short d. absurd (omega (arith, ap (λ (q : Outcome). q.reply.number) d)))
    (λ fits d.
    let is : l ≡ list_in o = sym (ap list_in d ∙ take-append_seam l (drop (length l) room)) in
    subst (λ (m : List ℕ). Given t m) is (record { answer = p.0; within = p.1 })) e
told_list t room o over p e ok = absurd (omega (arith, ap (λ (q : Outcome). q.reply.number) e))
told_list t room o hopeless p e ok = absurd (omega (arith, ap (λ (q : Outcome). q.reply.number) e))

module _ (t : Task) (w : WellFormed t) (room : List ℕ) (o : Outcome) (s : Solves t room o) (ok : o.reply.number ≡ accepted) where
  given_list : Given t (list_in o)
  given_list = let v = s.verdict (well_formed t w) in told_list t room o v.0 v.1 v.2 ok

  -- Applying it is never refused.
  list_taken : (r : TaskReply) → Applies t (list_in o) r → r.number ≡ accepted
  list_taken r a = permitted_accepted t w (list_in o) given_list.answer.member.permitted r a

-- ---- what the input comes to

-- A list that was given and applied.
pub repairs_solved : {input : List ℕ} {read r : TaskReply} {o : Outcome} → ReadsFile input read → read.number ≡ accepted
    → Solves read.task answer_room o → o.reply.number ≡ accepted → Applies read.task (list_in o) r → Repairs input r
repairs_solved {read = read} {r = r} {o = o} reads fine solves got a =
    solved read o reads fine solves got a (list_taken read.task (accepted_file reads fine).0 answer_room o solves got r a)

pub repairs_repaired : {input : List ℕ} {r : TaskReply} → Repairs input r → r.number ≡ accepted → Repaired input r.task
repairs_repaired (unread reads bad) ok = absurd (bad ok)
repairs_repaired (unsolved read o reads fine solves bad e) ok = absurd (bad (sym (ap (λ (q : TaskReply). q.number) e) ∙ ok))
repairs_repaired {r = r} (solved read o reads fine solves got a taken) ok =
    let file = accepted_file reads fine in
    let g = given_list read.task file.0 answer_room o solves got in
    let is = a.applied ok in
    record {
      task = read.task;
      file = file.1;
      list = list_in o;
      answer = g.answer;
      within = g.within;
      applied = is;
      well = applied_well read.task (list_in o) r.task file.0 g.answer.member.permitted is;
      valid = applied_valid read.task (list_in o) r.task is g.answer.member;
    }

-- The first 28,000 bytes decide it: "later bytes can't alter its answer" (document 01, "The listing").
alike : {s other : List ℕ} → ((r : TaskReply) → ReadsFile s r → ReadsFile other r) → {r : TaskReply} → Repairs s r → Repairs other r
alike same {r} (unread reads bad) = unread (same r reads) bad
alike same (unsolved read o reads fine solves bad e) = unsolved read o (same read reads) fine solves bad e
alike same (solved read o reads fine solves got a taken) = solved read o (same read reads) fine solves got a taken

pub repairs_cut : (s : List ℕ) (r : TaskReply) → Repairs (take program_room s) r ↔ Repairs s r
repairs_cut s r = (alike (λ q. (cut_decides s q).0), alike (λ q. (cut_decides s q).1))
