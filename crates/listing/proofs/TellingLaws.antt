-- What is told of the text into lent room, and that reading, checking, solving and telling are the listing. Assumes nothing.
use mathlib.Core.Bool.{Bool, true, false}
use mathlib.Core.List.{List}
use mathlib.Core.Path.{◌≡◌, refl, ap}
use Prim.Native.Nat.{ℕ, ◌≤◌}
use native.Mathlib.Omega.{arith}
use lib.ListN.{length}
use Rattle.table.specs.Answer.{Verdict, found, over, hopeless}
use Rattle.table.specs.Refusals.{accepted}
use Rattle.table.specs.Sizes.{max_runs}
use Rattle.table.specs.Tasks.{formed, WellFormed}
use Rattle.table.specs.declared.Task.{Task}
use Rattle.table.specs.declared.TaskReply.{TaskReply}
use Rattle.table.specs.Outcomes.{Outcome, given}
use Rattle.table.proofs.OutcomeLaws.{given_within}
use Rattle.runcheck.specs.OpenNeeds.{checked}
use Rattle.runcheck.specs.declared.Checked.{Checked}
use Rattle.solve.specs.Solving.{told, Solves}
use Rattle.taskformat.specs.Reading.{Seen, Reads, ReadsFile, faulty, good, ended, trailing}
use Rattle.taskformat.proofs.AcceptedIsFile.{accepted_file}
use Rattle.text.specs.Text.{check_in, text_of}
use Rattle.text.proofs.TextLaws.{text_same}
use Rattle.listing.specs.Listing.{answer_room, ChecksRuns, ListsInto}

-- What is told to have been written lies in the room.
pub solved_fits : {t : Task} {room : List ℕ} {o : Outcome} → Solves t room o → o.reply.length ≤ length room
unfolding told
solved_fits {t} {room} {o} s = pick (formed t) refl
  where
    tells : (v : Verdict) → (told v room).reply.length ≤ length room
    tells (found l) = given_within l room
    tells over = omega arith
    tells hopeless = omega arith

    pick : (b : Bool) → formed t ≡ b → o.reply.length ≤ length room
    pick false h = rw (s.malformed h) (omega arith)
    pick true h = let v = s.verdict h in rw v.2 (tells v.0)

-- A file that was accepted is that of a well-formed task.
pub read_formed : {input : List ℕ} {r : TaskReply} → ReadsFile input r → r.number ≡ accepted → WellFormed r.task
read_formed reads ok = (accepted_file reads ok).0

-- A read task has at most eight runs: that of a refused file has none.
few : {input : List ℕ} {r : TaskReply} {at : ℕ} {seen : Seen} → Reads input r at seen → (r.number ≡ accepted → r.task.runs.many ≤ max_runs)
    → r.task.runs.many ≤ max_runs
few (faulty f e) ok = omega (arith, ap (λ (q : TaskReply). q.task.runs.many) e)
few (good c more rest) ok = few rest ok
few (ended c is last e) ok = ok (ap (λ (q : TaskReply). q.number) e)
few (trailing c is more e) ok = omega (arith, ap (λ (q : TaskReply). q.task.runs.many) e)

pub read_few : {input : List ℕ} {r : TaskReply} → ReadsFile input r → r.task.runs.many ≤ max_runs
read_few reads = few reads (λ ok. (read_formed reads ok).many_high)

-- Reading, checking, solving and telling are the listing.
pub listed : {input room : List ℕ} {o out : Outcome} (r : TaskReply) (checks : List Checked) → ReadsFile input r → ChecksRuns r.task checks
    → Solves r.task answer_room o → out ≡ given (text_of r (check_in checks) o) room → ListsInto input room out
listed {input} {room} {o} {out} r checks reads each solves g = record {
  text = text_of r (check_in checks) o;
  lists = record {
    read = r;
    reads = reads;
    solved = o;
    solves = solves;
    text_is =
        text_same r (check_in checks) (checked r.task) o
        (λ ok. each);
  };
  outcome = g;
}
