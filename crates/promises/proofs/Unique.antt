-- "Two results that both satisfy it are shown equal" (document 01, "How tight the contracts are"): one theorem for each public call of the
-- library, over the contract above its function (`..Gives`: the crate's proofs/Called). A result is all that the call gives: number, place,
-- value, and the final content of what was lent. (The record reader and the boundary: UniqueBoundary.) Assumes nothing.
use mathlib.Core.List.{List}
use mathlib.Core.Path.{◌≡◌, sym, ◌∙◌}
use Prim.Native.Nat.{ℕ}
use Rattle.addrun.proofs.Called.{AddRunGives, add_run_gives}
use Rattle.addrun.specs.Adding.{run_added}
use Rattle.apply.proofs.ApplyLaws.{applies_unique}
use Rattle.apply.proofs.Called.{ApplyGives, apply_gives}
use Rattle.change.specs.declared.Edit.{Edit}
use Rattle.listing.proofs.Called.{ListingGives, listing_gives}
use Rattle.listing.proofs.Determined.{listing_unique}
use Rattle.pddl.proofs.ReadBack.{reads_domain_once, reads_problem_once}
use Rattle.pddlreader.proofs.Called.{ReadDomainGives, read_domain_gives, ReadProblemGives, read_problem_gives}
use Rattle.pddlwriter.proofs.Called.{WriteDomainGives, write_domain_gives, WriteProblemGives, write_problem_gives}
use Rattle.pddlwriter.specs.Writing.{domain_written, problem_written}
use Rattle.runcheck.proofs.Called.{CheckGives, check_gives}
use Rattle.runcheck.specs.OpenNeeds.{checked}
use Rattle.session.proofs.CallLaws.{opens_unique, edits_unique}
use Rattle.session.proofs.Called.{OpenGives, open_gives, EditGives, edit_gives, ListGives, list_gives}
use Rattle.session.specs.Calls.{Opens, Edits, listed}
use Rattle.table.specs.declared.TaskReply.{TaskReply}
use Rattle.solve.proofs.Called.{SolveGives, solve_gives}
use Rattle.solve.proofs.SolveLaws.{solve_unique}
use Rattle.table.proofs.Called.{FormedGives, formed_gives}
use Rattle.table.specs.Tasks.{formed}
use Rattle.table.specs.declared.Reply.{Reply}
use Rattle.table.specs.declared.Task.{Task}
use Rattle.records.proofs.Called.{RecordGives, record_gives, BodyGives, body_gives}
use Rattle.taskfile.proofs.Called.{ReadGives, read_gives}
use Rattle.taskformat.proofs.Unique.{reads_unique}
use Rattle.records.specs.Records.{record_at, body_of}
use Rattle.taskwriter.proofs.Called.{WriteGives, write_gives}
use Rattle.taskwriter.specs.Writing.{written}
use Rattle.promises.specs.Determined.{Determined}

-- What a call gives is what a definition says, and the definition allows one result.
pub one_given : {A : Type 0} {Gives Says : A → Type 0} → ((r : A) → Gives r → Says r) → Determined Says → Determined Gives
one_given gives determined r q a b = determined r q (gives r a) (gives q b)

-- Where the definition is an equation.
pub equation : {A : Type 0} (x : A) → Determined (λ (r : A). r ≡ x)
equation x r q e d = e ∙ sym d

-- Opening and an edit: the reply and the table afterwards, as one result.
pub open_determined : (t : Task) (s : List ℕ) → Determined (λ (o : Reply × List ℕ). Opens t s o.0 o.1)
open_determined t s r q a b = let same = opens_unique t s r.0 q.0 r.1 q.1 a b in λ i. (same.0 i, same.1 i)

pub edit_determined : (t : Task) (s : List ℕ) (e : Edit) → Determined (λ (o : TaskReply × List ℕ). Edits t s e o.0 o.1)
edit_determined t s e r q a b = let same = edits_unique t s e r.0 q.0 r.1 q.1 a b in λ i. (same.0 i, same.1 i)

-- is_formed
pub formed_unique : (t : Task) → Determined (FormedGives t)
formed_unique t = one_given (formed_gives t) (equation (formed t))

-- record_at: kind, body's place and length, next place. body_at: the bytes of the body, as that part of the file.
pub record_unique : (s : List ℕ) (at : ℕ) → Determined (RecordGives s at)
record_unique s at = one_given (record_gives s at) (equation (record_at s at))

pub body_unique : (s : List ℕ) (at : ℕ) → Determined (BodyGives s at)
body_unique s at = one_given (body_gives s at) (equation (body_of s at))

-- read
pub read_unique : (s : List ℕ) → Determined (ReadGives s)
read_unique s = one_given (read_gives s) (λ r q. reads_unique)

-- write: the reply, and the room afterwards
pub write_unique : (t : Task) (room : List ℕ) → Determined (WriteGives t room)
write_unique t room = one_given (write_gives t room) (equation (written t room))

-- check_run
pub check_unique : (t : Task) (run : ℕ) → Determined (CheckGives t run)
check_unique t run = one_given (check_gives t run) (equation (checked t run))

-- apply
pub apply_unique : (t : Task) (l : List ℕ) → Determined (ApplyGives t l)
apply_unique t l = one_given (apply_gives t l) (applies_unique t l)

-- solve: the reply, and the room afterwards
pub solved_unique : (t : Task) (room : List ℕ) → Determined (SolveGives t room)
solved_unique t room = one_given (solve_gives t room) (solve_unique t room)

-- open: the reply, and the table afterwards
pub open_unique : (t : Task) (s : List ℕ) → Determined (λ (o : Reply × List ℕ). OpenGives t s o.0 o.1)
open_unique t s = one_given (λ o. open_gives t s o.0 o.1) (open_determined t s)

-- edit: number, place and task, and the table afterwards
pub edit_unique : (t : Task) (s : List ℕ) (e : Edit) → Determined (λ (o : TaskReply × List ℕ). EditGives t s e o.0 o.1)
edit_unique t s e = one_given (λ o. edit_gives t s e o.0 o.1) (edit_determined t s e)

-- list: the reply, and the room afterwards
pub list_unique : (t : Task) (s room : List ℕ) → Determined (ListGives t s room)
list_unique t s room = one_given (list_gives t s room) (equation (listed t s room))

-- listing: the reply, and the room afterwards
pub listing_determined : (input room : List ℕ) → Determined (ListingGives input room)
listing_determined input room = one_given (listing_gives input room) (λ r q. listing_unique)

-- write_domain, write_problem: the reply, and the room afterwards
pub write_domain_unique : (t : Task) (room : List ℕ) → Determined (WriteDomainGives t room)
write_domain_unique t room = one_given (write_domain_gives t room) (equation (domain_written t room))

pub write_problem_unique : (t : Task) (run : ℕ) (room : List ℕ) → Determined (WriteProblemGives t run room)
write_problem_unique t run room = one_given (write_problem_gives t run room) (equation (problem_written t run room))

-- read_domain, read_problem
pub read_domain_unique : (s : List ℕ) (limit : ℕ) → Determined (ReadDomainGives s limit)
read_domain_unique s limit = one_given (read_domain_gives s limit) (λ r q. reads_domain_once)

pub read_problem_unique : (s : List ℕ) (facts : ℕ) → Determined (ReadProblemGives s facts)
read_problem_unique s facts = one_given (read_problem_gives s facts) (λ r q. reads_problem_once)

-- add_run
pub add_run_unique : (t : Task) (start goal : ℕ) (steps : List ℕ) → Determined (AddRunGives t start goal steps)
add_run_unique t start goal steps = one_given (add_run_gives t start goal steps) (equation (run_added t start goal steps))
