-- What a call of each function of the boundary gives, by the contract above the function and by nothing else, is what specs/Calls says.
-- What it gives, o, is the number returned (.0), the answer's words (.1) and what else was lent to be written: the room or the table
-- (.2); of zp_apply and zp_add_run the task's words (.2); of zp_edit the task's words (.2) and the table (.3). Assumes nothing.
use mathlib.Core.List.{List}
use Prim.Native.Nat.{ℕ}
use denote.MutBor.{MutBor}
use denote.Ref.{Bor}
use Rattle.table.proofs.ContractLaws.{call_keeps}
use Rattle.table.specs.Asks.{Call, AsksNothing}
use Rattle.boundary.proofs.zp_record.Reads as zp-record
use Rattle.boundary.proofs.zp_read.Reads as zp-read
use Rattle.boundary.proofs.zp_write.Reads as zp-write
use Rattle.boundary.proofs.zp_check.Reads as zp-check
use Rattle.boundary.proofs.zp_apply.Reads as zp-apply
use Rattle.boundary.proofs.zp_solve.Reads as zp-solve
use Rattle.boundary.proofs.zp_open.Reads as zp-open
use Rattle.boundary.proofs.zp_edit.Reads as zp-edit
use Rattle.boundary.proofs.zp_list.Reads as zp-list
use Rattle.boundary.proofs.zp_listing.Reads as zp-listing
use Rattle.boundary.proofs.texts.zp_write_domain.Reads as zp-write-domain
use Rattle.boundary.proofs.texts.zp_write_problem.Reads as zp-write-problem
use Rattle.boundary.proofs.texts.zp_read_domain.Reads as zp-read-domain
use Rattle.boundary.proofs.texts.zp_read_problem.Reads as zp-read-problem
use Rattle.boundary.proofs.texts.zp_add_run.Reads as zp-add-run
use Rattle.boundary.specs.BoundaryCalls.{HandsRecord, ReadsTask, WritesTask, ChecksRun, AppliesList, SolvesTask, OpensSession, EditsSession, ListsSession, ListsInput, WritesDomain, WritesProblem, HandsDomain, HandsProblem, AddsRun}

-- ---- the ways in which slices are lent

abbrev Lent : Type 0
Lent = Bor (List ℕ)

-- Lent to be written.
abbrev Written : Type 0
Written = MutBor (List ℕ)

-- One to be read, and the answer's words.
abbrev Reading : {K : Type 0} → (K → Lent × (Written × Unit {0}) → ℕ → Lent × (Written × Unit {0}) → Type 0) → List ℕ → List ℕ → ℕ × List ℕ → Type 0
Reading Post read answer =
    Call {I = List ℕ × List ℕ} {O = ℕ × List ℕ} Post (λ a. (a.0.now, a.1.0.now)) (λ r b. (r, b.1.0.now)) (read, answer)

-- The same with a number: a place of a file, a run of a task, the limit or the facts of a text.
abbrev ReadingAt : {K : Type 0} → (K → Lent × (ℕ × (Written × Unit {0})) → ℕ → Lent × (ℕ × (Written × Unit {0})) → Type 0)
    → List ℕ → ℕ → List ℕ → ℕ × List ℕ → Type 0
ReadingAt Post read at answer =
    Call {I = List ℕ × ℕ × List ℕ} {O = ℕ × List ℕ} Post (λ a. (a.0.now, a.1.0, a.1.1.0.now)) (λ r b. (r, b.1.1.0.now))
    (read, at, answer)

-- One to be read, one to be filled, and the answer's words.
abbrev Filling : {K : Type 0} → (K → Lent × (Written × (Written × Unit {0})) → ℕ → Lent × (Written × (Written × Unit {0})) → Type 0)
    → List ℕ → List ℕ → List ℕ → ℕ × List ℕ × List ℕ → Type 0
Filling Post read room answer =
    Call {I = List ℕ × List ℕ × List ℕ} {O = ℕ × List ℕ × List ℕ} Post (λ a. (a.0.now, a.1.0.now, a.1.1.0.now))
    (λ r b. (r, b.1.1.0.now, b.1.0.now)) (read, room, answer)

-- ---- each function

abbrev pub ZpRecordGives : List ℕ → ℕ → List ℕ → ℕ × List ℕ → Type 0
ZpRecordGives = ReadingAt zp-record.Post

pub zp_record_gives : (file : List ℕ) (at : ℕ) (answer : List ℕ) (o : ℕ × List ℕ) → ZpRecordGives file at answer o
    → HandsRecord file at answer o.1 o.0
zp_record_gives file at answer = call_keeps (λ i o. HandsRecord i.0 i.1 i.2 o.1 o.0) (λ k a r b p. p) (file, at, answer)

abbrev pub ZpReadGives : List ℕ → List ℕ → ℕ × List ℕ → Type 0
ZpReadGives = Reading zp-read.Post

pub zp_read_gives : (file answer : List ℕ) (o : ℕ × List ℕ) → ZpReadGives file answer o → ReadsTask file answer o.1 o.0
zp_read_gives file answer = call_keeps (λ i o. ReadsTask i.0 i.1 o.1 o.0) (λ k a r b p. p) (file, answer)

abbrev pub ZpCheckGives : List ℕ → ℕ → List ℕ → ℕ × List ℕ → Type 0
ZpCheckGives = ReadingAt zp-check.Post

pub zp_check_gives : (ws : List ℕ) (run : ℕ) (answer : List ℕ) (o : ℕ × List ℕ) → ZpCheckGives ws run answer o
    → ChecksRun ws run answer o.1 o.0
zp_check_gives ws run answer = call_keeps (λ i o. ChecksRun i.0 i.1 i.2 o.1 o.0) (λ k a r b p. p) (ws, run, answer)

abbrev pub ZpWriteGives : List ℕ → List ℕ → List ℕ → ℕ × List ℕ × List ℕ → Type 0
ZpWriteGives = Filling zp-write.Post

pub zp_write_gives : (ws room answer : List ℕ) (o : ℕ × List ℕ × List ℕ) → ZpWriteGives ws room answer o → WritesTask ws room o.2 answer o.1 o.0
zp_write_gives ws room answer = call_keeps (λ i o. WritesTask i.0 i.1 o.2 i.2 o.1 o.0) (λ k a r b p. p) (ws, room, answer)

abbrev pub ZpSolveGives : List ℕ → List ℕ → List ℕ → ℕ × List ℕ × List ℕ → Type 0
ZpSolveGives = Filling zp-solve.Post

pub zp_solve_gives : (ws room answer : List ℕ) (o : ℕ × List ℕ × List ℕ) → ZpSolveGives ws room answer o → SolvesTask ws room o.2 answer o.1 o.0
zp_solve_gives ws room answer = call_keeps (λ i o. SolvesTask i.0 i.1 o.2 i.2 o.1 o.0) (λ k a r b p. p) (ws, room, answer)

abbrev pub ZpOpenGives : List ℕ → List ℕ → List ℕ → ℕ × List ℕ × List ℕ → Type 0
ZpOpenGives = Filling zp-open.Post

pub zp_open_gives : (ws table answer : List ℕ) (o : ℕ × List ℕ × List ℕ) → ZpOpenGives ws table answer o → OpensSession ws table o.2 answer o.1 o.0
zp_open_gives ws table answer = call_keeps (λ i o. OpensSession i.0 i.1 o.2 i.2 o.1 o.0) (λ k a r b p. p) (ws, table, answer)

abbrev pub ZpListingGives : List ℕ → List ℕ → List ℕ → ℕ × List ℕ × List ℕ → Type 0
ZpListingGives = Filling zp-listing.Post

pub zp_listing_gives : (input room answer : List ℕ) (o : ℕ × List ℕ × List ℕ) → ZpListingGives input room answer o → ListsInput input room o.2 answer o.1 o.0
zp_listing_gives input room answer = call_keeps (λ i o. ListsInput i.0 i.1 o.2 i.2 o.1 o.0) (λ k a r b p. p) (input, room, answer)

abbrev pub ZpListGives : List ℕ → List ℕ → List ℕ → List ℕ → ℕ × List ℕ × List ℕ → Type 0
ZpListGives ws table room answer =
    Call {I = List ℕ × List ℕ × List ℕ × List ℕ} {O = ℕ × List ℕ × List ℕ} zp-list.Post
    (λ a. (a.0.now, a.1.0.now, a.1.1.0.now, a.1.1.1.0.now)) (λ r b. (r, b.1.1.1.0.now, b.1.1.0.now))
    (ws, table, room, answer)

pub zp_list_gives : (ws table room answer : List ℕ) (o : ℕ × List ℕ × List ℕ) → ZpListGives ws table room answer o
    → ListsSession ws table room o.2 answer o.1 o.0
zp_list_gives ws table room answer =
    call_keeps (λ i o. ListsSession i.0 i.1 i.2 o.2 i.3 o.1 o.0) (λ k a r b p. p) (ws, table, room, answer)

-- The task's words are lent in and out.
abbrev pub ZpApplyGives : List ℕ → List ℕ → List ℕ → ℕ × List ℕ × List ℕ → Type 0
ZpApplyGives ws list answer =
    Call {I = List ℕ × List ℕ × List ℕ} {O = ℕ × List ℕ × List ℕ} zp-apply.Post (λ a. (a.0.now, a.1.0.now, a.1.1.0.now))
    (λ r b. (r, b.1.1.0.now, b.0.now)) (ws, list, answer)

pub zp_apply_gives : (ws list answer : List ℕ) (o : ℕ × List ℕ × List ℕ) → ZpApplyGives ws list answer o
    → AppliesList ws o.2 list answer o.1 o.0
zp_apply_gives ws list answer = call_keeps (λ i o. AppliesList i.0 o.2 i.1 i.2 o.1 o.0) (λ k a r b p. p) (ws, list, answer)

abbrev pub ZpEditGives : List ℕ → ℕ → ℕ → ℕ → ℕ → List ℕ → List ℕ → ℕ × List ℕ × List ℕ × List ℕ → Type 0
ZpEditGives ws kind whose fact present table answer =
    Call {I = List ℕ × ℕ × ℕ × ℕ × ℕ × List ℕ × List ℕ} {O = ℕ × List ℕ × List ℕ × List ℕ} zp-edit.Post
    (λ a. (a.0.now, a.1.0, a.1.1.0, a.1.1.1.0, a.1.1.1.1.0, a.1.1.1.1.1.0.now, a.1.1.1.1.1.1.0.now))
    (λ r b. (r, b.1.1.1.1.1.1.0.now, b.0.now, b.1.1.1.1.1.0.now)) (ws, kind, whose, fact, present, table, answer)

pub zp_edit_gives : (ws : List ℕ) (kind whose fact present : ℕ) (table answer : List ℕ) (o : ℕ × List ℕ × List ℕ × List ℕ)
    → ZpEditGives ws kind whose fact present table answer o → EditsSession ws o.2 kind whose fact present table o.3 answer o.1 o.0
zp_edit_gives ws kind whose fact present table answer =
    call_keeps (λ i o. EditsSession i.0 o.2 i.1 i.2 i.3 i.4 i.5 o.3 i.6 o.1 o.0) (λ k a r b p. p)
    (ws, kind, whose, fact, present, table, answer)

-- ---- 02, request 4

abbrev pub ZpWriteDomainGives : List ℕ → List ℕ → List ℕ → ℕ × List ℕ × List ℕ → Type 0
ZpWriteDomainGives = Filling zp-write-domain.Post

pub zp_write_domain_gives : (ws room answer : List ℕ) (o : ℕ × List ℕ × List ℕ) → ZpWriteDomainGives ws room answer o
    → WritesDomain ws room o.2 answer o.1 o.0
zp_write_domain_gives ws room answer = call_keeps (λ i o. WritesDomain i.0 i.1 o.2 i.2 o.1 o.0) (λ k a r b p. p) (ws, room, answer)

abbrev pub ZpWriteProblemGives : List ℕ → ℕ → List ℕ → List ℕ → ℕ × List ℕ × List ℕ → Type 0
ZpWriteProblemGives ws run room answer =
    Call {I = List ℕ × ℕ × List ℕ × List ℕ} {O = ℕ × List ℕ × List ℕ} zp-write-problem.Post
    (λ a. (a.0.now, a.1.0, a.1.1.0.now, a.1.1.1.0.now)) (λ r b. (r, b.1.1.1.0.now, b.1.1.0.now))
    (ws, run, room, answer)

pub zp_write_problem_gives : (ws : List ℕ) (run : ℕ) (room answer : List ℕ) (o : ℕ × List ℕ × List ℕ)
    → ZpWriteProblemGives ws run room answer o → WritesProblem ws run room o.2 answer o.1 o.0
zp_write_problem_gives ws run room answer =
    call_keeps (λ i o. WritesProblem i.0 i.1 i.2 o.2 i.3 o.1 o.0) (λ k a r b p. p) (ws, run, room, answer)

abbrev pub ZpReadDomainGives : List ℕ → ℕ → List ℕ → ℕ × List ℕ → Type 0
ZpReadDomainGives = ReadingAt zp-read-domain.Post

pub zp_read_domain_gives : (text : List ℕ) (limit : ℕ) (answer : List ℕ) (o : ℕ × List ℕ) → ZpReadDomainGives text limit answer o
    → HandsDomain text limit answer o.1 o.0
zp_read_domain_gives text limit answer = call_keeps (λ i o. HandsDomain i.0 i.1 i.2 o.1 o.0) (λ k a r b p. p) (text, limit, answer)

abbrev pub ZpReadProblemGives : List ℕ → ℕ → List ℕ → ℕ × List ℕ → Type 0
ZpReadProblemGives = ReadingAt zp-read-problem.Post

pub zp_read_problem_gives : (text : List ℕ) (facts : ℕ) (answer : List ℕ) (o : ℕ × List ℕ) → ZpReadProblemGives text facts answer o
    → HandsProblem text facts answer o.1 o.0
zp_read_problem_gives text facts answer = call_keeps (λ i o. HandsProblem i.0 i.1 i.2 o.1 o.0) (λ k a r b p. p) (text, facts, answer)

abbrev pub ZpAddRunGives : List ℕ → ℕ → ℕ → List ℕ → List ℕ → ℕ × List ℕ × List ℕ → Type 0
ZpAddRunGives ws start goal steps answer =
    Call {I = List ℕ × ℕ × ℕ × List ℕ × List ℕ} {O = ℕ × List ℕ × List ℕ} zp-add-run.Post
    (λ a. (a.0.now, a.1.0, a.1.1.0, a.1.1.1.0.now, a.1.1.1.1.0.now))
    (λ r b. (r, b.1.1.1.1.0.now, b.0.now)) (ws, start, goal, steps, answer)

pub zp_add_run_gives : (ws : List ℕ) (start goal : ℕ) (steps answer : List ℕ) (o : ℕ × List ℕ × List ℕ)
    → ZpAddRunGives ws start goal steps answer o → AddsRun ws o.2 start goal steps answer o.1 o.0
zp_add_run_gives ws start goal steps answer =
    call_keeps (λ i o. AddsRun i.0 o.2 i.1 i.2 i.3 i.4 o.1 o.0) (λ k a r b p. p) (ws, start, goal, steps, answer)

-- ---- none asks anything of its caller

pub zp_record_asks_nothing : AsksNothing zp-record.Pre
zp_record_asks_nothing k a = tt

pub zp_read_asks_nothing : AsksNothing zp-read.Pre
zp_read_asks_nothing k a = tt

pub zp_write_asks_nothing : AsksNothing zp-write.Pre
zp_write_asks_nothing k a = tt

pub zp_check_asks_nothing : AsksNothing zp-check.Pre
zp_check_asks_nothing k a = tt

pub zp_apply_asks_nothing : AsksNothing zp-apply.Pre
zp_apply_asks_nothing k a = tt

pub zp_solve_asks_nothing : AsksNothing zp-solve.Pre
zp_solve_asks_nothing k a = tt

pub zp_open_asks_nothing : AsksNothing zp-open.Pre
zp_open_asks_nothing k a = tt

pub zp_edit_asks_nothing : AsksNothing zp-edit.Pre
zp_edit_asks_nothing k a = tt

pub zp_list_asks_nothing : AsksNothing zp-list.Pre
zp_list_asks_nothing k a = tt

pub zp_listing_asks_nothing : AsksNothing zp-listing.Pre
zp_listing_asks_nothing k a = tt

pub zp_write_domain_asks_nothing : AsksNothing zp-write-domain.Pre
zp_write_domain_asks_nothing k a = tt

pub zp_write_problem_asks_nothing : AsksNothing zp-write-problem.Pre
zp_write_problem_asks_nothing k a = tt

pub zp_read_domain_asks_nothing : AsksNothing zp-read-domain.Pre
zp_read_domain_asks_nothing k a = tt

pub zp_read_problem_asks_nothing : AsksNothing zp-read-problem.Pre
zp_read_problem_asks_nothing k a = tt

pub zp_add_run_asks_nothing : AsksNothing zp-add-run.Pre
zp_add_run_asks_nothing k a = tt
