-- What a call of `read_domain` or of `read_problem` gives, by the contract above the function and by nothing else, is what specs/Readings
-- (pddl) says. Assumes nothing.
use mathlib.Core.List.{List}
use Prim.Native.Nat.{ℕ}
use Rattle.table.proofs.ContractLaws.{call_keeps}
use Rattle.table.specs.Asks.{Call, AsksNothing}
use Rattle.table.specs.Outcomes.{read_of}
use Rattle.table.specs.declared.TaskReply.{TaskReply}
use Rattle.pddl.specs.Readings.{ReadsDomain, ReadsProblem, problem_told}
use Rattle.pddl.specs.declared.ProblemReply.{ProblemReply}
use Rattle.pddlreader.proofs.read_domain.Reads as read-domain
use Rattle.pddlreader.proofs.read_problem.Reads as read-problem

-- Reading the text s as a domain, with this limit beside it, gives r.
abbrev pub ReadDomainGives : List ℕ → ℕ → TaskReply → Type 0
ReadDomainGives s limit r =
    Call {I = List ℕ × ℕ} {O = TaskReply} read-domain.Post (λ a. (a.0.now, a.1.0)) (λ r b. read_of r) (s, limit) r

pub read_domain_gives : (s : List ℕ) (limit : ℕ) (r : TaskReply) → ReadDomainGives s limit r → ReadsDomain s limit r
read_domain_gives s limit r = call_keeps (λ i r. ReadsDomain i.0 i.1 r) (λ k a r b p. p) (s, limit) r

pub read_domain_asks_nothing : AsksNothing read-domain.Pre
read_domain_asks_nothing k a = tt

-- Reading the text s as a problem over so many facts gives r.
abbrev pub ReadProblemGives : List ℕ → ℕ → ProblemReply → Type 0
ReadProblemGives s facts r =
    Call {I = List ℕ × ℕ} {O = ProblemReply} read-problem.Post (λ a. (a.0.now, a.1.0)) (λ r b. problem_told r) (s, facts) r

pub read_problem_gives : (s : List ℕ) (facts : ℕ) (r : ProblemReply) → ReadProblemGives s facts r → ReadsProblem s facts r
read_problem_gives s facts r = call_keeps (λ i r. ReadsProblem i.0 i.1 r) (λ k a r b p. p) (s, facts) r

pub read_problem_asks_nothing : AsksNothing read-problem.Pre
read_problem_asks_nothing k a = tt
