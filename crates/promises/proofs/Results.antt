-- The calls give results, and the contracts above them speak of these in 01's numbers. Nothing is lost by that: the numbers tell the
-- result. So of two results that both satisfy a contract the theorems of Unique say that they are one. Assumes nothing.
use mathlib.Core.List.{List, [], ◌∷◌}
use mathlib.Core.Path.{◌≡◌, refl, sym, ap, ◌∙◌}
use Prim.Native.Nat.{ℕ, ◌-◌}
use lib.ListN.{get_or}
use Rattle.std.specs.Prelude.{Result, Ok, Err, MatchResult}
use Rattle.pddl.specs.Readings.{problem_told}
use Rattle.promises.specs.Determined.{Determined, Tells}
use Rattle.records.specs.Kinds.{kind_number}
use Rattle.records.specs.Records.{record_told}
use Rattle.records.specs.declared.kinds.Kind.{Kind}
use Rattle.records.specs.declared.kinds.Kind.TheVariants.{Sizes, Start, Goal, Need, Add, Delete, Step, End, Run, Lock}
use Rattle.runcheck.specs.OpenNeeds.{checked_of}
use Rattle.table.proofs.WhyLaws.{number_tells, number_some}
use Rattle.table.specs.Outcomes.{Outcome, reply_of, read_of, made_of}
use Rattle.table.specs.Refusals.{accepted, number_of}
use Rattle.table.specs.declared.Task.{Task}
use Rattle.table.specs.declared.refusals.Refusal.{Refusal}
use Rattle.table.specs.declared.refusals.Returned.{Returned}

-- Where the numbers that a call gives are determined, so is its result.
pub result_determined : {R N : Type 0} {told : R → N} {Gives : N → Type 0} → Tells told → Determined Gives → Determined (λ (r : R). Gives (told r))
result_determined tells one r q a b = tells r q (one _ _ a b)

-- The same with what was lent to be written, as it is afterwards.
pub beside : {R N L : Type 0} {told : R → N} → Tells told → Tells {R = R × L} {N = N × L} (λ o. (told o.0, o.1))
beside tells r q e = let same = tells r.0 q.0 (λ i. (e i).0) in λ i. (same i, (e i).1)

-- A value is told with the number 0, and no refusal is; where each is told apart from its like, so is every result.
module _ {V E N : Type 0} (told : Result V E → N) (number : N → ℕ) (value : N → V) (taken : (v : V) → number (told (Ok v)) ≡ accepted)
    (given : (v : V) → value (told (Ok v)) ≡ v) (refused : (e : E) → number (told (Err e)) ≡ accepted → ⊥)
    (apart : (e d : E) → told (Err e) ≡ told (Err d) → e ≡ d) where
  by_number : Tells told
  by_number (Ok v) (Ok w) e = ap Ok (sym (given v) ∙ ap value e ∙ given w)
  by_number (Ok v) (Err d) e = absurd (refused d (sym (ap number e) ∙ taken v))
  by_number (Err d) (Ok v) e = absurd (refused d (ap number e ∙ taken v))
  by_number (Err e) (Err d) h = ap Err (apart e d h)

refusal_apart : (e d : Refusal) → number_of e.why ≡ number_of d.why → e.place ≡ d.place → e ≡ d
refusal_apart e d h p = let why = number_tells e.why d.why h in λ i. record { why = why i; place = p i }

returned_apart : (e d : Returned) → number_of e.refusal.why ≡ number_of d.refusal.why → e.refusal.place ≡ d.refusal.place → e.task ≡ d.task → e ≡ d
returned_apart e d h p t = let refusal = refusal_apart e.refusal d.refusal h p in λ i. record { refusal = refusal i; task = t i }

abbrev outcome : Result ℕ Refusal → List ℕ → Outcome
outcome r room = record { reply = reply_of r; room = room }

-- The kinds of record in the order of their numbers, from 1 on.
abbrev kind_of : ℕ → Kind
kind_of n = get_or (Sizes ∷ Start ∷ Goal ∷ Need ∷ Add ∷ Delete ∷ Step ∷ End ∷ Run ∷ Lock ∷ []) (n - 1) Sizes

kind_of_number : (k : Kind) → kind_of (kind_number k) ≡ k
kind_of_number Sizes = refl
kind_of_number Start = refl
kind_of_number Goal = refl
kind_of_number Need = refl
kind_of_number Add = refl
kind_of_number Delete = refl
kind_of_number Step = refl
kind_of_number End = refl
kind_of_number Run = refl
kind_of_number Lock = refl

-- open; solve, write, list, listing, write_domain, write_problem, with the room; read, read_domain; apply, edit, add_run; check_run; record_at;
-- read_problem
pub record NumbersTell : Type 0 where
  pub reply : Tells reply_of
  pub outcome : Tells (λ (o : Result ℕ Refusal × List ℕ). outcome o.0 o.1)
  pub read : Tells read_of
  pub made : Tells made_of
  pub checked : Tells checked_of
  pub recorded : Tells record_told
  pub problem : Tells problem_told

reply_tells : Tells reply_of
reply_tells =
    by_number reply_of (λ y. y.number) (λ y. y.length) (λ v. refl) (λ v. refl) (λ e. number_some e.why)
    (λ e d h. refusal_apart e d (ap (λ y. y.number) h) (ap (λ y. y.place) h))

pub numbers_tell : NumbersTell
numbers_tell = record {
  reply = reply_tells;
  outcome = λ r q e. beside reply_tells r q (λ i. ((e i).reply, (e i).room));
  read =
      by_number read_of (λ y. y.number) (λ y. y.task) (λ v. refl) (λ v. refl) (λ e. number_some e.why)
      (λ e d h. refusal_apart e d (ap (λ y. y.number) h) (ap (λ y. y.place) h));
  made =
      by_number made_of (λ y. y.number) (λ y. y.task) (λ v. refl) (λ v. refl) (λ e. number_some e.refusal.why)
      (λ e d h. returned_apart e d (ap (λ y. y.number) h) (ap (λ y. y.place) h) (ap (λ y. y.task) h));
  checked =
      by_number checked_of (λ y. y.number) (λ y. record { total = y.total; step = y.step; fact = y.fact }) (λ v. refl) (λ v. refl)
      (λ e. number_some e.why) (λ e d h. refusal_apart e d (ap (λ y. y.number) h) (ap (λ y. y.place) h));
  recorded =
      by_number record_told (λ y. y.number)
      (λ y. record { kind = kind_of y.kind; start = y.start; length = y.length; next = y.next }) (λ v. refl)
      (λ v i. record { kind = kind_of_number v.kind i; start = v.start; length = v.length; next = v.next }) (λ e. number_some e.why)
      (λ e d h. refusal_apart e d (ap (λ y. y.number) h) (ap (λ y. y.place) h));
  problem =
      by_number problem_told (λ y. y.number) (λ y. record { start = y.start; goal = y.goal }) (λ v. refl) (λ v. refl)
      (λ e. number_some e.why) (λ e d h. refusal_apart e d (ap (λ y. y.number) h) (ap (λ y. y.place) h));
}

-- The task that a call leaves: the one made, and on a refusal the one returned.
pub task_left : (r : Result Task Returned) (left : Task) {Left : Returned → Type 0} → ((e : Returned) → Left e → left ≡ e.task)
    → MatchResult r (λ t. left ≡ t) Left → left ≡ (made_of r).task
task_left (Ok t) left returned h = h
task_left (Err e) left returned h = returned e h
