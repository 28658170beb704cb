-- What a call of the record reader gives, by the contract above its function and by nothing else. Of a function over the thin struct
-- it is said twice: the clause above it IS the fact named here, in every world of the program logic (`.._says`), and a call, as far as
-- Rattle's plain claim of it tells (`Post`), keeps that fact (`.._gives`). Assumes nothing.
use mathlib.Core.List.{List}
use mathlib.Core.Path.{◌≡◌, refl}
use Prim.Native.Nat.{ℕ}
use seplogic.Ra.Ura.{Ura}
use base.Logic.{SProp}
use contract.Lifetimes.{Lfts}
use contract.Monad.{Fun, fact}
use contract.Notation.{connectives}
use denote.Ref.{Bor}
use types.Logic.{Logic}
use prog.Memory.{Memory}
use prog.Routine.{Routine}
use Rattle.table.proofs.ContractLaws.{call_keeps}
use Rattle.table.specs.Asks.{Call, AsksNothing}
use Rattle.records.specs.Records.{record_at, record_told, body_of}
use Rattle.records.specs.declared.record.RecordReply.{RecordReply}
use Rattle.recordreader.specs.contracts.Reader.body as body
use Rattle.recordreader.specs.contracts.Reader.moved_on as moved_on
use Rattle.recordreader.specs.contracts.Reader.new as new
use Rattle.recordreader.specs.contracts.Reader.next as next
use Rattle.recordreader.proofs.Reader.body.Reads as body-reads
use Rattle.recordreader.proofs.Reader.moved_on.Reads as moved_on-reads
use Rattle.recordreader.proofs.Reader.new.Reads as new-reads
use Rattle.recordreader.proofs.Reader.next.Reads as next-reads
use Rattle.recordreader.proofs.place_after.Reads as place_after
use Rattle.recordreader.specs.Places.{place_after}
use Rattle.recordreader.specs.declared.Reader.{Reader}

-- ---- the thin struct

-- A reader of this file gives r; the reader d gives its record f, its body b, and the reader at the next record, q.
abbrev pub NewGives : Bor (List ℕ) → Reader → Type 0
NewGives file r = (r.file ≡ file) × (r.at ≡ 0)

abbrev pub NextGives : Reader → RecordReply → Type 0
NextGives d f = f ≡ record_at d.file.now d.at

abbrev pub ReaderBodyGives : Reader → Bor (List ℕ) → Type 0
ReaderBodyGives d b = b.now ≡ body_of d.file.now d.at

abbrev pub MovedOnGives : Reader → Reader → Type 0
MovedOnGives d q = (q.file ≡ d.file) × (q.at ≡ place_after d.file.now d.at)

module _ {M : Type 1} {𝓤 : Ura M} (𝓛 : Logic 𝓤) (mem : Memory → SProp 𝓤) (run : Routine → Fun 𝓤) (κs : Lfts 1) where
  new_says : (a : _) (g : _) (r : _) (e : _) → (new.clauses 𝓛 mem run κs a).ensures g r e ≡ fact 𝓤 (NewGives a.0 r)
  new_says a g r e = refl

  next_says : (a : _) (g : _) (f : _) (e : _) → (next.clauses 𝓛 mem run κs a).ensures g f e ≡ fact 𝓤 (NextGives a.0 (record_told f))
  next_says a g f e = refl

  body_says : (a : _) (g : _) (b : _) (e : _) → (body.clauses 𝓛 mem run κs a).ensures g b e ≡ fact 𝓤 (ReaderBodyGives a.0 b)
  body_says a g b e = refl

  moved_on_says : (a : _) (g : _) (q : _) (e : _) → (moved_on.clauses 𝓛 mem run κs a).ensures g q e ≡ fact 𝓤 (MovedOnGives a.0 q)
  moved_on_says a g q e = refl

  -- none of them asks anything of its caller
  new_asks_nothing : (a : _) (g : _) → (new.clauses 𝓛 mem run κs a).requires g ≡ (connectives 𝓤).⊤ₛ
  new_asks_nothing a g = refl

  next_asks_nothing : (a : _) (g : _) → (next.clauses 𝓛 mem run κs a).requires g ≡ (connectives 𝓤).⊤ₛ
  next_asks_nothing a g = refl

  body_asks_nothing : (a : _) (g : _) → (body.clauses 𝓛 mem run κs a).requires g ≡ (connectives 𝓤).⊤ₛ
  body_asks_nothing a g = refl

  moved_on_asks_nothing : (a : _) (g : _) → (moved_on.clauses 𝓛 mem run κs a).requires g ≡ (connectives 𝓤).⊤ₛ
  moved_on_asks_nothing a g = refl

-- The same of a call, as its plain claim allows it.
pub new_gives : (file : Bor (List ℕ)) (r : Reader) → Call {I = Bor (List ℕ)} {O = Reader} new-reads.Post (λ a. a.0) (λ r b. r) file r → NewGives file r
new_gives file r = call_keeps NewGives (λ k a r b p. p) file r

pub next_gives : (d : Reader) (f : RecordReply) → Call {I = Reader} {O = RecordReply} next-reads.Post (λ a. a.0) (λ r b. record_told r) d f → NextGives d f
next_gives d f = call_keeps NextGives (λ k a r b p. p) d f

pub body_gives : (d : Reader) (b : Bor (List ℕ)) → Call {I = Reader} {O = Bor (List ℕ)} body-reads.Post (λ a. a.0) (λ r b. r) d b → ReaderBodyGives d b
body_gives d b = call_keeps ReaderBodyGives (λ k a r b p. p) d b

pub moved_on_gives : (d q : Reader) → Call {I = Reader} {O = Reader} moved_on-reads.Post (λ a. a.0) (λ r b. r) d q → MovedOnGives d q
moved_on_gives d q = call_keeps MovedOnGives (λ k a r b p. p) d q

pub new_asks_none : AsksNothing new-reads.Pre
new_asks_none k a = tt

pub next_asks_none : AsksNothing next-reads.Pre
next_asks_none k a = tt

pub body_asks_none : AsksNothing body-reads.Pre
body_asks_none k a = tt

pub moved_on_asks_none : AsksNothing moved_on-reads.Pre
moved_on_asks_none k a = tt

-- ---- the function on a plain slice

-- The place after the record at a place of the file s is given as n.
abbrev pub PlaceAfterGives : List ℕ → ℕ → ℕ → Type 0
PlaceAfterGives s at n = Call {I = List ℕ × ℕ} {O = ℕ} place_after.Post (λ a. (a.0.now, a.1.0)) (λ r b. r) (s, at) n

pub place_after_gives : (s : List ℕ) (at n : ℕ) → PlaceAfterGives s at n → n ≡ place_after s at
place_after_gives s at n = call_keeps (λ i n. n ≡ place_after i.0 i.1) (λ k a r b p. p) (s, at) n

pub place_after_asks_nothing : AsksNothing place_after.Pre
place_after_asks_nothing k a = tt
