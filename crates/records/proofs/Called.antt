-- What a call of `record_at` or `body_at` gives, by the contract above the function and by nothing else, is what specs/Records says.
-- Assumes nothing.
use mathlib.Core.List.{List}
use mathlib.Core.Path.{◌≡◌}
use Prim.Native.Nat.{ℕ}
use Rattle.table.proofs.ContractLaws.{call_keeps}
use Rattle.table.specs.Asks.{Call, AsksNothing}
use Rattle.records.proofs.record.record_at.Reads as record-at
use Rattle.records.proofs.record.body_at.Reads as body_at
use Rattle.records.specs.Records.{record_at, record_told, body_of}
use Rattle.records.specs.declared.record.RecordReply.{RecordReply}

-- The record of the file s at a place is given as r; its body as the bytes b, wherever they stand.
abbrev pub RecordGives : List ℕ → ℕ → RecordReply → Type 0
RecordGives s at r = Call {I = List ℕ × ℕ} {O = RecordReply} record-at.Post (λ a. (a.0.now, a.1.0)) (λ r b. record_told r) (s, at) r

pub record_gives : (s : List ℕ) (at : ℕ) (r : RecordReply) → RecordGives s at r → r ≡ record_at s at
record_gives s at r = call_keeps (λ i r. r ≡ record_at i.0 i.1) (λ k a r b p. p) (s, at) r

abbrev pub BodyGives : List ℕ → ℕ → List ℕ → Type 0
BodyGives s at b = Call {I = List ℕ × ℕ} {O = List ℕ} body_at.Post (λ a. (a.0.now, a.1.0)) (λ r b. r.now) (s, at) b

pub body_gives : (s : List ℕ) (at : ℕ) (b : List ℕ) → BodyGives s at b → b ≡ body_of s at
body_gives s at b = call_keeps (λ i b. b ≡ body_of i.0 i.1) (λ k a r b p. p) (s, at) b

pub record_asks_nothing : AsksNothing record-at.Pre
record_asks_nothing k a = tt

pub body_asks_nothing : AsksNothing body_at.Pre
body_asks_nothing k a = tt
