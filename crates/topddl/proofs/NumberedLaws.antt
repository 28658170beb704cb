-- What is printed lies in the room: a listing, and a text by its number, which is never refused. Assumes nothing.
use mathlib.Core.Bool.{true}
use mathlib.Core.List.{List, ◌++◌}
use mathlib.Core.Path.{◌≡◌, refl, sym, ap, ◌∙◌, subst}
use Prim.Native.Nat.{ℕ, zero, suc, ◌-◌, ◌≤◌}
use native.Mathlib.Omega.{arith}
use borrow.Author.Tests.{lt-ltb}
use lib.ListN.{length, drop, length-append}
use Rattle.std.specs.Prelude.{Result, is_ok}
use Rattle.listing.specs.Listing.{ListsInto}
use Rattle.pddl.proofs.TextLength.{domain_length, problem_most}
use Rattle.pddl.specs.Lengths.{longest_domain}
use Rattle.pddl.specs.Texts.{domain_text}
use Rattle.pddlwriter.specs.Writing.{domain_written, problem_of, problem_written}
use Rattle.table.proofs.AcceptedLaws.{reply_ok}
use Rattle.table.proofs.Formation.{well_formed}
use Rattle.table.proofs.OutcomeLaws.{given_cases, given_fits}
use Rattle.table.specs.Outcomes.{Outcome, answered, given, reply_of}
use Rattle.table.specs.Tasks.{start_of, goal_of, WellFormed}
use Rattle.table.specs.declared.Task.{Task}
use Rattle.table.specs.declared.refusals.Refusal.{Refusal}
use Rattle.topddl.specs.Numbered.{numbered, numbered_written, Holds}

-- ---- a listing: what is told to have been written lies in the room

abbrev Inside : Outcome → Type 0
Inside o = o.reply.length ≤ length o.room

given_inside : (l room : List ℕ) → Inside (given l room)
given_inside l room =
    given_cases l room Inside (λ short. omega arith) (λ fits. omega (arith, length-append l (drop (length l) room)))

pub listing_inside : {input room : List ℕ} {o : Outcome} → ListsInto input room o → Inside o
listing_inside {room = room} a = subst Inside (sym a.outcome) (given_inside a.text room)

module _ (t : Task) (room : List ℕ) where
  -- ---- the two ways of writing a text

  pub first_written : (n : ℕ) (o : Outcome) → n ≡ 0 → o ≡ domain_written t room → o ≡ numbered_written t n room
  unfolding numbered_written
  first_written n o z e = rw z e

  pub further_written : (n : ℕ) (o : Outcome) → (n ≡ 0 → ⊥) → o ≡ problem_written t (n - 1) room → o ≡ numbered_written t n room
  unfolding numbered_written
  further_written zero o some e = absurd (some refl)
  further_written (suc i) o some e = let is : suc i - 1 ≡ i = omega arith in e ∙ ap (λ (j : ℕ). problem_written t j room) is

  -- ---- room for the longest domain text is enough for every text

  always_written : WellFormed t → longest_domain ≤ length room → (n : ℕ) → n ≤ t.runs.many
      → numbered_written t n room ≡ answered (numbered t n) room
  unfolding numbered numbered_written domain_written problem_written
  always_written w fits zero low = rw (well_formed t w) (given_fits (domain_text t.table) room (omega (arith, domain_length t w)))
  always_written w fits (suc i) low =
      rw (well_formed t w, lt-ltb i t.runs.many low)
      (given_fits (problem_of t i) room
      (omega (arith, problem_most t.table.facts (start_of t.runs i) (goal_of t.runs i) w.facts_high)))

  pub written_ok : (n : ℕ) (r : Result ℕ Refusal) (after : List ℕ) → WellFormed t → longest_domain ≤ length room → n ≤ t.runs.many
      → ◌≡◌ {A = Outcome} (record { reply = reply_of r; room = after }) (numbered_written t n room) → is_ok r ≡ true
  written_ok n r after w fits low e = reply_ok r (ap (λ (p : Outcome). p.reply.number) (e ∙ always_written w fits n low))

  pub holds : (n : ℕ) (o : Outcome) → WellFormed t → longest_domain ≤ length room → n ≤ t.runs.many → o ≡ numbered_written t n room
      → Holds t n room o.reply.length o.room
  holds n o w fits low e =
      let is = e ∙ always_written w fits n low in
      let size : o.reply.length ≡ length (numbered t n) = ap (λ (p : Outcome). p.reply.length) is in
      record {
        length_is = size;
        room_is = ap (λ (p : Outcome). p.room) is ∙ ap (λ (k : ℕ). numbered t n ++ drop k room) (sym size);
      }

-- What is held lies in the room.
pub holds_inside : {t : Task} {n r : ℕ} {room after : List ℕ} → Holds t n room r after → r ≤ length after
holds_inside {t} {n} {r} {room} {after} h =
    let e = ap length h.room_is in
    omega (arith, h.length_is, length-append (numbered t n) (drop r room))
