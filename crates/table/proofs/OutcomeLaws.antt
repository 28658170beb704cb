-- Laws of what is given into lent room: 11 where it is too short, else the result; nothing is written by a refusal.
use mathlib.Core.List.{List, ◌++◌}
use mathlib.Core.Path.{◌≡◌, refl, sym, ◌∙◌}
use Prim.Native.Nat.{ℕ, ◌<◌, ◌≤◌}
use native.Mathlib.Omega.{arith}
use borrow.Author.Tests.{lt-ltb, le-ltb, ltb-true, ltb-false}
use lib.Dec.{ltb}
use lib.ListN.{length, drop}
use Rattle.table.proofs.FlagLaws.{cond_by}
use Rattle.table.specs.Outcomes.{Outcome, refusal, refused, answered, given}
use Rattle.table.specs.Refusals.{accepted, room_too_short}
use Rattle.table.specs.declared.Reply.{Reply}

-- A refusal's reply, with the room as it was.
pub refused_told : (k : ℕ) (r : Reply) (room : List ℕ) (o : Outcome) → r ≡ refusal k → o ≡ refused k room
    → ◌≡◌ {A = Outcome} (record { reply = r; room = room }) o
refused_told k r room o e d = (λ j. record { reply = e j; room = room }) ∙ sym d

module _ (l room : List ℕ) where
  pub given_short : length room < length l → given l room ≡ refused room_too_short room
  unfolding given
  given_short h = rw (lt-ltb (length room) (length l) h)

  pub given_fits : length l ≤ length room → given l room ≡ answered l room
  unfolding given
  given_fits h = rw (le-ltb (length room) (length l) h)

  -- The same, of what a call left that wrote the result.
  pub given_whole : (after : List ℕ) (n : ℕ) → length l ≤ length room → n ≡ length l → after ≡ l ++ drop (length l) room
      → ◌≡◌ {A = Outcome} (record { reply = record { number = accepted; place = 0; length = n }; room = after }) (given l room)
  given_whole after n h e d = (λ j. record { reply = record { number = accepted; place = 0; length = e j }; room = d j }) ∙ sym (given_fits h)

  -- What is given is one of the two.
  pub given_cases : (C : Outcome → Type 0) → (length room < length l → C (refused room_too_short room))
      → (length l ≤ length room → C (answered l room)) → C (given l room)
  unfolding given
  given_cases C short fits =
      cond_by C (ltb (length room) (length l))
      (λ e. short (ltb-true (length room) (length l) e)) (λ e. fits (ltb-false (length room) (length l) e))

  -- What is told to have been written lies in the room.
  pub given_within : (given l room).reply.length ≤ length room
  given_within = given_cases (λ o. o.reply.length ≤ length room) (λ h. omega arith) (λ h. h)

  -- A refusal leaves the room as it was.
  pub given_keeps : ((given l room).reply.number ≡ accepted → ⊥) → (given l room).room ≡ room
  given_keeps =
      given_cases (λ o. (o.reply.number ≡ accepted → ⊥) → o.room ≡ room) (λ h nonzero. refl) (λ h nonzero. absurd (nonzero refl))
