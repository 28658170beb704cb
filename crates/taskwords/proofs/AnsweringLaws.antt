-- The one rule of the room for an answer: too short, and nothing is touched; else the words are placed.
use mathlib.Core.Bool.{Bool, true, false}
use mathlib.Core.List.{List, ◌++◌}
use mathlib.Core.Path.{◌≡◌, refl, ◌∙◌, ap, sym}
use Prim.Native.Nat.{ℕ, ◌≤◌, ◌<◌}
use native.Mathlib.Omega.{arith}
use borrow.Author.Tests.{ltb-true, ltb-false}
use lib.Dec.{ltb}
use lib.ListN.{length, get_or, drop}
use Rattle.room.proofs.PlacingLaws.{placed_whole}
use Rattle.table.proofs.FlagLaws.{by_order}
use Rattle.table.specs.Refusals.{accepted}
use Rattle.taskwords.specs.Answers.{answer_too_short, Given, Answers}

module _ {n : ℕ} {Untouched : Type 0} {Due : List ℕ → Type 0} where
  pub answers_short : {room : List ℕ} → length room < n → Untouched → Answers n Untouched Due room room answer_too_short
  answers_short h untouched = record { short = λ less. (refl, refl, untouched); given = λ enough. absurd (omega arith) }

  pub answers_given : {before after : List ℕ} {r : ℕ} (words : List ℕ) → n ≤ length before → Due words
      → Given n words before after r → Answers n Untouched Due before after r
  answers_given {before} {after} {r} words h told g = record {
    short = λ less. absurd (omega arith);
    given = λ enough.
        let fits : length words ≤ length before = omega (arith, g.size) in
        (words, g.size, told, g.number, rw g.size at (placed_whole (record { next_is = refl; room_is = g.room_is }) fits));
  }

  -- Where the call was refused, or not made: what follows of either way.
  pub answers_refused : {Follows : Type 0} {before after : List ℕ} {r : ℕ} → Answers n Untouched Due before after r → (r ≡ accepted → ⊥)
      → (Untouched → Follows) → ((words : List ℕ) → Due words → (get_or words 0 0 ≡ accepted → ⊥) → Follows) → Follows
  answers_refused {before = before} a refused short made =
      by_order (length before) n (λ h. short (a.short h).2)
      (λ h.
      let x = a.given h in
      made x.0 x.2 (λ e. refused (x.3 ∙ e)))

  -- Where the call was made, and only these words are told.
  pub answers_said : {before after : List ℕ} {r : ℕ} → Answers n Untouched Due before after r → n ≤ length before → (said : List ℕ)
      → ((words : List ℕ) → Due words → words ≡ said) → (r ≡ get_or said 0 0) × (after ≡ said ++ drop n before)
  answers_said {before = before} a h said only =
      let x = a.given h in
      let e = only x.0 x.2 in
      (x.3 ∙ ap (λ w. get_or w 0 0) e, x.4 ∙ ap (λ w. w ++ drop n before) e)

-- Where what is kept and what is told are each met in one way only, so is all that a call gives: the number returned,
-- every word of the answer's room, and what else was lent (which `Kept` and `Due` are about).
module _
    {Lent : Type 0} (n : ℕ) (Kept : Lent → Type 0) (Due : Lent → List ℕ → Type 0) (before : List ℕ)
    (kept : (l m : Lent) → Kept l → Kept m → l ≡ m)
    (told : (l m : Lent) (u v : List ℕ) → Due l u → Due m v → (l ≡ m) × (u ≡ v))
    (l m : Lent) (after other : List ℕ) (r q : ℕ)
    (a : Answers n (Kept l) (Due l) before after r)
    (b : Answers n (Kept m) (Due m) before other q) where
  one_by_length : (short : Bool) → ltb (length before) n ≡ short → (r ≡ q) × (after ≡ other) × (l ≡ m)
  one_by_length true e =
      let less : length before < n = ltb-true (length before) n e in
      let x = a.short less in
      let y = b.short less in
      (x.0 ∙ sym y.0, x.1 ∙ sym y.1, kept l m x.2 y.2)
  one_by_length false e =
      let enough : n ≤ length before = ltb-false (length before) n e in
      let x = a.given enough in
      let y = b.given enough in
      let same = told l m x.0 y.0 x.2 y.2 in
      (x.3 ∙ ap (λ w. get_or w 0 0) same.1 ∙ sym y.3, x.4 ∙ ap (λ w. w ++ drop n before) same.1 ∙ sym y.4, same.0)

  pub answers_one : (r ≡ q) × (after ≡ other) × (l ≡ m)
  answers_one = one_by_length (ltb (length before) n) refl
