-- A word that may stand, by cases. Assumes nothing.
use mathlib.Core.Bool.{Bool, true, false}
use mathlib.Core.List.{List}
use mathlib.Core.Path.{◌≡◌, sym, ◌∙◌}
use Prim.Native.Nat.{ℕ, ◌+◌, max}
use borrow.Author.Tests.{eq-eqb, ne_eqb}
use lib.ListN.{length}
use Rattle.layout.specs.Walking.{reach}
use Rattle.pddlreader.specs.Cursors.{tried}
use Rattle.pddlreader.specs.declared.cursor.Cursor.{Cursor}

abbrev place : Bool → ℕ → ℕ → Cursor
place good at far = record { good = good; at = at; far = far }

-- The answer of `try_word`, in its parts.
abbrev Tells : List ℕ → Cursor → List ℕ → Bool → Cursor → Type 0
Tells s c w taken after = record { taken = taken; cursor = after } ≡ tried s c w

module _ (s : List ℕ) (good : Bool) (at far : ℕ) (w : List ℕ) where
  pub nothing_taken : good ≡ false → Tells s (place good at far) w false (place good at far)
  nothing_taken e = rw e

  module _ {n later : ℕ} (sound : good ≡ true) (stands : n ≡ reach s at w) (farther : later ≡ max far (at + n)) where
    pub not_taken : (n ≡ length w → ⊥) → Tells s (place good at far) w false (place good at later)
    not_taken h = rw (farther, sound, ne_eqb (reach s at w) (length w) (λ e. h (stands ∙ e)), stands)

    pub word_taken : n ≡ length w → Tells s (place good at far) w true (place good (at + n) later)
    word_taken h = rw (farther, sound, stands, eq-eqb (reach s at w) (length w) (sym stands ∙ h), sym stands ∙ h)
