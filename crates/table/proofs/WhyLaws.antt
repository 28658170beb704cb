-- The law of `number_of` (specs/Refusals): a number tells its refusal, and none is 0. Assumes nothing.
use mathlib.Core.List.{[], ◌∷◌}
use mathlib.Core.Path.{◌≡◌, refl, sym, ap, ◌∙◌}
use Prim.Native.Nat.{ℕ, ◌-◌}
use native.Mathlib.Omega.{arith}
use lib.ListN.{get_or}
use Rattle.table.specs.Refusals.{accepted, number_of}
use Rattle.table.specs.declared.refusals.Why.{Why}
use Rattle.table.specs.declared.refusals.Why.TheVariants.{NoEnd, UnknownKind, SizesMisplaced, SizeOutside, NumberOutside, NotAscending, TooManySteps, BytesAfterEnd, NoListWorks, OverTheLimit, RoomTooShort, NotWellFormed, NotASession, NotThere, ListNotPermitted, TooManyRuns, NotTheLayout, LockWithoutNeed}

-- The way back: the refusals in the order of their numbers, from 1 on.
abbrev why_of : ℕ → Why
why_of n = get_or (NoEnd ∷ UnknownKind ∷ SizesMisplaced ∷ SizeOutside ∷ NumberOutside ∷ NotAscending ∷ TooManySteps ∷ BytesAfterEnd ∷ NoListWorks ∷ OverTheLimit ∷ RoomTooShort ∷ NotWellFormed ∷ NotASession ∷ NotThere ∷ ListNotPermitted ∷ TooManyRuns ∷ NotTheLayout ∷ LockWithoutNeed ∷ []) (n - 1) NoEnd

why_of_number : (w : Why) → why_of (number_of w) ≡ w
why_of_number NoEnd = refl
why_of_number UnknownKind = refl
why_of_number SizesMisplaced = refl
why_of_number SizeOutside = refl
why_of_number NumberOutside = refl
why_of_number NotAscending = refl
why_of_number TooManySteps = refl
why_of_number BytesAfterEnd = refl
why_of_number NoListWorks = refl
why_of_number OverTheLimit = refl
why_of_number RoomTooShort = refl
why_of_number NotWellFormed = refl
why_of_number NotASession = refl
why_of_number NotThere = refl
why_of_number ListNotPermitted = refl
why_of_number TooManyRuns = refl
why_of_number NotTheLayout = refl
why_of_number LockWithoutNeed = refl

pub number_tells : (w v : Why) → number_of w ≡ number_of v → w ≡ v
number_tells w v e = sym (why_of_number w) ∙ ap why_of e ∙ why_of_number v

pub number_some : (w : Why) → number_of w ≡ accepted → ⊥
number_some w e =
    let first : w ≡ NoEnd = sym (why_of_number w) ∙ ap why_of e in
    let one : number_of w ≡ 1 = ap number_of first in
    omega (arith, one, e)
