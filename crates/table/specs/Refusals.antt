-- The refusal numbers of documents 01 and 02, by name, and how the order of refusals is said: an ordered list of checks,
-- of which the first that fires is the answer.
use Rattle.std.specs.Prelude.{Bool, cond, List, [], ◌∷◌, ℕ}
use Rattle.table.specs.declared.refusals.Why.{Why}
use Rattle.table.specs.declared.refusals.Why.TheVariants.{NoEnd, UnknownKind, SizesMisplaced, SizeOutside, NumberOutside, NotAscending, TooManySteps, BytesAfterEnd, NoListWorks, OverTheLimit, RoomTooShort, NotWellFormed, NotASession, NotThere, ListNotPermitted, TooManyRuns, NotTheLayout, LockWithoutNeed}

-- Success (01: "Success has number 0 and place 0").
abbrev pub accepted : ℕ
accepted = 0

abbrev pub no_end : ℕ
no_end = 1

abbrev pub unknown_kind : ℕ
unknown_kind = 2

abbrev pub sizes_misplaced : ℕ
sizes_misplaced = 3

abbrev pub size_outside : ℕ
size_outside = 4

abbrev pub number_outside : ℕ
number_outside = 5

abbrev pub not_ascending : ℕ
not_ascending = 6

abbrev pub too_many_steps : ℕ
too_many_steps = 7

abbrev pub bytes_after_end : ℕ
bytes_after_end = 8

abbrev pub no_list_works : ℕ
no_list_works = 9

abbrev pub over_the_limit : ℕ
over_the_limit = 10

abbrev pub room_too_short : ℕ
room_too_short = 11

abbrev pub not_well_formed : ℕ
not_well_formed = 12

abbrev pub not_a_session : ℕ
not_a_session = 13

-- An edit names a fact, an action or a run that isn't there, or a run check a run (02, request 1).
abbrev pub not_there : ℕ
not_there = 14

abbrev pub list_not_permitted : ℕ
list_not_permitted = 15

-- 02, request 1: "16, at its kind byte, for a ninth run, after 6 and before 7".
abbrev pub too_many_runs : ℕ
too_many_runs = 16

-- 02, request 4: "17 for a text outside the layout".
abbrev pub not_the_layout : ℕ
not_the_layout = 17

-- 02, request 6: "18 for a lock set on a cell that isn't a need, or a need cleared under a lock"; in a file for a lock on a cell that isn't
-- a need.
abbrev pub lock_without_need : ℕ
lock_without_need = 18

-- The number of each refusal that the code names.
abbrev pub number_of : Why → ℕ
number_of NoEnd = no_end
number_of UnknownKind = unknown_kind
number_of SizesMisplaced = sizes_misplaced
number_of SizeOutside = size_outside
number_of NumberOutside = number_outside
number_of NotAscending = not_ascending
number_of TooManySteps = too_many_steps
number_of BytesAfterEnd = bytes_after_end
number_of NoListWorks = no_list_works
number_of OverTheLimit = over_the_limit
number_of RoomTooShort = room_too_short
number_of NotWellFormed = not_well_formed
number_of NotASession = not_a_session
number_of NotThere = not_there
number_of ListNotPermitted = list_not_permitted
number_of TooManyRuns = too_many_runs
number_of NotTheLayout = not_the_layout
number_of LockWithoutNeed = lock_without_need

-- One check: does it fire, with which number, at which place.
pub record Check : Type 0 where
  pub fires : Bool
  pub number : ℕ
  pub place : ℕ

-- A check at a place of a file or of a list; every other is at place 0.
abbrev pub refuse_at : ℕ → Bool → ℕ → Check
refuse_at p b n = record { fires = b; number = n; place = p }

abbrev pub refuse : Bool → ℕ → Check
refuse b n = refuse_at 0 b n

-- The number and the place of the first check that fires; 0 and 0 where none does.
pub record Refusal : Type 0 where
  pub number : ℕ
  pub place : ℕ

abbrev pub none : Refusal
none = record { number = accepted; place = 0 }

unfoldable pub first_of : List Check → Refusal
first_of [] = none
first_of (c ∷ cs) = cond {A = Refusal} c.fires (record { number = c.number; place = c.place }) (first_of cs)
