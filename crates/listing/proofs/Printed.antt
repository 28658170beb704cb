-- The definition of the text prints what document 01, "The listing", prints: its worked example, with the open line of 02's request 3, and the
-- refusals, byte by byte; and several runs (02, request 1). Assumes nothing.
use mathlib.Core.List.{List, [], ◌∷◌}
use mathlib.Core.Path.{◌≡◌, refl}
use Rattle.table.specs.Counting.{sum_below}
use Rattle.table.specs.Lists.{gather}
use Rattle.table.specs.Refusals.{bytes_after_end, over_the_limit, not_well_formed}
use Rattle.table.specs.declared.Task.{Task}
use Rattle.runcheck.specs.OpenNeeds.{open_needs}
use Rattle.runcheck.specs.declared.Checked.{Checked}
use Rattle.table.specs.Outcomes.{refused, answered}
use Rattle.taskformat.specs.Reading.{accepted_read, refused_read}
use Rattle.text.specs.Ascii.{bytes_of}
use Rattle.listing.specs.Listing.{answer_room}
use Rattle.text.specs.Text.{digits, each, line, check_in, read_text, text_of}

-- Four facts, three actions, limit three, three steps (the masks are not shown); three open needs, the first at step 3, fact 1.
abbrev pub sized : Task
sized = record {
  table = record { facts = 4; actions = 3; limit = 3; needs = []; adds = []; deletes = []; locks = [] };
  runs = record { many = 1; starts = []; goals = []; counts = 3 ∷ []; steps = [] };
}

abbrev pub three_open : Checked
three_open = open_needs 3 3 1

-- Repairs 97 and 224.
pub solved_listing : text_of (accepted_read sized) (check_in (three_open ∷ [])) (answered (97 ∷ 224 ∷ []) answer_room) ≡
    bytes_of "task 4 3 3 3\nopen 3 3 1\nset 2\ndrop-delete 1 1\nadd-effect 0 2\nend\n"
unfolding text_of read_text line each digits gather sum_below
solved_listing = refl

pub refused_solve : text_of (accepted_read sized) (check_in (three_open ∷ [])) (refused over_the_limit answer_room) ≡
    bytes_of "task 4 3 3 3\nopen 3 3 1\nrefused 10 0\n"
unfolding text_of read_text line each digits gather sum_below
refused_solve = refl

pub refused_file : text_of (refused_read bytes_after_end 36) (check_in (three_open ∷ [])) (refused not_well_formed answer_room) ≡ bytes_of "refused 8 36\n"
unfolding text_of line each digits
refused_file = refl

-- Three runs, of three steps, of none and of eleven, the second with nothing open: an open line for each, in order, before the refusal
-- too; and the steps of all.
abbrev pub three_runs : Task
three_runs = record {
  table = record { facts = 4; actions = 3; limit = 3; needs = []; adds = []; deletes = []; locks = [] };
  runs = record { many = 3; starts = []; goals = []; counts = 3 ∷ 0 ∷ 11 ∷ []; steps = [] };
}

abbrev pub three_checks : List Checked
three_checks = three_open ∷ open_needs 0 0 0 ∷ open_needs 12 1 3 ∷ []

pub solved_runs : text_of (accepted_read three_runs) (check_in three_checks) (answered (97 ∷ []) answer_room) ≡
    bytes_of "task 4 3 3 14\nopen 3 3 1\nopen 0 0 0\nopen 12 1 3\nset 1\ndrop-delete 1 1\nend\n"
unfolding text_of read_text line each digits gather sum_below
solved_runs = refl

pub refused_runs : text_of (accepted_read three_runs) (check_in three_checks) (refused over_the_limit answer_room) ≡
    bytes_of "task 4 3 3 14\nopen 3 3 1\nopen 0 0 0\nopen 12 1 3\nrefused 10 0\n"
unfolding text_of read_text line each digits gather sum_below
refused_runs = refl
