-- A list of edits as numbers, four an edit: what the test that replays them reads.
use Rattle.std.specs.Prelude.{List, [], ◌∷◌, ℕ, ◌+◌, get_or}
use Rattle.change.specs.declared.Edit.{Edit}
use Rattle.session.specs.EditNumbers.{edit_of}

-- How many numbers an edit has.
abbrev pub edit_places : ℕ
edit_places = 4

-- The edit whose numbers stand from place `at` on.
abbrev pub edit_at : List ℕ → ℕ → Edit
edit_at l at = edit_of (get_or l at 0) (get_or l (at + 1) 0) (get_or l (at + 2) 0) (get_or l (at + 3) 0)

-- The edits of a list, four numbers each; at its end one to three numbers that make no edit are left out.
unfoldable pub edits_in : List ℕ → List Edit
edits_in [] = []
edits_in (k ∷ []) = []
edits_in (k ∷ a ∷ []) = []
edits_in (k ∷ a ∷ f ∷ []) = []
edits_in (k ∷ a ∷ f ∷ p ∷ l) = edit_of k a f p ∷ edits_in l
