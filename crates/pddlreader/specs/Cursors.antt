-- The words of the inner functions: the walk's place, and what one word makes of it.
use Rattle.std.specs.Prelude.{Bool, ◌&&◌, List, ℕ, eqb, length}
use Rattle.layout.specs.Layouts.{Layout}
use Rattle.layout.specs.Walking.{Walked, taken, past, farther, walk}
use Rattle.pddlreader.specs.declared.cursor.Cursor.{Cursor}

-- Whether a word stood, and the walk's place after it.
pub record Tried : Type 0 where
  pub taken : Bool
  pub cursor : Cursor

-- What the walk gives from its place on.
abbrev pub walk_from : {A : Type 0} → Layout A → List ℕ → Cursor → Walked A
walk_from l s c = walk l s c.good c.at c.far

-- What a word that may stand makes of the place.
abbrev pub tried : List ℕ → Cursor → List ℕ → Tried
tried s c w = record {
  taken = taken s c.good c.at w;
  cursor = record { good = c.good; at = past s c.good c.at w; far = farther s c.good c.at c.far w };
}

-- The place after it where it has to stand.
abbrev pub had_to_stand : Tried → Cursor
had_to_stand t = record { good = t.taken; at = t.cursor.at; far = t.cursor.far }

-- Every word stood that had to, and nothing is left of the text.
abbrev pub is_whole : Cursor → List ℕ → Bool
is_whole c s = c.good && eqb c.at (length s)
