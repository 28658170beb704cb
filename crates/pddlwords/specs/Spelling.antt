-- A word as the code holds it: a text in an array's first places.
use Rattle.std.specs.Prelude.{List, ◌≡◌, ℕ, ◌≤◌, length, take}
use Rattle.pddl.specs.Texts.{fact_line, delete_line}
use Rattle.pddlwords.specs.declared.Line.{Line}
use Rattle.pddlwords.specs.declared.Line.TheVariants.{Fact, Deleted}
use Rattle.pddlwords.specs.declared.word.Word.{Word}

-- The array's places.
abbrev pub word_room : ℕ
word_room = 64

-- The word w is the text t.
pub record Spells (w : Word) (t : List ℕ) : Type 0 where
  pub len_is : w.len ≡ length t
  pub fits : w.len ≤ word_room
  pub text : take w.len w.bytes ≡ t

-- A line of a fact: of what is deleted, or of any other set.
abbrev pub line_of : Line → ℕ → List ℕ
line_of Fact = fact_line
line_of Deleted = delete_line
