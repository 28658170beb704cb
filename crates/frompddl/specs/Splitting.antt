-- How the input is split: a text after another, and the task file directly behind them (docs/PDDL.md, "The programs").
use Rattle.std.specs.Prelude.{Bool, true, false, ◌&&◌, List, ◌≡◌, ℕ, ◌+◌, ◌-◌, min, eqb, length, get_or, take, drop}
use Rattle.table.specs.Counting.{first_where}

-- The bytes of a line `)` stand here: the line feed before it, the parenthesis and its own line feed.
unfoldable pub closing : List ℕ → ℕ → Bool
closing s at = eqb (get_or s at 0) 10 && eqb (get_or s (at + 1) 0) 41 && eqb (get_or s (at + 2) 0) 10

-- A text ends behind its first line `)`; at the input's end where there is none.
unfoldable pub text_end : List ℕ → ℕ → ℕ
text_end s from = min (from + first_where (λ i. closing s (from + i)) (length s - from) + 3) (length s)

-- The text that begins here.
abbrev pub text_at : List ℕ → ℕ → List ℕ
text_at s from = take (text_end s from - from) (drop from s)

-- A text begins here, with `(`, and not the task file.
unfoldable pub is_text : List ℕ → ℕ → Bool
is_text s at = eqb (get_or s at 0) 40

-- The texts from a place on end here.
pub data TextsEnd (s : List ℕ) (end : ℕ) : ℕ → Type 0 where
  here : {at : ℕ} → is_text s at ≡ false → at ≡ end → TextsEnd s end at
  further : {at : ℕ} → is_text s at ≡ true → TextsEnd s end (text_end s at) → TextsEnd s end at
