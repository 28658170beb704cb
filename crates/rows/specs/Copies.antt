-- A list with part of another one copied into it.
use Rattle.std.specs.Prelude.{List, ◌++◌, ℕ, ◌+◌, take, drop}

-- The first n of l stand from place `at` on; the rest of s is as it was.
unfoldable pub pasted : List ℕ → ℕ → List ℕ → ℕ → List ℕ
pasted s at l n = take at s ++ take n l ++ drop (at + n) s
