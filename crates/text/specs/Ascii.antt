-- A text as bytes: the codes of its characters, which are ASCII wherever it is used.
use Rattle.std.specs.Prelude.{List, [] as []ᴸ, ◌∷◌ as ◌∷ᴸ◌, ℕ}
use Prim.Native.Char.{code}
use Prim.Native.String.{String, [], ◌∷◌}

abbrev pub bytes_of : String → List ℕ
bytes_of [] = []ᴸ
bytes_of (c ∷ s) = code c ∷ᴸ bytes_of s
