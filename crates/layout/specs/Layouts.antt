-- A layout: texts made of words, one after another, some of which may stand there or not, and what each such text says.
use Rattle.std.specs.Prelude.{List, [], ◌++◌, ◌≡◌, ℕ, ◌<◌, length}
use Rattle.layout.specs.Beginnings.{alike}

pub data Layout (A : Type 0) : Type 0 where
  -- the end; what a text that comes here says
  done : A → Layout A
  -- a word, and then the rest
  word : List ℕ → Layout A → Layout A
  -- a word and then the first rest, or the second rest without it
  pick : List ℕ → Layout A → Layout A → Layout A

-- The text is of the layout, and says v.
pub data Says {A : Type 0} (v : A) : Layout A → List ℕ → Type 0 where
  ends : {x : A} {t : List ℕ} → x ≡ v → t ≡ [] → Says v (done x) t
  after : {w : List ℕ} {l : Layout A} {t : List ℕ} (u : List ℕ) → t ≡ w ++ u → Says v l u → Says v (word w l) t
  stands : {w : List ℕ} {a b : Layout A} {t : List ℕ} (u : List ℕ) → t ≡ w ++ u → Says v a u → Says v (pick w a b) t
  missing : {w : List ℕ} {a b : Layout A} {t : List ℕ} → Says v b t → Says v (pick w a b) t

-- The text is of the layout, whatever it says.
pub record TextOf {A : Type 0} (l : Layout A) (t : List ℕ) : Type 0 where
  pub says : A
  pub so : Says says l t

-- Each text of the layout differs from the word before either ends.
abbrev pub Apart : {A : Type 0} → List ℕ → Layout A → Type 0
Apart {A} w l = (v : A) (t : List ℕ) → Says v l t → (alike w t < length w) × (alike w t < length t)

-- Whether a word that may stand there does is seen by reading: where it doesn't, no text goes on so.
unfoldable pub Clear : {A : Type 0} → Layout A → Type 0
Clear (done v) = Unit {0}
Clear (word w l) = Clear l
Clear (pick w a b) = Clear a × Clear b × Apart w b
