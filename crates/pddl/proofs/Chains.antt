-- Texts put together from four and five parts, and what a tree that begins with a word says. Assumes nothing.
use mathlib.Core.List.{List, ◌++◌, append_assoc}
use mathlib.Core.Path.{◌≡◌, sym, ◌∙◌}
use Prim.Native.Nat.{ℕ}
use Rattle.layout.specs.Layouts.{Layout, Says, word, after}

-- Four parts and a tail, nested either way; and five.
pub four : (a b c d t : List ℕ) → a ++ b ++ c ++ d ++ t ≡ a ++ (b ++ (c ++ (d ++ t)))
four a b c d t = append_assoc (a ++ b ++ c) d t ∙ append_assoc (a ++ b) c (d ++ t) ∙ append_assoc a b (c ++ (d ++ t))

pub five : (a b c d e t : List ℕ) → a ++ b ++ c ++ d ++ e ++ t ≡ a ++ (b ++ (c ++ (d ++ (e ++ t))))
five a b c d e t = append_assoc (a ++ b ++ c ++ d) e t ∙ four a b c d (e ++ t)

-- Each of four parts stands before the rest.
pub chained : (a b c d z : List ℕ) {t u x y : List ℕ} → t ≡ a ++ u → u ≡ b ++ x → x ≡ c ++ y → y ≡ d ++ z → t ≡ a ++ b ++ c ++ d ++ z
chained a b c d z {t} {u} {x} {y} p q r s = p ∙ rw (q, r, s) (sym (four a b c d z))

-- What a word and a rest say.
pub record WordSaid {A : Type 0} (w : List ℕ) (l : Layout A) (v : A) (t : List ℕ) : Type 0 where
  pub tail : List ℕ
  pub text : t ≡ w ++ tail
  pub more : Says v l tail

pub word_said : {A : Type 0} (w : List ℕ) (l : Layout A) (v : A) (t : List ℕ) → Says v (word w l) t → WordSaid w l v t
word_said w l v t (after u e s) = record { tail = u; text = e; more = s }
