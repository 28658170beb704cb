-- The longest shared beginning is one number; of a text that is cut it is all of the text, and of a text of the layout with a tail it is that text.
-- Assumes nothing.
use mathlib.Core.Bool.{Bool, true, false}
use mathlib.Core.List.{List, ◌++◌}
use mathlib.Core.Path.{◌≡◌, refl, sym, ap, ◌∙◌}
use Prim.Native.Nat.{ℕ, ◌<◌, ◌≤◌}
use native.Mathlib.Omega.{arith}
use lib.Dec.{ltb}
use lib.ListN.{length, length-append}
use borrow.Author.Tests.{ltb-true, ltb-false}
use Rattle.layout.specs.Beginnings.{alike, Longest}
use Rattle.layout.specs.Layouts.{Layout, done, word, pick, Says, ends, after, stands, missing, TextOf, Clear}
use Rattle.layout.proofs.AlikeLaws.{alike_left, alike_right, alike_sym, alike_prefix, alike_begun, alike_short, short_alike}

pub longest_once : {T : List ℕ → Type 0} {s : List ℕ} {n m : ℕ} → Longest T s n → Longest T s m → n ≡ m
longest_once l k = omega (arith, l.most k.text k.is_one, k.most l.text l.is_one, l.reached, k.reached)

-- The same texts have the same longest beginning.
pub same_longest : {A B : List ℕ → Type 0} {s : List ℕ} {n : ℕ} → ((t : List ℕ) → A t → B t) → ((t : List ℕ) → B t → A t) → Longest A s n
    → Longest B s n
same_longest there back l =
    record { text = l.text; is_one = there l.text l.is_one; reached = l.reached; most = λ t b. l.most t (back t b) }

-- A text that is cut goes all along with the whole one.
pub cut_longest : {T : List ℕ → Type 0} (s u : List ℕ) → T (s ++ u) → Longest T s (length s)
cut_longest s u h = record { text = s ++ u; is_one = h; reached = alike_begun s u; most = λ t _. alike_left s t }

by_order : {C : Type 0} (a b : ℕ) → (a < b → C) → (b ≤ a → C) → C
by_order {C} a b f g = pick_by (ltb a b) refl
  where
    pick_by : (c : Bool) → ltb a b ≡ c → C
    pick_by true e = f (ltb-true a b e)
    pick_by false e = g (ltb-false a b e)

-- Behind the same word.
same_rest : (w x y s t : List ℕ) → s ≡ w ++ x → t ≡ w ++ y → alike s t ≡ length s → (alike x y ≡ length x → x ≡ y) → s ≡ t
same_rest w x y s t e d h rest =
    let whole = rw (e, d) at h in
    let same = rest (omega (arith, alike_prefix w x y, length-append w x)) in
    e ∙ ap (λ (l : List ℕ). w ++ l) same ∙ sym d

-- A text of a clear layout that begins with another one is that one.
pub only_one : {A : Type 0} (l : Layout A) → Clear l → {v v' : A} (s t : List ℕ) → Says v l s → Says v' l t → alike s t ≡ length s → s ≡ t
unfolding Clear
only_one (done x) c s t (ends _ e) (ends _ d) h = e ∙ sym d
only_one (word w l) c s t (after x e m) (after y d n) h = same_rest w x y s t e d h (only_one l c x y m n)
only_one (pick w a b) c s t (stands x e m) (stands y d n) h = same_rest w x y s t e d h (only_one a c.0 x y m n)
only_one (pick w a b) c s t (missing m) (missing n) h = only_one b c.1 s t m n h
only_one (pick w a b) c {v} {v'} s t (stands x e m) (missing n) h =
    let less = (c.2 v' t n).0 in
    let here = ap (λ (l : List ℕ). alike l t) e ∙ short_alike w x t less in
    absurd (omega (arith, ap length e ∙ length-append w x))
only_one (pick w a b) c {v} {v'} s t (missing m) (stands y d n) h =
    let less = c.2 v s m in
    let turned = alike_sym s w in
    let here = ap (alike s) d ∙ alike_short s w y (omega (arith, less.0)) in
    absurd (omega (arith, less.1))

-- A text of a clear layout with a tail goes along with that text, and no other goes farther.
pub tail_longest : {A : Type 0} (l : Layout A) → Clear l → (s u : List ℕ) → TextOf l s → Longest (TextOf l) (s ++ u) (length s)
tail_longest l clear s u h =
    record { text = s; is_one = h; reached = alike_sym (s ++ u) s ∙ alike_begun s u; most = λ t k. farther t k }
  where
    farther : (t : List ℕ) → TextOf l t → alike (s ++ u) t ≤ length s
    farther t k =
        by_order (alike s t) (length s) (λ less. omega (arith, short_alike s u t less))
        (λ whole.
        let all : alike s t ≡ length s = omega (arith, alike_left s t) in
        let same = only_one l clear s t h.so k.so all in
        omega (arith, alike_right (s ++ u) t, ap length same))

-- No text of a clear layout goes on behind another one.
pub no_longer : {A : Type 0} (l : Layout A) → Clear l → (s u : List ℕ) → TextOf l s → TextOf l (s ++ u) → 0 < length u → ⊥
no_longer l clear s u h k some =
    let same = ap length (only_one l clear s (s ++ u) h.so k.so (alike_begun s u)) in
    omega (arith, length-append s u)
