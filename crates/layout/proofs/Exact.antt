-- A walk along a clear layout is right: it reads just the texts of the layout, each as what it says, and stops where the text leaves the layout.
-- Assumes nothing.
use mathlib.Core.Bool.{Bool, true, false}
use mathlib.Core.List.{List, [], ◌++◌, append_cancel_left}
use mathlib.Core.Logic.{◌≢◌}
use mathlib.Core.Path.{◌≡◌, refl, sym, ap, ◌∙◌, subst}
use Prim.Native.Nat.{ℕ, ◌+◌, max, ◌≤◌, ◌<◌}
use native.Mathlib.Omega.{arith}
use lib.Dec.{eqb, ltb}
use lib.ListN.{length, drop, length-drop}
use lib.Seq.{drop-drop, drop-length}
use borrow.Author.Tests.{eqb-true, eqb-false, ltb-true, ltb-false}
use Rattle.layout.specs.Beginnings.{alike, Longest}
use Rattle.layout.specs.Layouts.{Layout, done, word, pick, Says, ends, after, stands, missing, TextOf, Apart, Clear}
use Rattle.layout.specs.Walking.{Walked, reads, stops, reach, walk}
use Rattle.layout.proofs.AlikeLaws.{alike_left, alike_right, alike_sym, alike_prefix, alike_begun, alike_short, short_alike, alike_whole}

-- A text of a clear layout says one thing.
pub said_once : {A : Type 0} (l : Layout A) → Clear l → {v v' : A} {t : List ℕ} → Says v l t → Says v' l t → v ≡ v'
unfolding Clear
said_once (done x) c (ends e _) (ends d _) = sym e ∙ d
said_once (word w l) c {v} {v'} (after u e s) (after u' d s') =
    said_once l c s (subst (Says v' l) (append_cancel_left w u' u (sym d ∙ e)) s')
said_once (pick w a b) c {v} {v'} (stands u e s) (stands u' d s') =
    said_once a c.0 s (subst (Says v' a) (append_cancel_left w u' u (sym d ∙ e)) s')
said_once (pick w a b) c {v} {v'} {t} (stands u e s) (missing s') =
    let less = (c.2 v' t s').0 in let all = rw (← e) at (alike_begun w u) in absurd (omega arith)
said_once (pick w a b) c {v} {v'} {t} (missing s) (stands u d s') =
    let less = (c.2 v t s).0 in let all = rw (← d) at (alike_begun w u) in absurd (omega arith)
said_once (pick w a b) c (missing s) (missing s') = said_once b c.1 s s'

-- Every layout has a text.
some_text : {A : Type 0} (l : Layout A) → (t : List ℕ) × TextOf l t
some_text (done v) = ([], record { says = v; so = ends refl refl })
some_text (word w l) = let more = some_text l in (w ++ more.0, record { says = more.1.says; so = after more.0 refl more.1.so })
some_text (pick w a b) = let more = some_text b in (more.0, record { says = more.1.says; so = missing more.1.so })

-- A walk that is no longer good stops at the farthest that it had come to.
lost : {A : Type 0} (l : Layout A) (s : List ℕ) (at far : ℕ) → walk l s false at far ≡ stops far
unfolding walk
lost (done v) s at far = refl
lost (word w l) s at far = lost l s at far
lost (pick w a b) s at far = lost b s at far

-- A text of the layout that goes with u, which stands at a place, as far as n, unless n had been come to before.
record Found {A : Type 0} (l : Layout A) (u : List ℕ) (at far n : ℕ) : Type 0 where
  text : List ℕ
  is_one : TextOf l text
  reached : n ≤ max far (at + alike u text)

-- What a walk that stops at n has found of the text u from a place on: far had been come to before, no text of the layout goes farther than n,
-- one goes so far, and u is none.
record Stopped {A : Type 0} (l : Layout A) (u : List ℕ) (at far n : ℕ) : Type 0 where
  kept : far ≤ n
  most : (v : A) (t : List ℕ) → Says v l t → at + alike u t ≤ n
  found : Found l u at far n
  never : (v : A) → Says v l u → ⊥

-- The verdict on u.
data Judged {A : Type 0} (l : Layout A) (u : List ℕ) (at far : ℕ) : Walked A → Type 0 where
  read : {v : A} → Says v l u → Judged l u at far (reads v)
  stopped : (n : ℕ) → Stopped l u at far n → Judged l u at far (stops n)

-- A text of the end is empty.
nothing : {A : Type 0} {v x : A} {t : List ℕ} → Says v (done x) t → t ≡ []
nothing (ends _ e) = e

-- A text of a word and a rest: the word, and a text of the rest.
cut : {A : Type 0} {v : A} {w : List ℕ} {l : Layout A} {t : List ℕ} → Says v (word w l) t → (x : List ℕ) × (t ≡ w ++ x) × Says v l x
cut (after u e s) = (u, e, s)

-- A text where a word may stand or not: it stands, or the text is of the second rest.
by_word : {A C : Type 0} {v : A} {w : List ℕ} {a b : Layout A} {t : List ℕ} → (Says v (word w a) t → C) → (Says v b t → C)
    → Says v (pick w a b) t → C
by_word f g (stands u e s) = f (after u e s)
by_word f g (missing s) = g s

-- Two texts that begin with a word share the word, and what their rests share.
along : (w u rest t x : List ℕ) → u ≡ w ++ rest → t ≡ w ++ x → alike u t ≡ length w + alike rest x
along w u rest t x e d = rw (e, d) (alike_prefix w rest x)

module _ {A : Type 0} (w : List ℕ) (a : Layout A) (u : List ℕ) (at far : ℕ) where
  -- Where the word stands, what is found of the rest holds of the whole.
  word_goes : (rest : List ℕ) → u ≡ w ++ rest → {r : Walked A} → Judged a rest (at + length w) (max far (at + length w)) r
      → Judged (word w a) u at far r
  word_goes rest e (read s) = read (after rest e s)
  word_goes rest e (stopped n h) =
      let x = h.found.text in
      let same = along w u rest (w ++ x) x e refl in
      stopped n (record {
        kept = omega arith;
        most = λ v t s. let c = cut s in omega (arith, along w u rest t c.0 e c.1, h.most v c.0 c.2);
        found = record {
          text = w ++ x;
          is_one = record { says = h.found.is_one.says; so = after x refl h.found.is_one.so };
          reached = omega arith;
        };
        never = λ v s. let c = cut s in h.never v (subst (Says v a) (append_cancel_left w c.0 rest (sym c.1 ∙ e)) c.2);
      })

  -- Where it doesn't, each text goes as far as the word does.
  word_fails : alike u w < length w → Stopped (word w a) u at far (max far (at + alike u w))
  word_fails h =
      let one = some_text a in
      let same = alike_short u w one.0 h in
      record {
        kept = omega arith;
        most = λ v t s. let c = cut s in let as-far = ap (alike u) c.1 ∙ alike_short u w c.0 h in omega arith;
        found = record {
          text = w ++ one.0;
          is_one = record { says = one.1.says; so = after one.0 refl one.1.so };
          reached = omega arith;
        };
        never = λ v s.
            let c = cut s in
            let all = rw (← c.1) at (alike_begun w c.0) in
            let turned = alike_sym u w in omega arith;
      }

  module _ (b : Layout A) where
    -- Where a word that may stand does, no text without it goes farther.
    pick_goes : (rest : List ℕ) → u ≡ w ++ rest → Apart w b → {r : Walked A} → Judged (word w a) u at far r → Judged (pick w a b) u at far r
    pick_goes rest e apart (read s) = let c = cut s in read (stands c.0 c.1 c.2)
    pick_goes rest e apart (stopped n h) =
        let one = h.found.is_one in
        let c = cut one.so in
        let whole = along w u rest h.found.text c.0 e c.1 in
        let far-enough = h.most one.says h.found.text one.so in
        stopped n (record {
          kept = h.kept;
          most = λ v t s. by_word (h.most v t)
              (λ m. let less = (apart v t m).0 in let same = ap (λ x. alike x t) e ∙ short_alike w rest t less in omega arith) s;
          found = record {
            text = h.found.text;
            is_one = record { says = one.says; so = stands c.0 c.1 c.2 };
            reached = h.found.reached;
          };
          never = λ v s. by_word (h.never v)
              (λ m. let less = (apart v u m).0 in let all = rw (← e) at (alike_begun w rest) in omega arith) s;
        })

    -- Where it doesn't, no text with it goes farther than the word does.
    pick_fails : alike u w < length w → {r : Walked A} → Judged b u at (max far (at + alike u w)) r → Judged (pick w a b) u at far r
    pick_fails h (read s) = read (missing s)
    pick_fails h (stopped n k) =
        let f = word_fails h in
        stopped n (record {
          kept = omega arith;
          most = λ v t s. by_word (λ m. omega (arith, f.most v t m)) (k.most v t) s;
          found = farthest (ltb (alike u k.found.text) (alike u w)) refl f;
          never = λ v s. by_word (f.never v) (k.never v) s;
        })
      where
        -- The text that goes farther: one with the word, or that of the second rest.
        farthest : (c : Bool) → ltb (alike u k.found.text) (alike u w) ≡ c → Stopped (word w a) u at far (max far (at + alike u w))
            → Found (pick w a b) u at far n
        farthest true e f =
            let less = ltb-true (alike u k.found.text) (alike u w) e in
            let one = f.found.is_one in
            let x = cut one.so in
            record {
              text = f.found.text;
              is_one = record { says = one.says; so = stands x.0 x.1 x.2 };
              reached = omega arith;
            }
        farthest false e f =
            let more = ltb-false (alike u k.found.text) (alike u w) e in
            record {
              text = k.found.text;
              is_one = record { says = k.found.is_one.says; so = missing k.found.is_one.so };
              reached = omega arith;
            }

-- The walk's verdict from a place on is right.
abbrev Right : {A : Type 0} → Layout A → List ℕ → ℕ → ℕ → Type 0
Right l s at far = Judged l (drop at s) at far (walk l s true at far)

module _ (s : List ℕ) (at : ℕ) (w : List ℕ) where
  -- Where a word stands, the text goes on behind it.
  begins : reach s at w ≡ length w → drop at s ≡ w ++ drop (at + length w) s
  begins e = rw (drop-drop (length w) at s) at (alike_whole (drop at s) w e)

  -- And the word ends inside the text.
  inside_yet : at ≤ length s → reach s at w ≡ length w → at + length w ≤ length s
  inside_yet inside e = omega (arith, alike_left (drop at s) w, length-drop at s)

  -- A word that doesn't stand is left inside it.
  short : eqb (reach s at w) (length w) ≡ false → reach s at w < length w
  short e = let other : reach s at w ≢ length w = eqb-false (reach s at w) (length w) e in omega (arith, alike_right (drop at s) w)

module _ {A : Type 0} (s : List ℕ) (at far : ℕ) (inside : at ≤ length s) (near : at ≤ far) where
  -- At the end.
  done_right : (v : A) (b : Bool) → eqb at (length s) ≡ b → Right (done v) s at far
  unfolding walk
  done_right v true e =
      let last = eqb-true at (length s) e in
      let over : drop at s ≡ [] = rw last (drop-length s) in
      rw e (read (ends refl over))
  done_right v false e =
      let more : at ≢ length s = eqb-false at (length s) e in
      rw e (stopped far (record {
        kept = omega arith;
        most = λ v t m. omega (arith, alike_right (drop at s) t, ap length (nothing m));
        found = record { text = []; is_one = record { says = v; so = ends refl refl }; reached = omega arith };
        never = λ v m. omega (arith, length-drop at s, ap length (nothing m));
      }))

  module _ (w : List ℕ) (a : Layout A) where
    -- At a word, where the walk from behind it on is right.
    word_right : (c : Bool) → eqb (reach s at w) (length w) ≡ c
        → (at + length w ≤ length s → Right a s (at + length w) (max far (at + length w)))
        → Right (word w a) s at far
    unfolding walk
    word_right true e more =
        let whole = eqb-true (reach s at w) (length w) e in
        rw (e, whole) (word_goes w a (drop at s) at far (drop (at + length w) s) (begins s at w whole) (more (inside_yet s at w inside whole)))
    word_right false e more =
        rw (e, lost a s at (max far (at + reach s at w))) (stopped (max far (at + reach s at w)) (word_fails w a (drop at s) at far (short s at w e)))

    -- At a word that may stand, where the walks behind it and from here on are right.
    pick_right : (b : Layout A) → Apart w b → (c : Bool) → eqb (reach s at w) (length w) ≡ c
        → (at + length w ≤ length s → Right a s (at + length w) (max far (at + length w)))
        → Right b s at (max far (at + reach s at w))
        → Right (pick w a b) s at far
    unfolding walk
    pick_right b apart true e more other =
        let whole = eqb-true (reach s at w) (length w) e in
        let rest = drop (at + length w) s in
        let begun = begins s at w whole in
        rw (e, whole) (pick_goes w a (drop at s) at far b rest begun apart
        (word_goes w a (drop at s) at far rest begun (more (inside_yet s at w inside whole))))
    pick_right b apart false e more other = rw e (pick_fails w a (drop at s) at far b (short s at w e) other)

-- A walk along a clear layout is right from any place on.
walk_right : {A : Type 0} (l : Layout A) → Clear l → (s : List ℕ) (at far : ℕ) → at ≤ length s → at ≤ far → Right l s at far
unfolding Clear
walk_right (done v) c s at far inside near = done_right s at far inside near v (eqb at (length s)) refl
walk_right (word w l) c s at far inside near =
    word_right s at far inside near w l (eqb (reach s at w) (length w)) refl
    (λ i. walk_right l c s (at + length w) (max far (at + length w)) i (omega arith))
walk_right (pick w a b) c s at far inside near =
    pick_right s at far inside near w a b c.2 (eqb (reach s at w) (length w)) refl
    (λ i. walk_right a c.0 s (at + length w) (max far (at + length w)) i (omega arith))
    (walk_right b c.1 s at (max far (at + reach s at w)) inside (omega arith))

module _ {A : Type 0} (l : Layout A) (clear : Clear l) (s : List ℕ) where
  -- The verdict on a whole text.
  judged : Judged l s 0 0 (walk l s true 0 0)
  judged = walk_right l clear s 0 0 (omega arith) (omega arith)

  -- And where the walk stops.
  halted : (n : ℕ) → walk l s true 0 0 ≡ stops n → Stopped l s 0 0 n
  halted n e = only (subst (Judged l s 0 0) e judged)
    where
      only : Judged l s 0 0 (stops n) → Stopped l s 0 0 n
      only (stopped _ h) = h

  -- What the walk reads, the text says.
  pub walk_reads : (v : A) → walk l s true 0 0 ≡ reads v → Says v l s
  walk_reads v e = only (subst (Judged l s 0 0) e judged)
    where
      only : Judged l s 0 0 (reads v) → Says v l s
      only (read m) = m

  -- A walk that stops does so at the longest beginning that the text shares with some text of the layout.
  pub walk_stops : (n : ℕ) → walk l s true 0 0 ≡ stops n → Longest (TextOf l) s n
  walk_stops n e =
      let h = halted n e in
      let one = h.found.is_one in
      record {
        text = h.found.text;
        is_one = one;
        reached = omega (arith, h.most one.says h.found.text one.so);
        most = λ t m. omega (arith, h.most m.says t m.so);
      }

  -- And then the text is none of the layout.
  pub walk_never : (n : ℕ) → walk l s true 0 0 ≡ stops n → (TextOf l s → ⊥)
  walk_never n e m = (halted n e).never m.says m.so
