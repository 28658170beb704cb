-- A set with one fact more, a list with one place set, a piece more, a number more below a bound: each where a test holds.
-- Assumes nothing.
use mathlib.Core.Bool.{Bool, true, false, cond, ◌&&◌, ◌||◌, or-true, or-false, and-false, false≢true}
use mathlib.Core.List.{List}
use mathlib.Core.Path.{◌≡◌, refl, sym}
use Prim.Native.Nat.{ℕ, ◌+◌, ◌<◌, ◌≤◌}
use native.Mathlib.Omega.{arith}
use lib.Dec.{eqb, ltb}
use lib.ListN.{length, get_or, set, length-set}
use lib.Seq.{get_or-set_same, get_or-set_other}
use borrow.Author.Tests.{eqb-true, eqb-false, eq-eqb, ne_eqb, lt-ltb, le-ltb, ltb-true, ltb-false}
use Rattle.facts.specs.Sets.{width, has, joined, only}
use Rattle.facts.proofs.Laws.{has_joined, has_only}
use Rattle.table.proofs.SettingLaws.{get_or_set_in}
use Rattle.table.specs.Setting.{set_in}
use Rattle.table.specs.Lists.{piece}

pub has_grown : (b : Bool) (m x f : ℕ) → (b ≡ true → x < width) → has (cond b (joined m (only x)) m) f ≡ (has m f || (b && eqb f x))
has_grown true m x f l = rw (has_joined m (only x) f, has_only x f (l refl))
has_grown false m x f l = sym (or-false (has m f))

pub grown_inside : (b : Bool) (m x n : ℕ) → (b ≡ true → x < n) → n ≤ width → ((f : ℕ) → n ≤ f → has m f ≡ false)
    → (f : ℕ) → n ≤ f → has (cond b (joined m (only x)) m) f ≡ false
grown_inside true m x n l w none f h =
    let less = l refl in rw (has_joined m (only x) f, has_only x f (omega arith), none f h, ne_eqb f x (omega arith))
grown_inside false m x n l w none f h = none f h

-- The set of one place of a list of sets, where another place's set got a fact more.
pub get_grown : (b : Bool) (l : List ℕ) (n x a : ℕ) → (b ≡ true → n < length l)
    → get_or (cond b (set_in l n x true) l) a 0 ≡ cond (b && eqb a n) (joined (get_or l a 0) (only x)) (get_or l a 0)
get_grown true l n x a h = get_or_set_in l n x true a (h refl)
get_grown false l n x a h = refl

pub get_set : (b : Bool) (l : List ℕ) (n v a : ℕ) → (b ≡ true → n < length l)
    → get_or (cond b (set l n v) l) a 0 ≡ cond (b && eqb a n) v (get_or l a 0)
get_set false l n v a h = refl
get_set true l n v a h = at (eqb a n) refl
  where
    at : (c : Bool) → eqb a n ≡ c → get_or (set l n v) a 0 ≡ cond c v (get_or l a 0)
    at true e = rw (eqb-true a n e) (get_or-set_same l n v 0 (h refl))
    at false e = get_or-set_other l n a v 0 (eqb-false a n e)

pub length_set_if : (b : Bool) (l : List ℕ) (n v : ℕ) → length (cond b (set l n v) l) ≡ length l
length_set_if false l n v = refl
length_set_if true l n v = length-set l n v

-- A piece that stands where it stood or where a test holds; q is the rank of the new record.
pub grown_piece : (h b : Bool) (l new old : List ℕ) (r q : ℕ) → (b ≡ true → (l ≡ new) × (r ≡ q)) → (r ≡ q → b ≡ true)
    → (b ≡ false → piece h l ≡ old) → piece (h || b) l ≡ cond (eqb r q) new old
grown_piece h true l new old r q here back same = rw (or-true h, eq-eqb r q (here refl).1) (here refl).0
grown_piece h false l new old r q here back same = rw (or-false h, ne_eqb r q (λ e. false≢true (back e))) (same refl)

one_below : (c d : Bool) (i n : ℕ) → ltb i n ≡ c → eqb i n ≡ d → ltb i (n + 1) ≡ (c || d)
one_below true d i n e p = let l = ltb-true i n e in lt-ltb i (n + 1) (omega arith)
one_below false true i n e p = let l = eqb-true i n p in lt-ltb i (n + 1) (omega arith)
one_below false false i n e p = let l = ltb-false i n e in let o = eqb-false i n p in le-ltb i (n + 1) (omega arith)

pub more_below : (b : Bool) (i n : ℕ) → ltb i (cond b (n + 1) n) ≡ (ltb i n || (b && eqb i n))
more_below true i n = one_below (ltb i n) (eqb i n) i n refl refl
more_below false i n = sym (or-false (ltb i n))

pub and_or : (a b c : Bool) → (a && (b || c)) ≡ ((a && b) || (a && c))
and_or true b c = refl
and_or false b c = refl

-- A run is further and opened, or is the one that is opened now; p says it is further, q that it was opened, s that it is opened now.
pub or_opened : (p q s e : Bool) → (s ≡ true → p ≡ true) → (p && (q || s) && e) ≡ ((p && q && e) || (s && e))
or_opened true true s true further = refl
or_opened true true s false further = sym (and-false s)
or_opened true false s e further = refl
or_opened false q true e further = absurd (false≢true (further refl))
or_opened false q false e further = refl
