-- The laws of sets held as masks: what is in the result of each operation, how large a mask is, and that a mask is known by what is in it.
-- Each is proved once for every fact number, 63 and 64 included. Assumes nothing.
use mathlib.Core.Bool.{Bool, true, false, not, ◌&&◌, ◌||◌, true≢false}
use mathlib.Core.Path.{◌≡◌, refl, sym, ap, ◌∙◌}
use Prim.Native.Nat.{ℕ, zero, suc, ◌+◌, ◌-◌, ◌/◌, ◌%◌, ◌^◌, ◌≤◌, ◌<◌, min, max, zero-le, suc-le-suc}
use native.Mathlib.Nat.{lt_of_lt_of_le, lt_of_not-le, zero-lt-suc, div-eq_of_lt, zero-div}
use native.Mathlib.Omega.{arith}
use lib.Bits.{bit_or, and_le_l, and_le_r, or_lt, or_add_and}
use lib.Dec.{eqb, ltb, eqb-zero-suc, eqb-suc-zero, eqb-suc-suc, leb-suc-zero, leb-suc-suc}
use lib.Pow.{pow_pos, pow_mono}
use borrow.Author.Tests.{ltb-true, ltb-false, lt-ltb, le-ltb}
use Rattle.facts.specs.Sets.{width, bit, has, only, joined, shared, removed, below, within}
use Rattle.facts.proofs.Digits.{digits, digit_same, bit_lt, bit_first, has_half, bit_joined, bit_shared, bit_removed}

-- ---- what is in the result of each operation

pub has_empty : (f : ℕ) → has 0 f ≡ false
unfolding has
has_empty f = ap (λ (x : ℕ). eqb (x % 2) 1) (zero-div (2 ^ f))

-- an operation on sets by an operation d on each pair of bits, which is c on tests
by_bits :
    (d : ℕ → ℕ → ℕ) (c : Bool → Bool → Bool) → ((x y : ℕ) → x < 2 → y < 2 → eqb (d x y) 1 ≡ c (eqb x 1) (eqb y 1))
    → (m a b f : ℕ) → bit m f ≡ d (bit a f) (bit b f) → has m f ≡ c (has a f) (has b f)
unfolding has
by_bits d c each m a b f e = ap (λ (x : ℕ). eqb x 1) e ∙ each (bit a f) (bit b f) (bit_lt a f) (bit_lt b f)

pub has_joined : (a b f : ℕ) → has (joined a b) f ≡ (has a f || has b f)
has_joined a b f = by_bits max ◌||◌ (digits _ refl refl refl refl) (joined a b) a b f (bit_joined a b f)

pub has_shared : (a b f : ℕ) → has (shared a b) f ≡ (has a f && has b f)
has_shared a b f = by_bits min ◌&&◌ (digits _ refl refl refl refl) (shared a b) a b f (bit_shared a b f)

pub has_removed : (a b f : ℕ) → has (removed a b) f ≡ (has a f && not (has b f))
has_removed a b f =
    by_bits (λ x y. x - min x y) (λ p q. p && not q) (digits _ refl refl refl refl) (removed a b) a b f (bit_removed a b f)

has_power : (f g : ℕ) → has (2 ^ f) g ≡ eqb g f
unfolding has
has_power zero zero = refl
has_power zero (suc g) = has_half 1 g ∙ has_empty g ∙ sym (eqb-suc-zero g)
has_power (suc f) zero =
    let even : 2 ^ suc f % 2 ≡ 0 = omega arith in
    ap (λ (x : ℕ). eqb x 1) (bit_first (2 ^ suc f) ∙ even) ∙ sym (eqb-zero-suc f)
has_power (suc f) (suc g) =
    let half : 2 ^ suc f / 2 ≡ 2 ^ f = omega arith in
    has_half (2 ^ suc f) g ∙ ap (λ (x : ℕ). has x g) half ∙ has_power f g ∙ sym (eqb-suc-suc g f)

pub only_in : (f : ℕ) → f < width → only f ≡ 2 ^ f
unfolding only
only_in f h = rw (lt-ltb f width h)

pub only_out : (f : ℕ) → width ≤ f → only f ≡ 0
unfolding only
only_out f h = rw (le-ltb f width h)

pub has_only : (f g : ℕ) → f < width → has (only f) g ≡ eqb g f
has_only f g h = ap (λ (x : ℕ). has x g) (only_in f h) ∙ has_power f g

-- one fact put in, one taken out
pub has_with : (m f g : ℕ) → f < width → has (joined m (only f)) g ≡ (has m g || eqb g f)
has_with m f g h = has_joined m (only f) g ∙ ap (λ (x : Bool). has m g || x) (has_only f g h)

pub has_without : (m f g : ℕ) → f < width → has (removed m (only f)) g ≡ (has m g && not (eqb g f))
has_without m f g h = has_removed m (only f) g ∙ ap (λ (x : Bool). has m g && not x) (has_only f g h)

has_ones : (n f : ℕ) → has (2 ^ n - 1) f ≡ ltb f n
unfolding has
has_ones zero f = has_empty f ∙ sym (leb-suc-zero f)
has_ones (suc n) zero =
    let odd : (2 ^ suc n - 1) % 2 ≡ 1 = omega (arith, pow_pos n) in
    ap (λ (x : ℕ). eqb x 1) (bit_first (2 ^ suc n - 1) ∙ odd) ∙ sym (lt-ltb 0 (suc n) (zero-lt-suc n))
has_ones (suc n) (suc f) =
    let half : (2 ^ suc n - 1) / 2 ≡ 2 ^ n - 1 = omega (arith, pow_pos n) in
    has_half (2 ^ suc n - 1) f ∙ ap (λ (x : ℕ). has x f) half ∙ has_ones n f ∙ sym (leb-suc-suc (suc f) n)

pub has_below : (n f : ℕ) → has (below n) f ≡ ltb f (min n width)
unfolding below
has_below n f = has_ones (min n width) f

-- ---- masks of n facts: below 2 ^ n, and nothing from n on

pub has_out : (m f : ℕ) → m < 2 ^ f → has m f ≡ false
unfolding has
has_out m f h = ap (λ (x : ℕ). eqb (x % 2) 1) (div-eq_of_lt h)

pub has_above : (m f g : ℕ) → m < 2 ^ f → f ≤ g → has m g ≡ false
has_above m f g h l = has_out m g (lt_of_lt_of_le h (pow_mono l))

pub within_lt : (m n : ℕ) → within m n ≡ true → m < 2 ^ n
unfolding within
within_lt m n h = ltb-true m (2 ^ n) h

pub lt_within : (m n : ℕ) → m < 2 ^ n → within m n ≡ true
unfolding within
lt_within m n h = lt-ltb m (2 ^ n) h

pub within_has : (m n f : ℕ) → within m n ≡ true → n ≤ f → has m f ≡ false
within_has m n f h l = has_above m n f (within_lt m n h) l

-- a join has no fact from n on exactly if neither part has one
pub within_joined : (a b n : ℕ) → within (joined a b) n ≡ (within a n && within b n)
unfolding within joined
within_joined a b n = pick (ltb a (2 ^ n)) (ltb b (2 ^ n)) refl refl
  where
    pick : (p q : Bool) → ltb a (2 ^ n) ≡ p → ltb b (2 ^ n) ≡ q → ltb (bit_or a b) (2 ^ n) ≡ (p && q)
    pick true true h k = lt-ltb (bit_or a b) (2 ^ n) (or_lt n a b (ltb-true a (2 ^ n) h) (ltb-true b (2 ^ n) k))
    pick true false h k = le-ltb (bit_or a b) (2 ^ n) (omega (arith, or_add_and a b, and_le_l a b, ltb-false b (2 ^ n) k))
    pick false q h k = le-ltb (bit_or a b) (2 ^ n) (omega (arith, or_add_and a b, and_le_r a b, ltb-false a (2 ^ n) h))

-- what is in a mask of n facts is below n
pub within_below : (m n f : ℕ) → within m n ≡ true → has m f ≡ true → f < n
within_below m n f h e = lt_of_not-le (λ (l : n ≤ f). true≢false (sym e ∙ within_has m n f h l))

-- ---- a mask is known by what is in it

same_first : (a b : ℕ) → has a 0 ≡ has b 0 → a % 2 ≡ b % 2
unfolding has
same_first a b e = sym (bit_first a) ∙ digit_same (bit a 0) (bit b 0) (bit_lt a 0) (bit_lt b 0) e ∙ bit_first b

same_rest : (n a b : ℕ) → ((f : ℕ) → f < suc n → has a f ≡ has b f) → (f : ℕ) → f < n → has (a / 2) f ≡ has (b / 2) f
same_rest n a b same f h = sym (has_half a f) ∙ same (suc f) (suc-le-suc h) ∙ has_half b f

pub same_below : (n a b : ℕ) → a < 2 ^ n → b < 2 ^ n → ((f : ℕ) → f < n → has a f ≡ has b f) → a ≡ b
same_below zero a b h k same = omega arith
same_below (suc n) a b h k same =
    let first = same_first a b (same 0 (zero-lt-suc n)) in
    let rest = same_below n (a / 2) (b / 2) (omega arith) (omega arith) (same_rest n a b same) in
    omega arith

lt_power : (n : ℕ) → n < 2 ^ n
lt_power zero = zero-lt-suc zero
lt_power (suc n) = omega (arith, lt_power n)

pub same_sets : (a b : ℕ) → ((f : ℕ) → has a f ≡ has b f) → a ≡ b
same_sets a b same =
    let less : a < 2 ^ (a + b) = lt_of_lt_of_le (lt_power a) (pow_mono (omega arith)) in
    let also : b < 2 ^ (a + b) = lt_of_lt_of_le (lt_power b) (pow_mono (omega arith)) in
    same_below (a + b) a b less also (λ f _. same f)

lt_of_none : (n m : ℕ) → ((f : ℕ) → n ≤ f → has m f ≡ false) → m < 2 ^ n
lt_of_none zero m none = let nothing = same_sets m 0 (λ f. none f zero-le ∙ sym (has_empty f)) in omega arith
lt_of_none (suc n) m none =
    let half = lt_of_none n (m / 2) (λ f l. sym (has_half m f) ∙ none (suc f) (suc-le-suc l)) in omega arith

pub has_within : (m n : ℕ) → ((f : ℕ) → n ≤ f → has m f ≡ false) → within m n ≡ true
has_within m n none = lt_within m n (lt_of_none n m none)

-- ---- results stay below 2 ^ width

pub joined_lt : (k a b : ℕ) → a < 2 ^ k → b < 2 ^ k → joined a b < 2 ^ k
unfolding joined
joined_lt = or_lt

pub shared_lt : (k a b : ℕ) → a < 2 ^ k → shared a b < 2 ^ k
unfolding shared
shared_lt k a b h = omega (arith, and_le_l a b)

pub removed_lt : (k a b : ℕ) → a < 2 ^ k → removed a b < 2 ^ k
unfolding removed
removed_lt k a b h = omega arith
