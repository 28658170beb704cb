-- Sets of small numbers (facts, and actions too) as the bits of one number: what each operation on a mask means.
use Rattle.std.specs.Prelude.{Bool, cond, ℕ, zero, suc, ◌+◌, ◌-◌, ◌/◌, ◌%◌, ◌^◌, min, eqb, ltb}
use Rattle.std.specs.Int.Bits.{bit_and, bit_or}
use Rattle.std.specs.Int.Count.{ones, count_trailing_zeros}

-- How many numbers a mask has room for: the facts of document 01, "Sizes".
abbrev pub width : ℕ
width = 64

-- Bit f of the mask m, as a number.
abbrev pub bit : ℕ → ℕ → ℕ
bit m f = m / 2 ^ f % 2

-- f is in the set m.
unfoldable pub has : ℕ → ℕ → Bool
has m f = eqb (bit m f) 1

-- The set of f alone; empty where a mask has no room for f.
unfoldable pub only : ℕ → ℕ
only f = cond (ltb f width) (2 ^ f) 0

-- In a or in b.
unfoldable pub joined : ℕ → ℕ → ℕ
joined a b = bit_or a b

-- In a and in b.
unfoldable pub shared : ℕ → ℕ → ℕ
shared a b = bit_and a b

-- In a and not in b.
unfoldable pub removed : ℕ → ℕ → ℕ
removed a b = a - bit_and a b

-- The set of all numbers below n, at most `width` of them.
unfoldable pub below : ℕ → ℕ
below n = 2 ^ min n width - 1

-- No number at or above n is in m.
unfoldable pub within : ℕ → ℕ → Bool
within m n = ltb m (2 ^ n)

-- How many numbers are in m.
unfoldable pub count : ℕ → ℕ
count m = ones m

-- The lowest number in m; `width` where m is empty.
unfoldable pub lowest : ℕ → ℕ
lowest m = count_trailing_zeros width m

-- How many numbers below n are in m, bit by bit.
unfoldable pub sum_bits : ℕ → ℕ → ℕ
sum_bits zero m = 0
sum_bits (suc n) m = sum_bits n m + bit m n
