-- Tests of the numbers below a bound: whether all or some pass, how many do, which is the first; and sums.
use Rattle.std.specs.Prelude.{Bool, true, false, ◌&&◌, ◌||◌, cond, ℕ, zero, suc, ◌+◌, eqb, ltb}

-- Every number below n passes the test.
unfoldable pub every_below : (ℕ → Bool) → ℕ → Bool
every_below p zero = true
every_below p (suc n) = every_below p n && p n

-- Every number from `from` on and below n passes it.
unfoldable pub every_from : (ℕ → Bool) → ℕ → ℕ → Bool
every_from p from n = every_below (λ i. ltb i from || p i) n

-- Some number below n passes it.
unfoldable pub some_below : (ℕ → Bool) → ℕ → Bool
some_below p zero = false
some_below p (suc n) = some_below p n || p n

-- g 0 + g 1 + .. + g (n - 1)
unfoldable pub sum_below : (ℕ → ℕ) → ℕ → ℕ
sum_below g zero = 0
sum_below g (suc n) = sum_below g n + g n

-- How many numbers below n pass the test.
unfoldable pub count_below : (ℕ → Bool) → ℕ → ℕ
count_below p n = sum_below (λ i. cond (p i) 1 0) n

-- The first number below n that passes the test; n where there is none.
unfoldable pub first_where : (ℕ → Bool) → ℕ → ℕ
first_where p zero = 0
first_where p (suc n) = cond (eqb (first_where p n) n) (cond (p n) n (suc n)) (first_where p n)
