-- The invariant of the loops that fill an array place by place.
use mathlib.Core.List.{List}
use mathlib.Core.Path.{◌≡◌, refl, sym, ◌∙◌}
use Prim.Native.Nat.{ℕ, zero, suc, ◌+◌, ◌≤◌, ◌<◌}
use borrow.Author.Count.{below_more}
use native.Mathlib.Omega.{arith}
use lib.ListN.{length, get_or, set, replicate, length-set, length-replicate}
use lib.Seq.{get_or-set_same, get_or-set_other, ext_get_or}
use Rattle.table.proofs.FlagLaws.{by_order}

-- The first i of the n places of l hold what f says.
pub record Filling (f : ℕ → ℕ) (n : ℕ) (l : List ℕ) (i : ℕ) : Type 0 where
  pub inside : i ≤ n
  pub whole : length l ≡ n
  pub so_far : (k : ℕ) → k < i → get_or l k 0 ≡ f k

pub filling_none : (f : ℕ → ℕ) (n : ℕ) (l : List ℕ) → length l ≡ n → Filling f n l 0
filling_none f n l e = record { inside = omega arith; whole = e; so_far = λ k h. absurd (omega arith) }

module _ (f : ℕ → ℕ) {n : ℕ} {l : List ℕ} {i : ℕ} (g : Filling f n l i) where
  pub filling_more : (w : ℕ) → i < n → w ≡ f i → Filling f n (set l i w) (i + 1)
  filling_more w h e = record {
    inside = omega arith;
    whole = length-set l i w ∙ g.whole;
    so_far =
        below_more (λ k. get_or (set l i w) k 0 ≡ f k) i
        (λ k below. get_or-set_other l i k w 0 (λ same. omega arith) ∙ g.so_far k below)
        (get_or-set_same l i w 0 (omega (arith, g.whole)) ∙ e);
  }

-- ---- an array of zeros, of which only the first places are filled: from there on f says 0

pub record Begun (f : ℕ → ℕ) (n : ℕ) (l : List ℕ) (i : ℕ) : Type 0 where
  pub filling : Filling f n l i
  pub empty : (k : ℕ) → i ≤ k → get_or l k 0 ≡ 0

pub begun_none : (f : ℕ → ℕ) (n : ℕ) → Begun f n (replicate n 0) 0
begun_none f n = record { filling = filling_none f n (replicate n 0) (length-replicate n 0); empty = λ k _. get_d_replicate n k }
  where
    get_d_replicate : (m k : ℕ) → get_or (replicate {A = ℕ} m 0) k 0 ≡ 0
    get_d_replicate zero k = refl
    get_d_replicate (suc m) zero = refl
    get_d_replicate (suc m) (suc k) = get_d_replicate m k

module _ (f : ℕ → ℕ) {n : ℕ} {l : List ℕ} {i : ℕ} (g : Begun f n l i) where
  pub begun_more : (w : ℕ) → i < n → w ≡ f i → Begun f n (set l i w) (i + 1)
  begun_more w h e = record {
    filling = filling_more f g.filling w h e;
    empty = λ k past. get_or-set_other l i k w 0 (λ same. omega arith) ∙ g.empty k (omega arith);
  }

  pub begun_all : (want : List ℕ) → ((k : ℕ) → i ≤ k → k < n → f k ≡ 0) → length want ≡ n → ((k : ℕ) → k < n → get_or want k 0 ≡ f k) → l ≡ want
  begun_all want rest e same =
      ext_get_or 0 l want (omega (arith, g.filling.whole))
      (λ k below.
      let inside : k < n = omega (arith, g.filling.whole) in
      rw (same k inside)
      (by_order k i (g.filling.so_far k) (λ past. g.empty k past ∙ sym (rest k past inside))))
