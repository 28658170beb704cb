-- Laws of lists of repair numbers: membership, ascending lists, and the order in which shorter lists come first.
use mathlib.Core.Bool.{true, ◌||◌, or_assoc, false≢true}
use mathlib.Core.List.{List, [], ◌∷◌, ◌++◌}
use mathlib.Core.Logic.{◌⊎◌, inl, inr, ⊎_elim}
use mathlib.Core.Path.{◌≡◌, refl, sym, ap, ◌∙◌, subst}
use Prim.Native.Nat.{ℕ, suc, ◌<◌, ◌≤◌}
use native.Mathlib.Omega.{arith}
use borrow.Author.Tests.{eqb-true, eq-eqb}
use lib.Dec.{eqb}
use lib.ListN.{length, length-append}
use Rattle.table.proofs.FlagLaws.{or_cases, or_left, or_right, by_order}
use Rattle.table.specs.Order.{is_in, AscendingFrom, NotAfter, ◌≼◌}

-- ---- two numbers

-- The three ways two numbers can stand.
pub compared : (x y : ℕ) → (x < y) ⊎ ((x ≡ y) ⊎ (y < x))
compared x y = by_order x y inl (λ l. inr (by_order y x inr (λ m. inl (omega arith))))

-- ---- membership

pub is_in_none : (n : ℕ) → is_in [] n ≡ true → ⊥
unfolding is_in
is_in_none n h = false≢true h

pub is_in_head : (x : ℕ) (l : List ℕ) → is_in (x ∷ l) x ≡ true
unfolding is_in
is_in_head x l = or_left (eqb x x) (is_in l x) (eq-eqb x x refl)

pub is_in_tail : (x : ℕ) (l : List ℕ) (n : ℕ) → is_in l n ≡ true → is_in (x ∷ l) n ≡ true
unfolding is_in
is_in_tail x l n h = or_right (eqb n x) (is_in l n) h

pub is_in_cases : (x : ℕ) (l : List ℕ) (n : ℕ) → is_in (x ∷ l) n ≡ true → (n ≡ x) ⊎ (is_in l n ≡ true)
unfolding is_in
is_in_cases x l n h = ⊎_elim (λ e. inl (eqb-true n x e)) inr (or_cases (eqb n x) (is_in l n) h)

-- a member of x ∷ l that is not x is one of l
is_in_other : (x : ℕ) (l : List ℕ) (n : ℕ) → (n ≡ x → ⊥) → is_in (x ∷ l) n ≡ true → is_in l n ≡ true
is_in_other x l n other h = ⊎_elim (λ e. absurd (other e)) (λ t. t) (is_in_cases x l n h)

pub is_in_append : (a b : List ℕ) (n : ℕ) → is_in (a ++ b) n ≡ (is_in a n || is_in b n)
unfolding is_in
is_in_append [] b n = refl
is_in_append (x ∷ a) b n = ap (λ t. eqb n x || t) (is_in_append a b n) ∙ sym (or_assoc (eqb n x) (is_in a n) (is_in b n))

pub is_in_left : (a b : List ℕ) (n : ℕ) → is_in a n ≡ true → is_in (a ++ b) n ≡ true
is_in_left a b n h = is_in_append a b n ∙ or_left (is_in a n) (is_in b n) h

pub is_in_right : (a b : List ℕ) (n : ℕ) → is_in b n ≡ true → is_in (a ++ b) n ≡ true
is_in_right a b n h = is_in_append a b n ∙ or_right (is_in a n) (is_in b n) h

pub is_in_either : (a b : List ℕ) (n : ℕ) → is_in (a ++ b) n ≡ true → (is_in a n ≡ true) ⊎ (is_in b n ≡ true)
is_in_either a b n h = or_cases (is_in a n) (is_in b n) (sym (is_in_append a b n) ∙ h)

-- ---- ascending lists

pub ascending_weaken : (low high : ℕ) (l : List ℕ) → low ≤ high → AscendingFrom high l → AscendingFrom low l
ascending_weaken low high [] h u = tt
ascending_weaken low high (x ∷ l) h u = (omega (arith, u.0), u.1)

pub ascending_raise : (low high : ℕ) (l : List ℕ) → AscendingFrom low l → ((n : ℕ) → is_in l n ≡ true → high ≤ n)
    → AscendingFrom high l
ascending_raise low high [] u above = tt
ascending_raise low high (x ∷ l) u above = (above x (is_in_head x l), u.1)

pub ascending_later : (low : ℕ) (l : List ℕ) (n : ℕ) → AscendingFrom low l → is_in l n ≡ true → low ≤ n
ascending_later low [] n u m = absurd (is_in_none n m)
ascending_later low (x ∷ l) n u m =
    ⊎_elim (λ e. omega (arith, u.0)) (λ t. omega (arith, u.0, ascending_later (suc x) l n u.1 t)) (is_in_cases x l n m)

pub ascending_append : (low mid : ℕ) (a b : List ℕ) → AscendingFrom low a → ((n : ℕ) → is_in a n ≡ true → n < mid)
    → low ≤ mid → AscendingFrom mid b → AscendingFrom low (a ++ b)
ascending_append low mid [] b u below h v = ascending_weaken low mid b h v
ascending_append low mid (x ∷ a) b u below h v =
    (u.0, ascending_append (suc x) mid a b u.1 (λ n t. below n (is_in_tail x a n t)) (below x (is_in_head x a)) v)

-- ---- the order

pub not_after_length : (a b : List ℕ) → NotAfter a b → length a ≡ length b
not_after_length [] [] h = refl
not_after_length [] (y ∷ b) h = absurd h
not_after_length (x ∷ a) [] h = absurd h
not_after_length (x ∷ a) (y ∷ b) (inl h) = ap suc h.1
not_after_length (x ∷ a) (y ∷ b) (inr h) = ap suc (not_after_length a b h.1)

pub not_after_refl : (a : List ℕ) → NotAfter a a
not_after_refl [] = tt
not_after_refl (x ∷ a) = inr (refl, not_after_refl a)

pub not_after_trans : (a b c : List ℕ) → NotAfter a b → NotAfter b c → NotAfter a c
not_after_trans [] [] c p q = q
not_after_trans [] (y ∷ b) c p q = absurd p
not_after_trans (x ∷ a) [] c p q = absurd p
not_after_trans (x ∷ a) (y ∷ b) [] p q = absurd q
not_after_trans (x ∷ a) (y ∷ b) (z ∷ c) (inl p) (inl q) = inl (omega (arith, p.0, q.0), p.1 ∙ q.1)
not_after_trans (x ∷ a) (y ∷ b) (z ∷ c) (inl p) (inr q) =
    inl (omega (arith, p.0, q.0), p.1 ∙ not_after_length b c q.1)
not_after_trans (x ∷ a) (y ∷ b) (z ∷ c) (inr p) (inl q) =
    inl (omega (arith, p.0, q.0), not_after_length a b p.1 ∙ q.1)
not_after_trans (x ∷ a) (y ∷ b) (z ∷ c) (inr p) (inr q) = inr (p.0 ∙ q.0, not_after_trans a b c p.1 q.1)

pub not_after_antisymmetric : (a b : List ℕ) → NotAfter a b → NotAfter b a → a ≡ b
not_after_antisymmetric [] [] p q = refl
not_after_antisymmetric [] (y ∷ b) p q = absurd p
not_after_antisymmetric (x ∷ a) [] p q = absurd p
not_after_antisymmetric (x ∷ a) (y ∷ b) (inl p) (inl q) = absurd (omega (arith, p.0, q.0))
not_after_antisymmetric (x ∷ a) (y ∷ b) (inl p) (inr q) = absurd (omega (arith, p.0, q.0))
not_after_antisymmetric (x ∷ a) (y ∷ b) (inr p) (inl q) = absurd (omega (arith, p.0, q.0))
not_after_antisymmetric (x ∷ a) (y ∷ b) (inr p) (inr q) = λ i. p.0 i ∷ not_after_antisymmetric a b p.1 q.1 i

pub not_after_append : (a c b d : List ℕ) → NotAfter a c → NotAfter b d → NotAfter (a ++ b) (c ++ d)
not_after_append [] [] b d p q = q
not_after_append [] (y ∷ c) b d p q = absurd p
not_after_append (x ∷ a) [] b d p q = absurd p
not_after_append (x ∷ a) (y ∷ c) b d (inl p) q =
    inl (p.0, omega (arith, p.1, length-append a b, length-append c d, not_after_length b d q))
not_after_append (x ∷ a) (y ∷ c) b d (inr p) q = inr (p.0, not_after_append a c b d p.1 q)

pub ≼_refl : (a : List ℕ) → a ≼ a
≼_refl a = inr (not_after_refl a)

pub ≼_none : (a : List ℕ) → [] ≼ a
≼_none [] = inr tt
≼_none (x ∷ a) = inl (omega arith)

pub ≼_length : (a b : List ℕ) → a ≼ b → length a ≤ length b
≼_length a b (inl p) = omega arith
≼_length a b (inr p) = omega (arith, not_after_length a b p)

pub ≼_trans : (a b c : List ℕ) → a ≼ b → b ≼ c → a ≼ c
≼_trans a b c (inl p) (inl q) = inl (omega arith)
≼_trans a b c (inl p) (inr q) = inl (omega (arith, not_after_length b c q))
≼_trans a b c (inr p) (inl q) = inl (omega (arith, not_after_length a b p))
≼_trans a b c (inr p) (inr q) = inr (not_after_trans a b c p q)

pub ≼_antisymmetric : (a b : List ℕ) → a ≼ b → b ≼ a → a ≡ b
≼_antisymmetric a b (inl p) (inl q) = absurd (omega arith)
≼_antisymmetric a b (inl p) (inr q) = absurd (omega (arith, not_after_length b a q))
≼_antisymmetric a b (inr p) (inl q) = absurd (omega (arith, not_after_length a b p))
≼_antisymmetric a b (inr p) (inr q) = not_after_antisymmetric a b p q

pub ≼_append : (a c b d : List ℕ) → a ≼ c → b ≼ d → (a ++ b) ≼ (c ++ d)
≼_append a c b d (inl p) q = inl (omega (arith, length-append a b, length-append c d, ≼_length b d q))
≼_append a c b d (inr p) (inl q) = inl (omega (arith, length-append a b, length-append c d, not_after_length a c p))
≼_append a c b d (inr p) (inr q) = inr (not_after_append a c b d p q)

-- ---- an ascending list and those that contain it

-- The members of a list that ascends from above y are members of b where they are members of y ∷ b.
without_head : (low y : ℕ) (a b : List ℕ) → AscendingFrom low a → y < low → (n : ℕ) → is_in a n ≡ true → is_in (y ∷ b) n ≡ true → is_in b n ≡ true
without_head low y a b u after n h = is_in_other y b n (λ e. omega (arith, ascending_later low a n u h))

-- An ascending list comes before, or equals, every ascending list that contains it.
pub subset_first : (lb : ℕ) (b : List ℕ) (la : ℕ) (a : List ℕ) → AscendingFrom la a → AscendingFrom lb b
    → ((n : ℕ) → is_in a n ≡ true → is_in b n ≡ true) → a ≼ b
subset_first lb [] la [] u v part = inr tt
subset_first lb [] la (x ∷ a) u v part = absurd (is_in_none x (part x (is_in_head x a)))
subset_first lb (y ∷ b) la [] u v part = inl (omega arith)
subset_first lb (y ∷ b) la (x ∷ a) u v part =
    ⊎_elim
    (λ (e : x ≡ y).
    ⊎_elim (λ p. inl (omega arith)) (λ p. inr (inr (e, p)))
    (subset_first (suc y) b (suc x) a u.1 v.1 (λ n t. without_head (suc x) y a b u.1 (omega arith) n t (part n (is_in_tail x a n t)))))
    (λ t.
    let whole : AscendingFrom x (x ∷ a) = (omega arith, u.1) in
    let later = without_head x y (x ∷ a) b whole (ascending_later (suc y) b x v.1 t) in
    inl (omega (arith, ≼_length (x ∷ a) b (subset_first (suc y) b x (x ∷ a) whole v.1 (λ n m. later n m (part n m))))))
    (is_in_cases y b x (part x (is_in_head x a)))

-- Two ascending lists with the same members are equal.
pub same_members : (la lb : ℕ) (a b : List ℕ) → AscendingFrom la a → AscendingFrom lb b
    → ((n : ℕ) → is_in a n ≡ true → is_in b n ≡ true) → ((n : ℕ) → is_in b n ≡ true → is_in a n ≡ true) → a ≡ b
same_members la lb a b u v there back =
    ≼_antisymmetric a b (subset_first lb b la a u v there) (subset_first la a lb b v u back)

-- ---- a list split at a number

-- The members of l below m, then those from m on.
pub record Split (low : ℕ) (l : List ℕ) (m : ℕ) : Type 0 where
  pub left : List ℕ
  pub right : List ℕ
  pub whole : left ++ right ≡ l
  pub below : (n : ℕ) → is_in left n ≡ true → n < m
  pub above : (n : ℕ) → is_in right n ≡ true → m ≤ n
  pub left_ascending : AscendingFrom low left
  pub right_ascending : AscendingFrom m right

split_here : (low m : ℕ) (l : List ℕ) → AscendingFrom m l → Split low l m
split_here low m l u = record {
  left = [];
  right = l;
  whole = refl;
  below = λ n t. absurd (is_in_none n t);
  above = λ n t. ascending_later m l n u t;
  left_ascending = tt;
  right_ascending = u;
}

split_later : (low x m : ℕ) (l : List ℕ) → low ≤ x → x < m → Split (suc x) l m → Split low (x ∷ l) m
split_later low x m l u h s = record {
  left = x ∷ s.left;
  right = s.right;
  whole = λ i. x ∷ s.whole i;
  below = λ n t. ⊎_elim (λ e. omega arith) (s.below n) (is_in_cases x s.left n t);
  above = s.above;
  left_ascending = (u, s.left_ascending);
  right_ascending = s.right_ascending;
}

pub split_at : (low : ℕ) (l : List ℕ) → AscendingFrom low l → (m : ℕ) → Split low l m
split_at low [] u m = split_here low m [] tt
split_at low (x ∷ l) u m =
    by_order x m (λ h. split_later low x m l u.0 h (split_at (suc x) l u.1 m)) (λ h. split_here low m (x ∷ l) (h, u.1))

pub split_left_in : (low : ℕ) (l : List ℕ) (m : ℕ) (s : Split low l m) (n : ℕ) → is_in s.left n ≡ true → is_in l n ≡ true
split_left_in low l m s n h = subst (λ (w : List ℕ). is_in w n ≡ true) s.whole (is_in_left s.left s.right n h)

pub split_right_in : (low : ℕ) (l : List ℕ) (m : ℕ) (s : Split low l m) (n : ℕ) → is_in s.right n ≡ true → is_in l n ≡ true
split_right_in low l m s n h = subst (λ (w : List ℕ). is_in w n ≡ true) s.whole (is_in_right s.left s.right n h)

pub split_either : (low : ℕ) (l : List ℕ) (m : ℕ) (s : Split low l m) (n : ℕ)
    → is_in l n ≡ true → (is_in s.left n ≡ true) ⊎ (is_in s.right n ≡ true)
split_either low l m s n h =
    is_in_either s.left s.right n (subst (λ (w : List ℕ). is_in w n ≡ true) (sym s.whole) h)

-- Of two ascending lists of equal length, the one that has the first number in which they differ comes first.
pub first_difference_first : (la lb : ℕ) (a b : List ℕ) (n : ℕ) → AscendingFrom la a → AscendingFrom lb b → length a ≡ length b
    → is_in a n ≡ true → (is_in b n ≡ true → ⊥) → ((m : ℕ) → m < n → is_in a m ≡ true → is_in b m ≡ true)
    → ((m : ℕ) → m < n → is_in b m ≡ true → is_in a m ≡ true) → NotAfter a b
first_difference_first la lb [] b n u v e here gone there back = absurd (is_in_none n here)
first_difference_first la lb (x ∷ a) [] n u v e here gone there back = absurd (omega arith)
first_difference_first la lb (x ∷ a) (y ∷ b) n u v e here gone there back =
    let whole : AscendingFrom x (x ∷ a) = (omega arith, u.1) in
    ⊎_elim (λ p. inl (p, omega arith))
    (⊎_elim
    (λ (p : x ≡ y).
    let later = is_in_other x a n (λ q. gone (subst (λ k. is_in (y ∷ b) k ≡ true) (sym p ∙ sym q) (is_in_head y b))) here in
    inr (
      p,
      first_difference_first (suc x) (suc y) a b n u.1 v.1 (omega arith) later (λ t. gone (is_in_tail y b n t))
          (λ m h t. without_head (suc x) y a b u.1 (omega arith) m t (there m h (is_in_tail x a m t)))
          (λ m h t. without_head (suc y) x b a v.1 (omega arith) m t (back m h (is_in_tail y b m t))),
    ))
    (λ (p : y < x).
    let before : y < n = omega (arith, ascending_later x (x ∷ a) n whole here) in
    absurd (omega (arith, ascending_later x (x ∷ a) y whole (back y before (is_in_head y b))))))
    (compared x y)
