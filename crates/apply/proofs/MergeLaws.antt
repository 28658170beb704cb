-- Laws of the merged list (02, request 7): it ascends, has the numbers of both lists and is the only such list; and what is common to two lists
-- does not change which of them comes first. Assumes nothing.
use mathlib.Core.Bool.{Bool, true, ◌||◌, or_assoc, or_comm, or_self_left}
use mathlib.Core.List.{List, [], ◌∷◌}
use mathlib.Core.Logic.{inl, inr, ⊎_elim}
use mathlib.Core.Path.{◌≡◌, refl, sym, ap, ◌∙◌, subst}
use Prim.Native.Nat.{ℕ, suc, ◌<◌, ◌≤◌}
use native.Mathlib.Omega.{arith}
use borrow.Author.Tests.{lt-ltb, le-ltb, eq-eqb, ne_eqb}
use lib.Dec.{eqb}
use lib.ListN.{length}
use Rattle.table.proofs.FlagLaws.{or_cases, or_right}
use Rattle.table.proofs.OrderLaws.{compared, is_in_head, is_in_tail, ascending_later, not_after_length, ≼_length, subset_first, same_members}
use Rattle.table.specs.Order.{Ascending, AscendingFrom, is_in, NotAfter, ◌≼◌}
use Rattle.apply.specs.Sittings.{with_number, merged, Apart, SplitInto}

-- ---- a number put in its place

module _ (n x : ℕ) (l : List ℕ) where
  with_before : n < x → with_number n (x ∷ l) ≡ n ∷ x ∷ l
  unfolding with_number
  with_before h = rw (lt-ltb n x h)

  with_there : n ≡ x → with_number n (x ∷ l) ≡ x ∷ l
  unfolding with_number
  with_there h = rw (le-ltb n x (omega arith), eq-eqb n x h)

  with_after : x < n → with_number n (x ∷ l) ≡ x ∷ with_number n l
  unfolding with_number
  with_after h = rw (le-ltb n x (omega arith), ne_eqb n x (λ e. omega arith))

with_in : (n : ℕ) (l : List ℕ) (m : ℕ) → is_in (with_number n l) m ≡ (eqb m n || is_in l m)
unfolding with_number is_in
with_in n [] m = refl
with_in n (x ∷ l) m =
    ⊎_elim (λ h. ap (λ (s : List ℕ). is_in s m) (with_before n x l h))
    (⊎_elim
    (λ (h : n ≡ x).
    ap (λ (s : List ℕ). is_in s m) (with_there n x l h) ∙ sym (or_self_left (eqb m x) (is_in l m)) ∙ ap (λ (y : ℕ). eqb m y || (eqb m x || is_in l m)) (sym h))
    (λ h.
    ap (λ (s : List ℕ). is_in s m) (with_after n x l h) ∙ ap (λ (b : Bool). eqb m x || b) (with_in n l m) ∙
    sym (or_assoc (eqb m x) (eqb m n) (is_in l m)) ∙ ap (λ (b : Bool). b || is_in l m) (or_comm (eqb m x) (eqb m n)) ∙
    or_assoc (eqb m n) (eqb m x) (is_in l m)))
    (compared n x)

with_ascending : (low n : ℕ) (l : List ℕ) → low ≤ n → AscendingFrom low l → AscendingFrom low (with_number n l)
unfolding with_number
with_ascending low n [] h u = (h, tt)
with_ascending low n (x ∷ l) h u =
    ⊎_elim (λ before. subst (AscendingFrom low) (sym (with_before n x l before)) (h, (before, u.1)))
    (⊎_elim (λ there. subst (AscendingFrom low) (sym (with_there n x l there)) u)
    (λ after. subst (AscendingFrom low) (sym (with_after n x l after)) (u.0, with_ascending (suc x) n l after u.1)))
    (compared n x)

-- ---- the merged list: ascending, the numbers of both

pub merged_in : (a b : List ℕ) (m : ℕ) → is_in (merged a b) m ≡ (is_in a m || is_in b m)
unfolding merged is_in
merged_in [] b m = refl
merged_in (n ∷ a) b m =
    with_in n (merged a b) m ∙ ap (λ (t : Bool). eqb m n || t) (merged_in a b m) ∙ sym (or_assoc (eqb m n) (is_in a m) (is_in b m))

pub merged_ascending : (a b : List ℕ) → Ascending b → Ascending (merged a b)
unfolding merged
merged_ascending [] b u = u
merged_ascending (n ∷ a) b u = with_ascending 0 n (merged a b) (omega arith) (merged_ascending a b u)

-- and the only such list
pub merged_only : (a b l : List ℕ) → Ascending b → Ascending l → ((n : ℕ) → is_in l n ≡ (is_in a n || is_in b n)) → l ≡ merged a b
merged_only a b l u v same =
    let e : (n : ℕ) → is_in l n ≡ is_in (merged a b) n = λ n. same n ∙ sym (merged_in a b n) in
    same_members 0 0 l (merged a b) v (merged_ascending a b u) (λ n h. sym (e n) ∙ h) (λ n h. e n ∙ h)

pub merged_swap : (a b : List ℕ) → Ascending a → Ascending b → merged a b ≡ merged b a
merged_swap a b u v = merged_only b a (merged a b) u (merged_ascending a b v) (λ n. merged_in a b n ∙ or_comm (is_in a n) (is_in b n))

pub split_swap : (l a b : List ℕ) → SplitInto l a b → SplitInto l b a
split_swap l a b s = record {
  morning_ascending = s.afternoon_ascending;
  afternoon_ascending = s.morning_ascending;
  apart = λ n h k. s.apart n k h;
  whole = merged_swap b a s.afternoon_ascending s.morning_ascending ∙ s.whole;
}

-- ---- what is common to two lists does not change which comes first

abbrev Lacks : List ℕ → ℕ → Type 0
Lacks l n = is_in l n ≡ true → ⊥

-- Where a number is put that a list lacks: before its first number, or further on.
data Place (n x : ℕ) (l : List ℕ) : List ℕ → Type 0 where
  before : n < x → Place n x l (n ∷ x ∷ l)
  after : x < n → Place n x l (x ∷ with_number n l)

placed : (n x : ℕ) (l : List ℕ) → Lacks (x ∷ l) n → Place n x l (with_number n (x ∷ l))
placed n x l out =
    ⊎_elim (λ h. subst (Place n x l) (sym (with_before n x l h)) (before h))
    (⊎_elim (λ (h : n ≡ x). absurd (out (subst (λ (y : ℕ). is_in (x ∷ l) y ≡ true) (sym h) (is_in_head x l))))
    (λ h. subst (Place n x l) (sym (with_after n x l h)) (after h)))
    (compared n x)

placed_length : (n x : ℕ) (l s : List ℕ) → Place n x l s → length (with_number n l) ≡ suc (length l) → length s ≡ suc (length (x ∷ l))
placed_length n x l _ (before h) rest = refl
placed_length n x l _ (after h) rest = ap suc rest

with_length : (n : ℕ) (l : List ℕ) → Lacks l n → length (with_number n l) ≡ suc (length l)
unfolding with_number
with_length n [] out = refl
with_length n (x ∷ l) out =
    placed_length n x l (with_number n (x ∷ l)) (placed n x l out) (with_length n l (λ t. out (is_in_tail x l n t)))

placed_not_after : (n x y : ℕ) (p q s t : List ℕ) → Place n x p s → Place n y q t → length p ≡ length q
    → (NotAfter (with_number n p) (with_number n q) → NotAfter p q) → NotAfter s t → NotAfter (x ∷ p) (y ∷ q)
placed_not_after n x y p q _ _ (before a) (before b) e rest (inl h) = absurd (omega (arith, h.0))
placed_not_after n x y p q _ _ (before a) (before b) e rest (inr h) = h.1
placed_not_after n x y p q _ _ (before a) (after b) e rest (inl h) = absurd (omega (arith, h.0))
placed_not_after n x y p q _ _ (before a) (after b) e rest (inr h) = absurd (omega (arith, h.0))
placed_not_after n x y p q _ _ (after a) (before b) e rest h = inl (omega arith, e)
placed_not_after n x y p q _ _ (after a) (after b) e rest (inl h) = inl (h.0, e)
placed_not_after n x y p q _ _ (after a) (after b) e rest (inr h) = inr (h.0, rest h.1)

-- One number put to both lists, of which neither has it.
with_lengths : (n : ℕ) (p q : List ℕ) → Lacks p n → Lacks q n → NotAfter (with_number n p) (with_number n q) → length p ≡ length q
with_lengths n p q out gone h = omega (arith, not_after_length (with_number n p) (with_number n q) h, with_length n p out, with_length n q gone)

with_not_after : (n : ℕ) (p q : List ℕ) → Lacks p n → Lacks q n → NotAfter (with_number n p) (with_number n q) → NotAfter p q
with_not_after n [] [] out gone h = tt
with_not_after n [] (y ∷ q) out gone h = absurd (omega (arith, with_lengths n [] (y ∷ q) out gone h))
with_not_after n (x ∷ p) [] out gone h = absurd (omega (arith, with_lengths n (x ∷ p) [] out gone h))
with_not_after n (x ∷ p) (y ∷ q) out gone h =
    placed_not_after n x y p q (with_number n (x ∷ p)) (with_number n (y ∷ q)) (placed n x p out) (placed n y q gone)
    (omega (arith, with_lengths n (x ∷ p) (y ∷ q) out gone h))
    (with_not_after n p q (λ t. out (is_in_tail x p n t)) (λ t. gone (is_in_tail y q n t))) h

with_first : (n : ℕ) (p q : List ℕ) → Lacks p n → Lacks q n → with_number n p ≼ with_number n q → p ≼ q
with_first n p q out gone (inl h) = inl (omega (arith, with_length n p out, with_length n q gone))
with_first n p q out gone (inr h) = inr (with_not_after n p q out gone h)

-- A number that is in neither list is not in the merged one.
merged_lacks : (a b : List ℕ) (n : ℕ) → Lacks a n → Lacks b n → Lacks (merged a b) n
merged_lacks a b n out gone h = ⊎_elim out gone (or_cases (is_in a n) (is_in b n) (sym (merged_in a b n) ∙ h))

pub merged_first : (low : ℕ) (a p q : List ℕ) → AscendingFrom low a → Apart a p → Apart a q → merged a p ≼ merged a q → p ≼ q
unfolding merged
merged_first low [] p q u out gone h = h
merged_first low (n ∷ a) p q u out gone h =
    let own : Lacks a n = λ t. absurd (omega (arith, ascending_later (suc n) a n u.1 t)) in
    merged_first (suc n) a p q u.1 (λ m t. out m (is_in_tail n a m t)) (λ m t. gone m (is_in_tail n a m t))
    (with_first n (merged a p) (merged a q) (merged_lacks a p n own (out n (is_in_head n a))) (merged_lacks a q n own (gone n (is_in_head n a))) h)

-- The rest is no longer than the whole.
pub merged_length : (a b : List ℕ) → Ascending b → length b ≤ length (merged a b)
merged_length a b u =
    ≼_length b (merged a b) (subset_first 0 (merged a b) 0 b u (merged_ascending a b u) (λ n h. merged_in a b n ∙ or_right (is_in a n) (is_in b n) h))
