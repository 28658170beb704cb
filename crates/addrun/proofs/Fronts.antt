-- Laws of a list that has another one's first numbers and zeros after them: it grows by stores, one after another, until it is the whole.
-- Assumes nothing.
use mathlib.Core.List.{List, [], ◌∷◌}
use mathlib.Core.Path.{◌≡◌, sym, ap, ◌∙◌, subst}
use Prim.Native.Nat.{ℕ, suc, ◌+◌, ◌<◌, ◌≤◌}
use native.Mathlib.Omega.{arith}
use lib.ListN.{length, get_or, set, replicate, length-set, length-replicate, get_or-replicate, get_or-eq_default}
use lib.Seq.{sets, ext_get_or, get_or-set_same, get_or-set_other}
use Rattle.table.proofs.FlagLaws.{by_order}

-- part has the first n numbers of whole.
pub record Front (whole part : List ℕ) (n : ℕ) : Type 0 where
  pub size : length part ≡ length whole
  pub before : (j : ℕ) → j < n → get_or part j 0 ≡ get_or whole j 0
  pub after : (j : ℕ) → n ≤ j → get_or part j 0 ≡ 0

module _ (whole : List ℕ) where
  pub front_none : (k : ℕ) → length whole ≡ k → Front whole (replicate k 0) 0
  front_none k e = record {
    size = length-replicate k 0 ∙ sym e;
    before = λ j l. absurd (omega arith);
    after = λ j _.
        by_order j k (get_or-replicate k j 0 0) (λ l. get_or-eq_default (replicate k 0) 0 (omega (arith, length-replicate {A = ℕ} k 0)));
  }

  pub front_set : (part : List ℕ) (n v : ℕ) → n < length whole → v ≡ get_or whole n 0 → Front whole part n → Front whole (set part n v) (suc n)
  front_set part n v h e f = record {
    size = length-set part n v ∙ f.size;
    before = λ j l.
        by_order j n (λ m. get_or-set_other part n j v 0 (λ s. omega arith) ∙ f.before j m)
        (λ m.
        let s : n ≡ j = omega arith in
        subst (λ (i : ℕ). get_or (set part n v) i 0 ≡ get_or whole i 0) s (get_or-set_same part n v 0 (omega (arith, f.size)) ∙ e));
    after = λ j l. get_or-set_other part n j v 0 (λ s. omega arith) ∙ f.after j (omega arith);
  }

  pub front_sets : (vs part : List ℕ) (n : ℕ) → n + length vs ≤ length whole → ((j : ℕ) → j < length vs → get_or vs j 0 ≡ get_or whole (n + j) 0)
      → Front whole part n → Front whole (sets part n vs) (n + length vs)
  front_sets [] part n h e f = let s : n ≡ n + 0 = omega arith in subst (λ (m : ℕ). Front whole part m) s f
  front_sets (v ∷ vs) part n h e f =
      let first : n + 0 ≡ n = omega arith in
      let rest : suc n + length vs ≡ n + suc (length vs) = omega arith in
      let next : (j : ℕ) → n + suc j ≡ suc n + j = λ j. omega arith in
      subst (λ (m : ℕ). Front whole (sets part n (v ∷ vs)) m) rest
      (front_sets vs (set part n v) (suc n) (omega arith)
      (λ j l. e (suc j) (omega arith) ∙ ap (λ (i : ℕ). get_or whole i 0) (next j))
      (front_set part n v (omega arith) (e 0 (omega arith) ∙ ap (λ (i : ℕ). get_or whole i 0) first) f))

  -- zeros need no store
  pub front_further : (part : List ℕ) (n m : ℕ) → n ≤ m → ((j : ℕ) → n ≤ j → j < m → get_or whole j 0 ≡ 0) → Front whole part n → Front whole part m
  front_further part n m h z f = record {
    size = f.size;
    before = λ j l. by_order j n (f.before j) (λ k. f.after j k ∙ sym (z j k l));
    after = λ j l. f.after j (omega arith);
  }

  pub front_all : (part : List ℕ) (n : ℕ) → ((j : ℕ) → n ≤ j → get_or whole j 0 ≡ 0) → Front whole part n → part ≡ whole
  front_all part n z f = ext_get_or 0 part whole f.size (λ j _. by_order j n (f.before j) (λ k. f.after j k ∙ sym (z j k)))

  -- what 0 and a number of the whole have, the same number of the front has
  pub front_each : (part : List ℕ) (n : ℕ) (P : ℕ → Type 0) (j : ℕ) → P 0 → P (get_or whole j 0) → Front whole part n → P (get_or part j 0)
  front_each part n P j z p f = by_order j n (λ l. subst P (sym (f.before j l)) p) (λ l. subst P (sym (f.after j l)) z)
