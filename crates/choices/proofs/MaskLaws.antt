-- Laws of a choice as three masks of actions: what is in it, its size as counts, its next code as a lowest place, the codes below
-- one.
use mathlib.Core.Bool.{true, false, not, ◌&&◌, and-true, and-false}
use mathlib.Core.Path.{◌≡◌, refl, sym, ap, ◌∙◌}
use Prim.Native.Nat.{ℕ, zero, suc, ◌+◌, ◌*◌, ◌-◌, ◌^◌, ◌<◌, ◌≤◌, min}
use native.Mathlib.Decide.{dec_lt}
use native.Mathlib.Omega.{arith}
use borrow.Author.Tests.{eq-eqb, lt-ltb, le-ltb, ltb-true, ltb-false, not-true}
use lib.Dec.{ltb}
use lib.ListN.{length}
use Rattle.facts.specs.Sets.{width, bit, has, shared, removed, below, count, lowest, sum_bits}
use Rattle.facts.proofs.Counting.{bit_has, count_sum, lowest_has, lowest_first, lowest_empty}
use Rattle.facts.proofs.Digits.{bit_lt}
use Rattle.facts.proofs.Laws.{has_shared, has_removed, has_below, shared_lt, removed_lt}
use Rattle.table.specs.Lists.{gather}
use Rattle.table.specs.Repairs.{drop_delete, add_effect, drop_need, chosen}
use Rattle.table.proofs.FlagLaws.{and_left, and_right, same_flag}
use Rattle.table.proofs.RepairNumbers.{fact_back, kind_back, action_back}
use Rattle.table.specs.Sizes.{max_actions, per_kind, kinds}
use Rattle.choices.specs.declared.Choice.{Choice}
use Rattle.choices.specs.Choices.{code_of, code_kind, code_action, in_choice, numbers_in, list_of}
use Rattle.choices.specs.Trying.{mask_in, CodesBelow, NextAction, NextIn}
use Rattle.table.proofs.GatherLaws.{passing}
use Rattle.choices.proofs.ChoiceLaws.{weight, codes, codes_length}

-- The repair of a code, in its kind's mask.
in_kind : (s : Choice) (k c : ℕ) → per_kind * k ≤ c → c < per_kind * k + per_kind → in_choice s c ≡ has (mask_in k s) (c - per_kind * k)
unfolding in_choice
in_kind s k c low high =
    let kind : code_kind c ≡ k = omega arith in
    let action : code_action c ≡ c - per_kind * k = omega arith in
    ap (λ j. has (mask_in j s) (code_action c)) kind ∙ ap (λ a. has (mask_in k s) a) action

pub chosen_has : (f : ℕ) (s : Choice) (k a : ℕ) → k < kinds → a < max_actions → chosen (numbers_in f s) f k a ≡ has (mask_in k s) a
unfolding chosen numbers_in in_choice
chosen_has f s k a hk ha =
    rw (lt-ltb a max_actions ha, fact_back f k a hk ha, kind_back f k a hk ha, action_back f k a hk ha, eq-eqb f f refl)

pub in_choice_has : (s : Choice) (k a : ℕ) → a < max_actions → in_choice s (code_of k a) ≡ has (mask_in k s) a
unfolding in_choice
in_choice_has s k a ha =
    let kind : code_kind (code_of k a) ≡ k = omega arith in
    let action : code_action (code_of k a) ≡ a = omega arith in
    rw (kind, action)

-- ---- the size

pub sum_bits_le : (n m : ℕ) → sum_bits n m ≤ n
unfolding sum_bits
sum_bits_le zero m = omega arith
sum_bits_le (suc n) m = omega (arith, sum_bits_le n m, bit_lt m n)

-- A mask cut off at k has the bits below k, and no others.
cut_below : (k m n : ℕ) → k ≤ width → n < k → bit (shared m (below k)) n ≡ bit m n
cut_below k m n h low =
    bit_has (shared m (below k)) n ∙
    ap weight (has_shared m (below k) n ∙
    ap (λ b. has m n && b) (has_below k n ∙ lt-ltb n (min k width) (omega arith)) ∙ and-true (has m n)) ∙
    sym (bit_has m n)

cut_above : (k m n : ℕ) → k ≤ n → bit (shared m (below k)) n ≡ 0
cut_above k m n high =
    bit_has (shared m (below k)) n ∙
    ap weight (has_shared m (below k) n ∙
    ap (λ b. has m n && b) (has_below k n ∙ le-ltb n (min k width) (omega arith)) ∙ and-false (has m n))

cut_bits : (k m : ℕ) → k ≤ width → (n : ℕ) → sum_bits n (shared m (below k)) ≡ sum_bits (min n k) m
unfolding sum_bits
cut_bits k m h zero = let e : 0 ≡ min 0 k = omega arith in ap (λ n. sum_bits n m) e
cut_bits k m h (suc n) = pick (dec_lt n k) (cut_bits k m h n)
  where
    pick : Dec (n < k) → sum_bits n (shared m (below k)) ≡ sum_bits (min n k) m
        → sum_bits (suc n) (shared m (below k)) ≡ sum_bits (min (suc n) k) m
    pick (yes low) rest =
        let e : min n k ≡ n = omega arith in
        let next : suc n ≡ min (suc n) k = omega arith in
        let before : sum_bits (min n k) m ≡ sum_bits n m = ap (λ i. sum_bits i m) e in
        let sum : sum_bits (suc n) (shared m (below k)) ≡ sum_bits (suc n) m = omega (arith, rest, before, cut_below k m n h low) in
        sum ∙ ap (λ i. sum_bits i m) next
    pick (no high) rest =
        let e : min n k ≡ min (suc n) k = omega arith in
        let sum : sum_bits (suc n) (shared m (below k)) ≡ sum_bits n (shared m (below k)) = omega (arith, cut_above k m n (omega arith)) in
        sum ∙ rest ∙ ap (λ i. sum_bits i m) e

pub count_actions : (m : ℕ) → m < 2 ^ width → count (shared m (below per_kind)) ≡ sum_bits per_kind m
count_actions m h = count_sum (shared m (below per_kind)) (shared_lt width m (below per_kind) h) ∙ cut_bits per_kind m (omega arith) width

-- The codes of one kind make the list longer by the actions in its mask.
kind_length : (s : Choice) (f k n : ℕ) → n ≤ per_kind
    → length (codes (in_choice s) f (per_kind * k + n)) ≡ length (codes (in_choice s) f (per_kind * k)) + sum_bits n (mask_in k s)
unfolding sum_bits
kind_length s f k zero h =
    let e : per_kind * k + 0 ≡ per_kind * k = omega arith in
    let same : length (codes (in_choice s) f (per_kind * k + 0)) ≡ length (codes (in_choice s) f (per_kind * k)) =
    ap (λ i. length (codes (in_choice s) f i)) e in
    omega (arith, same)
kind_length s f k (suc n) h =
    let e : per_kind * k + suc n ≡ suc (per_kind * k + n) = omega arith in
    let back : per_kind * k + n - per_kind * k ≡ n = omega arith in
    let more : weight (in_choice s (per_kind * k + n)) ≡ bit (mask_in k s) n =
    ap weight (in_kind s k (per_kind * k + n) (omega arith) (omega arith) ∙ ap (λ a. has (mask_in k s) a) back) ∙
    sym (bit_has (mask_in k s) n) in
    let next : length (codes (in_choice s) f (per_kind * k + suc n)) ≡ length (codes (in_choice s) f (suc (per_kind * k + n))) =
    ap (λ i. length (codes (in_choice s) f i)) e in
    omega (arith, next, more, codes_length (in_choice s) f (per_kind * k + n), kind_length s f k n (omega arith))

pub choice_length : (f : ℕ) (s : Choice)
    → length (list_of f s) ≡ sum_bits per_kind s.deletes + sum_bits per_kind s.adds + sum_bits per_kind s.needs
unfolding list_of passing gather
choice_length f s =
    omega (arith, kind_length s f drop_delete per_kind (omega arith), kind_length s f add_effect per_kind (omega arith), kind_length s f drop_need per_kind (omega arith))

-- ---- the next code

-- The lowest place of a mask that has one.
lowest_in : (m : ℕ) → m < 2 ^ width → lowest m < width → has m (lowest m) ≡ true
lowest_in m h low = pick (dec_lt 0 m)
  where
    pick : Dec (0 < m) → has m (lowest m) ≡ true
    pick (yes p) = lowest_has m p h
    pick (no p) =
        let none : m ≡ 0 = omega arith in
        absurd (omega (arith, ap lowest none, lowest_empty))

pub next_lowest : (m skip : ℕ) → m < 2 ^ width → NextAction m skip (lowest (removed m (below skip)))
next_lowest m skip h = record { absent = absent; present = λ low. and_left (has m (lowest rest)) (not (has (below skip) (lowest rest))) (here low); after = after }
  where
    rest : ℕ
    rest = removed m (below skip)

    here : lowest rest < width → (has m (lowest rest) && not (has (below skip) (lowest rest))) ≡ true
    here low = sym (has_removed m (below skip) (lowest rest)) ∙ lowest_in rest (removed_lt width m (below skip) h) low

    absent : (a : ℕ) → a < lowest rest → skip ≤ a → has m a ≡ false
    absent a low past =
        sym (and-true (has m a)) ∙
        ap (λ b. has m a && not b) (sym (has_below skip a ∙ le-ltb a (min skip width) (omega arith))) ∙
        sym (has_removed m (below skip) a) ∙ lowest_first rest a low

    after : lowest rest < width → skip ≤ lowest rest
    after low =
        let out : ltb (lowest rest) (min skip width) ≡ false =
        sym (has_below skip (lowest rest)) ∙ not-true (has (below skip) (lowest rest)) (and_right (has m (lowest rest)) (not (has (below skip) (lowest rest))) (here low)) in
        omega (arith, ltb-false (lowest rest) (min skip width) out)

-- No code from `from` on and before `end` is in the set.
abbrev pub NoneIn : Choice → ℕ → ℕ → Type 0
NoneIn s from end = (c : ℕ) → c < end → from ≤ c → in_choice s c ≡ false

module _ (s : Choice) (k from skip next : ℕ) (kind : k < kinds) (offset : skip ≡ from - per_kind * k) (n : NextAction (mask_in k s) skip next) where
  kind_none : (c : ℕ) → per_kind * k ≤ c → c < per_kind * k + per_kind → c < per_kind * k + next → from ≤ c → in_choice s c ≡ false
  kind_none c low high before past = in_kind s k c low high ∙ n.absent (c - per_kind * k) (omega arith) (omega arith)

  pub next_none : NoneIn s from (per_kind * k) → per_kind ≤ next → NoneIn s from (per_kind * k + per_kind)
  next_none before far c high past = pick (dec_lt c (per_kind * k))
    where
      pick : Dec (c < per_kind * k) → in_choice s c ≡ false
      pick (yes low) = before c low past
      pick (no low) = kind_none c (omega arith) high (omega arith) past

  pub next_here : (code : ℕ) → code ≡ per_kind * k + next → NoneIn s from (per_kind * k) → next < per_kind → NextIn s from code
  next_here code e before near = record {
    after = omega (arith, n.after (omega arith));
    within = omega arith;
    absent = λ c high past. pick c high past (dec_lt c (per_kind * k));
    present = λ h.
        let back : code - per_kind * k ≡ next = omega arith in
        in_kind s k code (omega arith) (omega arith) ∙ ap (λ a. has (mask_in k s) a) back ∙ n.present (omega arith);
  }
    where
      pick : (c : ℕ) → c < code → from ≤ c → Dec (c < per_kind * k) → in_choice s c ≡ false
      pick c high past (yes low) = before c low past
      pick c high past (no low) = kind_none c (omega arith) (omega arith) (omega arith) past

-- ---- the codes below one

-- The masks of the codes below n: of kind k the actions below n - 32k.
pub masks_below : (n : ℕ) (s : Choice) → ((k : ℕ) → k < kinds → mask_in k s ≡ below (n - per_kind * k)) → CodesBelow n s
masks_below n s masks code h =
    in_kind s (code_kind code) code (omega arith) (omega arith) ∙
    ap (λ m. has m (code - per_kind * code_kind code)) (masks (code_kind code) (omega arith)) ∙
    has_below (n - per_kind * code_kind code) (code - per_kind * code_kind code) ∙
    same_flag (ltb (code - per_kind * code_kind code) (min (n - per_kind * code_kind code) width)) (ltb code n)
    (λ t.
    lt-ltb code n (omega (arith, ltb-true (code - per_kind * code_kind code) (min (n - per_kind * code_kind code) width) t)))
    (λ t. lt-ltb (code - per_kind * code_kind code) (min (n - per_kind * code_kind code) width) (omega (arith, ltb-true code n t)))
