-- Laws of sets of one fact's repairs: their lists, one repair more, two sets as one, what two share.
use Rattle.std.specs.Prelude.{Option, Some, None, is_some}
use mathlib.Core.Bool.{Bool, true, false, cond, not, ◌&&◌, ◌||◌, false≢true, true≢false, or_comm}
use mathlib.Core.List.{List, [], ◌∷◌}
use mathlib.Core.Logic.{◌⊎◌, inl, inr, ⊎_elim}
use mathlib.Core.Path.{◌≡◌, refl, sym, ap, ap₂, ◌∙◌, subst}
use Prim.Native.Nat.{ℕ, zero, suc, ◌+◌, ◌*◌, ◌/◌, ◌%◌, ◌<◌}
use native.Mathlib.Decide.{dec_lt}
use native.Mathlib.Nat.{eq-or-lt_of_le, le_of_suc-le-suc}
use native.Mathlib.Omega.{arith}
use borrow.Author.Tests.{eqb-true, eq-eqb, eqb-false, ne_eqb, ltb-true, ltb-false, not-true}
use lib.Dec.{eqb, ltb}
use lib.ListN.{length, length-append}
use Rattle.facts.specs.Sets.{has, joined, shared, removed, only}
use Rattle.facts.proofs.Laws.{has_empty, has_joined, has_shared, has_removed, has_only}
use Rattle.table.specs.Lists.{gather, piece}
use Rattle.table.specs.Order.{is_in, Ascending}
use Rattle.table.specs.Repairs.{by_kind, fact_of}
use Rattle.table.specs.Sizes.{per_fact, kinds}
use Rattle.table.proofs.FlagLaws.{or_cases, or_left, or_right, and_left, and_right, both, and_both, same_flag, is_false}
use Rattle.table.proofs.GatherLaws.{passing, Passed, passing_from, passing_has, passing_ascending}
use Rattle.table.proofs.OrderLaws
use Rattle.table.proofs.RepairNumbers.{kind_cases}
use Rattle.choices.specs.declared.Choice.{Choice}
use Rattle.choices.specs.Choices.{code_kind, code_action, code_number, nothing, in_choice, numbers_in, list_of, Contains, Misses, Meets, Apart}
use Rattle.choices.specs.Trying.{with_mask, mask_in, with_repair, both_of, shared_by, without_those, NextIn, FirstIn, Sharing}

-- ---- the list of a set of codes

-- The numbers of fact f whose codes below n are in P, in order: `list_of` over any set and up to any code.
abbrev pub codes : (ℕ → Bool) → ℕ → ℕ → List ℕ
codes P f n = passing P (per_fact * f) n

-- What a code adds to the length.
abbrev pub weight : Bool → ℕ
weight b = cond b 1 0

pub codes_length : (P : ℕ → Bool) (f n : ℕ) → length (codes P f (suc n)) ≡ length (codes P f n) + weight (P n)
unfolding passing gather
codes_length P f n = rw length-append (ap (λ k. length (codes P f n) + k) (pick (P n)))
  where
    pick : (b : Bool) → length (piece b (code_number f n ∷ [])) ≡ weight b
    pick true = refl
    pick false = refl

-- The length is that of the set of codes alone.
pub codes_same_length : (P Q : ℕ → Bool) (f g n : ℕ) → ((c : ℕ) → c < n → P c ≡ Q c) → length (codes P f n) ≡ length (codes Q g n)
unfolding passing gather
codes_same_length P Q f g zero same = refl
codes_same_length P Q f g (suc n) same =
    let more : weight (P n) ≡ weight (Q n) = ap weight (same n (omega arith)) in
    let before : length (codes P f n) ≡ length (codes Q g n) = codes_same_length P Q f g n (λ c h. same c (omega arith)) in
    omega (arith, codes_length P f n, codes_length Q g n)

-- One code more makes it one longer.
pub codes_longer : (P Q : ℕ → Bool) (f n code : ℕ) → code < n → P code ≡ false → ((c : ℕ) → c < n → Q c ≡ (eqb c code || P c))
    → length (codes Q f n) ≡ suc (length (codes P f n))
codes_longer P Q f zero code h out more = absurd (omega arith)
codes_longer P Q f (suc n) code h out more =
    pick (dec_lt code n) (λ later. codes_longer P Q f n code later out (λ c k. more c (omega arith)))
  where
    at_last : weight (P n) + 1 ≡ weight (Q n) → length (codes Q f n) ≡ length (codes P f n)
        → length (codes Q f (suc n)) ≡ suc (length (codes P f (suc n)))
    at_last e s = omega (arith, codes_length P f n, codes_length Q f n)

    passed : Q n ≡ P n → length (codes Q f n) ≡ suc (length (codes P f n))
        → length (codes Q f (suc n)) ≡ suc (length (codes P f (suc n)))
    passed e s =
        let same : weight (Q n) ≡ weight (P n) = ap weight e in
        omega (arith, codes_length P f n, codes_length Q f n)

    pick : Dec (code < n) → (code < n → length (codes Q f n) ≡ suc (length (codes P f n)))
        → length (codes Q f (suc n)) ≡ suc (length (codes P f (suc n)))
    pick (yes later) rest =
        passed (more n (omega arith) ∙ ap (λ b. b || P n) (ne_eqb n code (λ e. absurd (omega arith)))) (rest later)
    pick (no here) rest =
        let e : n ≡ code = omega arith in
        let in-Q : Q n ≡ true = more n (omega arith) ∙ or_left (eqb n code) (P n) (eq-eqb n code e) in
        let not-P : P n ≡ false = ap P e ∙ out in
        at_last (rw (in-Q, not-P))
        (codes_same_length Q P f f n (λ c k. more c (omega arith) ∙ ap (λ b. b || P c) (ne_eqb c code (λ d. absurd (omega arith)))))

-- ---- the list of a choice

module _ (f : ℕ) (s : Choice) where
  pub list_of_ascending : Ascending (list_of f s)
  unfolding list_of passing
  list_of_ascending = passing_ascending (in_choice s) (per_fact * f) per_fact

  pub list_of_from : (n : ℕ) → is_in (list_of f s) n ≡ true → Passed (in_choice s) (per_fact * f) per_fact n
  unfolding list_of passing
  list_of_from n h = passing_from (in_choice s) (per_fact * f) per_fact n h

  pub list_of_has : (code : ℕ) → code < per_fact → in_choice s code ≡ true → is_in (list_of f s) (code_number f code) ≡ true
  unfolding list_of passing
  list_of_has code h t = passing_has (in_choice s) (per_fact * f) per_fact code h t

  pub list_of_members : (n : ℕ) → is_in (list_of f s) n ≡ numbers_in f s n
  unfolding numbers_in
  list_of_members n = same_flag (is_in (list_of f s) n) (eqb (fact_of n) f && in_choice s (n % per_fact)) there back
    where
      there : is_in (list_of f s) n ≡ true → (eqb (fact_of n) f && in_choice s (n % per_fact)) ≡ true
      there h =
          let d = list_of_from n h in
          let e : n % per_fact ≡ d.index = omega (arith, d.below, d.number) in
          and_both (eqb (fact_of n) f) (in_choice s (n % per_fact)) (eq-eqb (fact_of n) f (omega (arith, d.below, d.number)))
          (ap (in_choice s) e ∙ d.passes)

      back : (eqb (fact_of n) f && in_choice s (n % per_fact)) ≡ true → is_in (list_of f s) n ≡ true
      back h =
          let own : n / per_fact ≡ f = eqb-true (fact_of n) f (and_left (eqb (fact_of n) f) (in_choice s (n % per_fact)) h) in
          let e : code_number f (n % per_fact) ≡ n = omega arith in
          subst (λ k. is_in (list_of f s) k ≡ true) e
          (list_of_has (n % per_fact) (omega arith) (and_right (eqb (fact_of n) f) (in_choice s (n % per_fact)) h))

  pub list_of_only : (code : ℕ) → is_in (list_of f s) (code_number f code) ≡ true → in_choice s code ≡ true
  list_of_only code h =
      let d = list_of_from (code_number f code) h in
      let e : code ≡ d.index = omega (arith, d.number) in
      ap (in_choice s) e ∙ d.passes

  -- The list has the repairs of the choice, and of the fact's no others.
  pub in_list : (code : ℕ) → code < per_fact → is_in (list_of f s) (code_number f code) ≡ in_choice s code
  in_list code h = same_flag (is_in (list_of f s) (code_number f code)) (in_choice s code) (list_of_only code) (list_of_has code h)

  -- Its list has none of a choice that it shares nothing with.
  pub list_misses : (out : Choice) → Apart s out → Misses (is_in (list_of f s)) f out
  list_misses out apart code h t =
      is_false (is_in (list_of f s) (code_number f code)) (λ u. true≢false (sym t ∙ apart code h (list_of_only code u)))

  -- A set of numbers that contains the choice has every number of its list.
  pub contains_list : (R : ℕ → Bool) → Contains R f s → (n : ℕ) → is_in (list_of f s) n ≡ true → R n ≡ true
  contains_list R part n h =
      let d = list_of_from n h in
      subst (λ k. R k ≡ true) (sym d.number) (part d.index d.below d.passes)

pub in_nothing : (code : ℕ) → in_choice nothing code ≡ false
unfolding in_choice
in_nothing code = ap (λ m. has m (code_action code)) (none (code_kind code)) ∙ has_empty (code_action code)
  where
    none : (k : ℕ) → by_kind {A = ℕ} k 0 0 0 ≡ 0
    none k = both (eqb k 0) (eqb k 1)
      where
        both : (a b : Bool) → cond {A = ℕ} a 0 (cond b 0 0) ≡ 0
        both true b = refl
        both false true = refl
        both false false = refl

-- ---- one repair more

mask_in_with : (j k m : ℕ) (s : Choice) → j < kinds → k < kinds → mask_in j (with_mask k m s) ≡ cond (eqb j k) m (mask_in j s)
mask_in_with j k m s hj hk =
    kind_cases (λ k. mask_in j (with_mask k m s) ≡ cond (eqb j k) m (mask_in j s)) (at 0 refl refl refl) (at 1 refl refl refl) (at 2 refl refl refl) k hk
  where
    at : (k : ℕ) → mask_in 0 (with_mask k m s) ≡ cond (eqb 0 k) m (mask_in 0 s) → mask_in 1 (with_mask k m s) ≡ cond (eqb 1 k) m (mask_in 1 s)
        → mask_in 2 (with_mask k m s) ≡ cond (eqb 2 k) m (mask_in 2 s) → mask_in j (with_mask k m s) ≡ cond (eqb j k) m (mask_in j s)
    at k a b c = kind_cases (λ j. mask_in j (with_mask k m s) ≡ cond (eqb j k) m (mask_in j s)) a b c j hj

-- The codes of a set with one repair more: that one, and the set's own.
pub in_with : (s : Choice) (code c : ℕ) → code < per_fact → c < per_fact → in_choice (with_repair s code) c ≡ (eqb c code || in_choice s c)
unfolding in_choice with_repair
in_with s code c hcode hc =
    ap (λ m. has m (code_action c)) (mask_in_with (code_kind c) (code_kind code) _ s (omega arith) (omega arith)) ∙
    pick (eqb (code_kind c) (code_kind code)) refl
  where
    same : code_kind c ≡ code_kind code → eqb (code_action c) (code_action code) ≡ eqb c code
    same e =
        same_flag (eqb (code_action c) (code_action code)) (eqb c code)
        (λ h. let a = eqb-true (code_action c) (code_action code) h in eq-eqb c code (omega arith))
        (λ h. let a = eqb-true c code h in eq-eqb (code_action c) (code_action code) (omega arith))

    pick : (b : Bool) → eqb (code_kind c) (code_kind code) ≡ b
        → has (cond b (joined (mask_in (code_kind code) s) (only (code_action code))) (mask_in (code_kind c) s)) (code_action c)
        ≡ (eqb c code || has (mask_in (code_kind c) s) (code_action c))
    pick true h =
        let e = eqb-true (code_kind c) (code_kind code) h in
        has_joined (mask_in (code_kind code) s) (only (code_action code)) (code_action c) ∙
        or_comm (has (mask_in (code_kind code) s) (code_action c)) (has (only (code_action code)) (code_action c)) ∙
        ap₂ (λ x k. x || has (mask_in k s) (code_action c)) (has_only (code_action code) (code_action c) (omega arith) ∙ same e) (sym e)
    pick false h =
        ap (λ x. x || has (mask_in (code_kind c) s) (code_action c))
        (sym (ne_eqb c code (λ e. eqb-false (code_kind c) (code_kind code) h (ap (λ k. code_kind k) e))))

pub with_has : (s : Choice) (code : ℕ) → code < per_fact → in_choice (with_repair s code) code ≡ true
with_has s code h = in_with s code code h h ∙ or_left (eqb code code) (in_choice s code) (eq-eqb code code refl)

pub with_keeps : (s : Choice) (code c : ℕ) → code < per_fact → c < per_fact → in_choice s c ≡ true → in_choice (with_repair s code) c ≡ true
with_keeps s code c hcode hc t = in_with s code c hcode hc ∙ or_right (eqb c code) (in_choice s c) t

pub with_other : (s : Choice) (code c : ℕ) → code < per_fact → c < per_fact → (c ≡ code → ⊥) → in_choice (with_repair s code) c ≡ in_choice s c
with_other s code c hcode hc ne = in_with s code c hcode hc ∙ ap (λ b. b || in_choice s c) (ne_eqb c code ne)

pub with_cases : (s : Choice) (code c : ℕ) → code < per_fact → c < per_fact → in_choice (with_repair s code) c ≡ true
    → (c ≡ code) ⊎ (in_choice s c ≡ true)
with_cases s code c hcode hc t = pick (or_cases (eqb c code) (in_choice s c) (sym (in_with s code c hcode hc) ∙ t))
  where
    pick : (eqb c code ≡ true) ⊎ (in_choice s c ≡ true) → (c ≡ code) ⊎ (in_choice s c ≡ true)
    pick (inl e) = inl (eqb-true c code e)
    pick (inr h) = inr h

-- Two sets put together mask by mask, by whatever each mask has.
masks_in : (op : ℕ → ℕ → ℕ) (flag : Bool → Bool → Bool) → ((m n x : ℕ) → has (op m n) x ≡ flag (has m x) (has n x)) → (a b : Choice) (code : ℕ)
    → has (by_kind (code_kind code) (op a.deletes b.deletes) (op a.adds b.adds) (op a.needs b.needs)) (code_action code)
    ≡ flag (in_choice a code) (in_choice b code)
unfolding in_choice
masks_in op flag law a b code = pick (eqb (code_kind code) 0) (eqb (code_kind code) 1)
  where
    x : ℕ
    x = code_action code

    pick : (d e : Bool)
        → has (cond d (op a.deletes b.deletes) (cond e (op a.adds b.adds) (op a.needs b.needs))) x
        ≡ flag (has (cond d a.deletes (cond e a.adds a.needs)) x) (has (cond d b.deletes (cond e b.adds b.needs)) x)
    pick true e = law a.deletes b.deletes x
    pick false true = law a.adds b.adds x
    pick false false = law a.needs b.needs x

-- The codes of two sets as one: those of either.
pub in_both : (a b : Choice) (code : ℕ) → in_choice (both_of a b) code ≡ (in_choice a code || in_choice b code)
unfolding in_choice
in_both = masks_in joined (λ p q. p || q) has_joined

-- The codes that two sets share: those of both.
pub in_shared : (a b : Choice) (code : ℕ) → in_choice (shared_by a b) code ≡ (in_choice a code && in_choice b code)
unfolding in_choice
in_shared = masks_in shared (λ p q. p && q) has_shared

-- The first code that two sets share, or that there is none.
pub sharing_first : (a b r : Choice) (next : Option ℕ) → r ≡ shared_by a b → FirstIn r 0 next → Sharing a b (is_some next)
sharing_first a b r next e = pick next
  where
    in_r : (code : ℕ) → in_choice r code ≡ (in_choice a code && in_choice b code)
    in_r code = ap (λ s. in_choice s code) e ∙ in_shared a b code

    pick : (next : Option ℕ) → FirstIn r 0 next → Sharing a b (is_some next)
    pick (Some code) n =
        let m = both (in_choice a code) (in_choice b code) (sym (in_r code) ∙ n.1.present n.0) in
        (code, n.0, m.0, m.1)
    pick None n = λ m.
        false≢true (sym (n.absent m.0 m.1 (omega arith)) ∙ in_r m.0 ∙ and_both (in_choice a m.0) (in_choice b m.0) m.2 m.3)

-- The codes of a set without another: its own that are not the other's.
pub in_without : (a b : Choice) (code : ℕ) → in_choice (without_those a b) code ≡ (in_choice a code && not (in_choice b code))
unfolding in_choice
in_without = masks_in removed (λ p q. p && not q) has_removed

pub in_without_cases : (a b : Choice) (code : ℕ) → in_choice (without_those a b) code ≡ true → (in_choice a code ≡ true) × (in_choice b code ≡ false)
in_without_cases a b code t =
    let h = both (in_choice a code) (not (in_choice b code)) (sym (in_without a b code) ∙ t) in
    (h.0, not-true (in_choice b code) h.1)

-- What has one of a set and none of what is out has one of the set without that.
pub left_over : (s out : Choice) (R : ℕ → Bool) (f : ℕ) → Misses R f out → Meets R f s → Meets R f (without_those s out)
left_over s out R f misses m =
    let here : in_choice out m.0 ≡ false = is_false (in_choice out m.0) (λ t. true≢false (sym m.3 ∙ misses m.0 m.1 t)) in
    (m.0, m.1, in_without s out m.0 ∙ and_both (in_choice s m.0) _ m.2 (ap not here), m.3)

-- A repair that was not in the set makes its list one longer.
pub with_length : (f : ℕ) (s : Choice) (code : ℕ) → code < per_fact → in_choice s code ≡ false
    → length (list_of f (with_repair s code)) ≡ suc (length (list_of f s))
unfolding list_of passing
with_length f s code h out =
    codes_longer (in_choice s) (in_choice (with_repair s code)) f per_fact code h out (λ c hc. in_with s code c h hc)

module _ (R : ℕ → Bool) (f : ℕ) (s : Choice) (code : ℕ) (h : code < per_fact) where
  pub contains_with : Contains R f s → R (code_number f code) ≡ true → Contains R f (with_repair s code)
  contains_with part more c hc t = pick (with_cases s code c h hc t)
    where
      pick : (c ≡ code) ⊎ (in_choice s c ≡ true) → R (code_number f c) ≡ true
      pick (inl e) = subst (λ k. R (code_number f k) ≡ true) (sym e) more
      pick (inr t) = part c hc t

  pub contains_without : Contains R f (with_repair s code) → Contains R f s
  contains_without part c hc t = part c hc (with_keeps s code c h hc t)

-- ---- the empty choice

pub nothing_list : (f : ℕ) → list_of f nothing ≡ []
nothing_list f =
    OrderLaws.same_members 0 0 (list_of f nothing) [] (list_of_ascending f nothing) tt
    (λ n h. let d = list_of_from f nothing n h in absurd (false≢true (sym (in_nothing d.index) ∙ d.passes)))
    (λ n h. absurd (OrderLaws.is_in_none n h))

pub nothing_contained : (R : ℕ → Bool) (f : ℕ) → Contains R f nothing
nothing_contained R f code h t = absurd (false≢true (sym (in_nothing code) ∙ t))

pub nothing_missed : (R : ℕ → Bool) (f : ℕ) → Misses R f nothing
nothing_missed R f code h t = absurd (false≢true (sym (in_nothing code) ∙ t))

pub nothing_apart : (s : Choice) → Apart s nothing
nothing_apart s code h t = in_nothing code

-- ---- a code that passes a test

-- One of the codes below n passes, or none does.
pub find_code : (p : ℕ → Bool) (n : ℕ) → ((i : ℕ) × (i < n) × (p i ≡ true)) ⊎ ((i : ℕ) → i < n → p i ≡ false)
find_code p zero = inr (λ i l. absurd (omega arith))
find_code p (suc n) = here (p n) refl (find_code p n)
  where
    here : (b : Bool) → p n ≡ b → ((i : ℕ) × (i < n) × (p i ≡ true)) ⊎ ((i : ℕ) → i < n → p i ≡ false)
        → ((i : ℕ) × (i < suc n) × (p i ≡ true)) ⊎ ((i : ℕ) → i < suc n → p i ≡ false)
    here true e before = inl (n, omega arith, e)
    here false e (inl w) = inl (w.0, omega (arith, w.1), w.2)
    here false e (inr none) =
        inr (λ i l. ⊎_elim (λ q. subst (λ (m : ℕ). p m ≡ false) (sym q) e) (none i) (eq-or-lt_of_le (le_of_suc-le-suc l)))
