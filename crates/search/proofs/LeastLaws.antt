-- Why the least list is found number by number: what a shortest list, one that comes before it and the lists that agree with it
-- so far give.
use Rattle.std.specs.Prelude.{Option, Some, None}
use mathlib.Core.Bool.{Bool, true, false, not, ◌&&◌, false≢true, true≢false, and-false}
use mathlib.Core.List.{List, [], ◌∷◌}
use mathlib.Core.Logic.{◌⊎◌, inl, inr}
use mathlib.Core.Path.{◌≡◌, refl, sym, ap, ap₂, ◌∙◌, subst}
use Prim.Native.Nat.{ℕ, ◌+◌, ◌*◌, ◌-◌, ◌%◌, ◌<◌, ◌≤◌}
use native.Mathlib.Decide.{dec_lt}
use native.Mathlib.Omega.{arith}
use borrow.Author.Tests.{ltb-true, ltb-false, lt-ltb, le-ltb, not-true}
use lib.Dec.{ltb}
use lib.ListN.{length}
use Rattle.table.specs.Answer.{First}
use Rattle.table.specs.Order.{is_in, ◌≼◌}
use Rattle.table.specs.Repairs.{permitted, fact_of}
use Rattle.table.specs.Sizes.{max_row, per_fact}
use Rattle.table.specs.Strips.{Courses, AllRight}
use Rattle.table.proofs.FlagLaws.{is_false, both, and_both}
use Rattle.table.proofs.OrderLaws.{is_in_none, ≼_trans, ≼_length, first_difference_first}
use Rattle.table.proofs.RepairLaws.{right_more}
use Rattle.choices.specs.declared.Choice.{Choice}
use Rattle.choices.specs.Choices.{nothing, in_choice, numbers_in, list_of, code_number, Contains, Apart}
use Rattle.search.specs.declared.Column.{Column}
use Rattle.search.specs.Columns.{cells_in, KeepsIn}
use Rattle.search.specs.Searching.{cells_with, Allowed, Among, SomeOf, Agree, Earlier, Short, Shortest}
use Rattle.choices.specs.Trying.{shared_by, without_those, CodesBelow, NextIn, FirstIn}
use Rattle.search.specs.Views.{Fullest}
use Rattle.choices.proofs.ChoiceLaws.{in_list, in_shared, in_without, nothing_list, nothing_contained, nothing_missed, nothing_apart, find_code}
use Rattle.search.proofs.SearchLaws.{contained_first, right_keeps}

-- ---- some shortest list

module _ (col : Column) (rs : Courses) where
  pub nothing_allowed : (s : Choice) → s ≡ nothing → Allowed col s
  nothing_allowed s e = subst (Allowed col) (sym e) (nothing_contained (permitted (cells_in col)) col.fact)

  pub nothing_out : (s : Choice) → s ≡ nothing → Apart s s
  nothing_out s e = subst (λ w. Apart w w) (sym e) (nothing_apart nothing)

  -- The fact is right as it stands: the empty list is the shortest.
  pub short_none : (s : Choice) → s ≡ nothing → AllRight (cells_with col s) rs col.fact → Short col rs (Some s)
  short_none s e right =
      let none : length (list_of col.fact s) ≡ 0 = ap (λ w. length (list_of col.fact w)) e ∙ ap length (nothing_list col.fact) in
      (right_keeps col rs s (nothing_allowed s e) right, omega arith, λ l keeps. omega arith)

-- The fact is wrong as it stands: every list that keeps it right has some repair.
module _ (col : Column) (rs : Courses) (s : Choice) (wrong : AllRight (cells_with col s) rs col.fact → ⊥) where
  has_some : (l : List ℕ) → KeepsIn col rs l → (code : ℕ) × (code < per_fact) × (is_in l (code_number col.fact code) ≡ true)
  has_some l keeps = pick (find_code (λ c. is_in l (code_number col.fact c)) per_fact)
    where
      pick : ((c : ℕ) × (c < per_fact) × (is_in l (code_number col.fact c) ≡ true)) ⊎ ((c : ℕ) → c < per_fact → is_in l (code_number col.fact c) ≡ false)
          → (code : ℕ) × (code < per_fact) × (is_in l (code_number col.fact code) ≡ true)
      pick (inl m) = m
      pick (inr none) =
          absurd (wrong (right_more (cells_in col) rs col.fact (is_in l) (numbers_in col.fact s)
          (λ n own h.
          let number : code_number col.fact (n % per_fact) ≡ n = omega (arith, own) in
          absurd (false≢true (sym (none (n % per_fact) (omega arith)) ∙ ap (is_in l) number ∙ h))) keeps.right))

  pub longer_none : (l : List ℕ) → KeepsIn col rs l → 1 ≤ length l
  longer_none [] keeps = absurd (is_in_none _ (has_some [] keeps).2)
  longer_none (n ∷ l) keeps = omega arith

-- Every permitted repair is wanted: the lists of at most k repairs are all looked for.
module _ (col : Column) (rs : Courses) (s all : Choice) (k : ℕ) (start : s ≡ nothing) (full : Fullest col all)
    (wrong : AllRight (cells_with col s) rs col.fact → ⊥) where
  among_all : (l : List ℕ) → KeepsIn col rs l → length l ≤ k → Among col rs s s all (length (list_of col.fact s) + k) l
  among_all l keeps short = record {
    sought = record {
      keeps = keeps;
      misses = subst (λ w. (code : ℕ) → code < per_fact → in_choice w code ≡ true → is_in l (code_number col.fact code) ≡ false) (sym start)
          (nothing_missed (is_in l) col.fact);
      meets =
          let m = has_some col rs s wrong l keeps in
          (m.0, m.1, full m.0 m.1 ∙ keeps.permitted.each (code_number col.fact m.0) m.2, m.2);
    };
    contains = subst (Contains (is_in l) col.fact) (sym start) (nothing_contained (is_in l) col.fact);
    short = omega arith;
  }

  -- Nothing of at most k repairs: every list has more.
  pub longer_than : SomeOf col.fact (Among col rs s s all (length (list_of col.fact s) + k)) None
      → (l : List ℕ) → KeepsIn col rs l → k + 1 ≤ length l
  longer_than none l keeps = pick (dec_lt k (length l))
    where
      pick : Dec (k < length l) → k + 1 ≤ length l
      pick (yes longer) = omega arith
      pick (no no_longer) = absurd (none l (among_all l keeps (omega arith)))

  -- One of k repairs, where every list has as many: it is a shortest.
  pub short_found : (found : Choice) → k ≤ max_row → ((l : List ℕ) → KeepsIn col rs l → k ≤ length l)
      → SomeOf col.fact (Among col rs s s all (length (list_of col.fact s) + k)) (Some found) → Short col rs (Some found)
  short_found found room least a = (
    a.sought.keeps,
    omega (arith, a.short, none),
    λ l keeps. omega (arith, a.short, none, least l keeps),
  )
    where
      none : length (list_of col.fact s) ≡ 0
      none = ap (λ w. length (list_of col.fact w)) start ∙ ap length (nothing_list col.fact)

-- ---- lists that come before the best so far

-- What looking for one takes: s has the best's repairs below `from`, the others below it are out, and a permitted one before n
-- is wanted.
pub record Asked (col : Column) (best : Choice) (from n : ℕ) (s out want : Choice) : Type 0 where
  pub has : (code : ℕ) → code < per_fact → in_choice s code ≡ (in_choice best code && ltb code from)
  pub gone : (code : ℕ) → code < per_fact → in_choice out code ≡ (ltb code from && not (in_choice s code))
  pub wants : (code : ℕ) → code < per_fact
      → in_choice want code ≡ (permitted (cells_in col) (code_number col.fact code) && (ltb code n && not (ltb code from)))

pub asked_so : (col : Column) (best passed before all range s out want : Choice) (from n : ℕ) → CodesBelow from passed → CodesBelow n before
    → Fullest col all → s ≡ shared_by best passed → out ≡ without_those passed s → range ≡ without_those before passed → want ≡ shared_by all range
    → Asked col best from n s out want
asked_so col best passed before all range s out want from n low high full es eo er ew = record {
  has = λ code h. ap (λ c. in_choice c code) es ∙ in_shared best passed code ∙ ap (λ b. in_choice best code && b) (low code h);
  gone = λ code h. ap (λ c. in_choice c code) eo ∙ in_without passed s code ∙ ap (λ b. b && not (in_choice s code)) (low code h);
  wants = λ code h.
      ap (λ c. in_choice c code) ew ∙ in_shared all range code ∙ ap₂ (λ x y. x && y) (full code h)
      (ap (λ c. in_choice c code) er ∙ in_without before passed code ∙ ap₂ (λ x y. x && not y) (high code h) (low code h));
}

module _ (col : Column) (rs : Courses) (best : Choice) (from n : ℕ) (s out want : Choice) (asked : Asked col best from n s out want)
    (keeps : KeepsIn col rs (list_of col.fact best)) where
  part_of_best : (code : ℕ) → code < per_fact → in_choice s code ≡ true → (in_choice best code ≡ true) × (ltb code from ≡ true)
  part_of_best code h t = both (in_choice best code) (ltb code from) (sym (asked.has code h) ∙ t)

  pub asked_allowed : Allowed col s
  asked_allowed code h t =
      keeps.permitted.each (code_number col.fact code) (in_list col.fact best code h ∙ (part_of_best code h t).0)

  pub asked_wanted : Allowed col want
  asked_wanted code h t = (both (permitted (cells_in col) (code_number col.fact code)) _ (sym (asked.wants code h) ∙ t)).0

  pub asked_apart : Apart s out
  asked_apart code h t = asked.gone code h ∙ rw (t, and-false (ltb code from)) refl

  pub asked_size : length (list_of col.fact s) ≤ length (list_of col.fact best)
  asked_size =
      ≼_length (list_of col.fact s) (list_of col.fact best)
      (contained_first col rs s (list_of col.fact best) keeps (λ code h t. in_list col.fact best code h ∙ (part_of_best code h t).0))

  module _ (k : ℕ) (size : k ≡ length (list_of col.fact best)) (l : List ℕ) where
    among_earlier : Among col rs s out want k l → Earlier col rs best from n l
    among_earlier a = record {
      keeps = a.sought.keeps;
      same = λ code h low. same code h low (in_choice best code) refl ∙ sym (in_list col.fact best code h);
      one = one;
      short = omega (arith, a.short);
    }
      where
        same : (code : ℕ) → code < per_fact → code < from → (b : Bool) → in_choice best code ≡ b → is_in l (code_number col.fact code) ≡ in_choice best code
        same code h low true t = a.contains code h (asked.has code h ∙ and_both (in_choice best code) (ltb code from) t (lt-ltb code from low)) ∙ sym t
        same code h low false t =
            a.sought.misses code h
            (asked.gone code h ∙ and_both (ltb code from) (not (in_choice s code)) (lt-ltb code from low)
            (ap not (asked.has code h ∙ ap (λ b. b && ltb code from) t))) ∙ sym t

        one : (code : ℕ) × (code < per_fact) × (from ≤ code) × (code < n) × (is_in l (code_number col.fact code) ≡ true)
        one =
            let m = a.sought.meets in
            let w = both (permitted (cells_in col) (code_number col.fact m.0)) _ (sym (asked.wants m.0 m.1) ∙ m.2) in
            let range = both (ltb m.0 n) (not (ltb m.0 from)) w.1 in
            (m.0, m.1, ltb-false m.0 from (not-true (ltb m.0 from) range.1), ltb-true m.0 n range.0, m.3)

    earlier_among : Earlier col rs best from n l → Among col rs s out want k l
    earlier_among e = record {
      sought = record { keeps = e.keeps; misses = misses; meets = meets };
      contains = λ code h t.
          let b = part_of_best code h t in
          e.same code h (ltb-true code from b.1) ∙ in_list col.fact best code h ∙ b.0;
      short = omega (arith, e.short);
    }
      where
        misses : (code : ℕ) → code < per_fact → in_choice out code ≡ true → is_in l (code_number col.fact code) ≡ false
        misses code h t =
            let o = both (ltb code from) (not (in_choice s code)) (sym (asked.gone code h) ∙ t) in
            e.same code h (ltb-true code from o.0) ∙ in_list col.fact best code h ∙
            is_false (in_choice best code) (λ b.
            true≢false (sym (asked.has code h ∙ and_both (in_choice best code) (ltb code from) b o.0) ∙ not-true (in_choice s code) o.1))

        meets : (code : ℕ) × (code < per_fact) × (in_choice want code ≡ true) × (is_in l (code_number col.fact code) ≡ true)
        meets =
            let m = e.one in (
              m.0,
              m.1,
              asked.wants m.0 m.1 ∙ and_both _ _ (e.keeps.permitted.each (code_number col.fact m.0) m.4)
                  (and_both (ltb m.0 n) (not (ltb m.0 from)) (lt-ltb m.0 n m.3) (ap not (le-ltb m.0 from m.2))),
              m.4,
            )

  pub some_earlier : (k : ℕ) → k ≡ length (list_of col.fact best) → (found : Option Choice) → SomeOf col.fact (Among col rs s out want k) found
      → SomeOf col.fact (Earlier col rs best from n) found
  some_earlier k size (Some r) a = among_earlier k size (list_of col.fact r) a
  some_earlier k size None none = λ l e. none l (earlier_among k size l e)

-- ---- the first of the shortest, number by number

-- Of two lists of equal length that agree below a code, the one that has it comes first.
before_at : (col : Column) (rs : Courses) (a b : List ℕ) (code : ℕ) → KeepsIn col rs a → KeepsIn col rs b → length a ≡ length b → Agree col.fact code a b
    → is_in a (code_number col.fact code) ≡ true → is_in b (code_number col.fact code) ≡ false → a ≼ b
before_at col rs a b code ka kb size same here gone =
    inr (first_difference_first 0 0 a b (code_number col.fact code) ka.permitted.ascending kb.permitted.ascending size here
    (λ t. true≢false (sym t ∙ gone)) (below a b ka.own same) (below b a kb.own (λ c h low. sym (same c h low))))
  where
    below : (a b : List ℕ) → ((m : ℕ) → is_in a m ≡ true → fact_of m ≡ col.fact) → Agree col.fact code a b
        → (m : ℕ) → m < code_number col.fact code → is_in a m ≡ true → is_in b m ≡ true
    below a b own same m low t =
        let number : code_number col.fact (m % per_fact) ≡ m = omega (arith, own m t) in
        subst (λ k. is_in b k ≡ true) number
        (sym (same (m % per_fact) (omega arith) (omega (arith, number))) ∙ ap (is_in a) number ∙ t)

-- The best is a shortest list, and each that does not come after it has the same repairs with codes below `from`.
pub record Leads (col : Column) (rs : Courses) (best : Choice) (from : ℕ) : Type 0 where
  pub keeps : KeepsIn col rs (list_of col.fact best)
  pub least : (l : List ℕ) → KeepsIn col rs l → length (list_of col.fact best) ≤ length l
  pub ahead : (l : List ℕ) → KeepsIn col rs l → Agree col.fact from l (list_of col.fact best) ⊎ (list_of col.fact best ≼ l)

pub leads_start : (col : Column) (rs : Courses) (some : Choice) → Short col rs (Some some) → Leads col rs some 0
leads_start col rs some short = record { keeps = short.0; least = short.2; ahead = λ l keeps. inl (λ code h low. absurd (omega arith)) }

module _ (col : Column) (rs : Courses) (best : Choice) (from code : ℕ) (leads : Leads col rs best from) (next : NextIn best from code) where
  -- One was found that has a repair before the best's next: it leads as far, and its own next is earlier.
  module _ (r : Choice) (new : Earlier col rs best from code (list_of col.fact r)) (later : ℕ) (after : NextIn r from later) where
    pub next_earlier : later < code
    next_earlier = pick (dec_lt new.one.0 later)
      where
        pick : Dec (new.one.0 < later) → later < code
        pick (yes low) =
            absurd (false≢true (sym (after.absent new.one.0 low new.one.2) ∙ sym (in_list col.fact r new.one.0 new.one.1) ∙ new.one.4))
        pick (no high) = omega (arith, new.one.3)

    pub leads_found : Leads col rs r from
    leads_found = record { keeps = new.keeps; least = λ l keeps. omega (arith, leads.least l keeps, new.short); ahead = λ l keeps. pick l (leads.ahead l keeps) }
      where
        best_list : List ℕ
        best_list = list_of col.fact best

        inside : later < per_fact
        inside = omega (arith, next_earlier, next.within)

        agree : Agree col.fact later (list_of col.fact r) best_list
        agree c h low = pick (dec_lt c from)
          where
            pick : Dec (c < from) → is_in (list_of col.fact r) (code_number col.fact c) ≡ is_in best_list (code_number col.fact c)
            pick (yes before) = new.same c h before
            pick (no past) =
                in_list col.fact r c h ∙ after.absent c low (omega arith) ∙
                sym (in_list col.fact best c h ∙ next.absent c (omega (arith, next_earlier)) (omega arith))

        first : list_of col.fact r ≼ best_list
        first =
            before_at col rs (list_of col.fact r) best_list later new.keeps leads.keeps
            (omega (arith, new.short, leads.least (list_of col.fact r) new.keeps)) agree
            (in_list col.fact r later inside ∙ after.present inside)
            (in_list col.fact best later inside ∙ next.absent later next_earlier (omega (arith, inside, after.after)))

        pick : (l : List ℕ) → Agree col.fact from l best_list ⊎ (best_list ≼ l) → Agree col.fact from l (list_of col.fact r) ⊎ (list_of col.fact r ≼ l)
        pick l (inl same) = inl (λ c h low. same c h low ∙ sym (new.same c h low))
        pick l (inr after) = inr (≼_trans (list_of col.fact r) best_list l first after)

  -- None was found: a list that agrees below `from` has none before the best's next, and has that too, or comes after.
  module _ (inside : code < per_fact) (none : (l : List ℕ) → Earlier col rs best from code l → ⊥) where
    module _ (l : List ℕ) (keeps : KeepsIn col rs l) (same : Agree col.fact from l (list_of col.fact best))
        (short : length l ≤ length (list_of col.fact best)) where
      agree_next : Agree col.fact code l (list_of col.fact best)
      agree_next c h low = by (dec_lt c from)
        where
          by : Dec (c < from) → is_in l (code_number col.fact c) ≡ is_in (list_of col.fact best) (code_number col.fact c)
          by (yes before) = same c h before
          by (no past) =
              is_false (is_in l (code_number col.fact c)) (λ t.
              none l (record { keeps = keeps; same = same; one = (c, h, omega arith, low, t); short = short })) ∙
              sym (in_list col.fact best c h ∙ next.absent c low (omega arith))

      at_next : (b : Bool) → is_in l (code_number col.fact code) ≡ b
          → Agree col.fact (code + 1) l (list_of col.fact best) ⊎ (list_of col.fact best ≼ l)
      at_next true t = inl (λ c h low. by c h (dec_lt c code) low)
        where
          by : (c : ℕ) → c < per_fact → Dec (c < code) → c < code + 1
              → is_in l (code_number col.fact c) ≡ is_in (list_of col.fact best) (code_number col.fact c)
          by c h (yes before) low = agree_next c h before
          by c h (no past) low =
              let e : c ≡ code = omega arith in
              subst (λ i. is_in l (code_number col.fact i) ≡ is_in (list_of col.fact best) (code_number col.fact i)) (sym e)
              (t ∙ sym (in_list col.fact best code inside ∙ next.present inside))
      at_next false t =
          inr (before_at col rs (list_of col.fact best) l code leads.keeps keeps (omega (arith, leads.least l keeps))
          (λ c h low. sym (agree_next c h low)) (in_list col.fact best code inside ∙ next.present inside) t)

    pub leads_past : Leads col rs best (code + 1)
    leads_past = record {
      keeps = leads.keeps;
      least = leads.least;
      ahead = λ l keeps. pick l keeps (leads.ahead l keeps) (dec_lt (length (list_of col.fact best)) (length l));
    }
      where
        pick : (l : List ℕ) → KeepsIn col rs l → Agree col.fact from l (list_of col.fact best) ⊎ (list_of col.fact best ≼ l)
            → Dec (length (list_of col.fact best) < length l)
            → Agree col.fact (code + 1) l (list_of col.fact best) ⊎ (list_of col.fact best ≼ l)
        pick l keeps (inr after) d = inr after
        pick l keeps (inl same) (yes longer) = inr (inl longer)
        pick l keeps (inl same) (no no_longer) = at_next l keeps same (omega arith) (is_in l (code_number col.fact code)) refl

  -- The best has no more repairs: what agrees with it contains it.
  pub leads_end : per_fact ≤ code → First (KeepsIn col rs) (list_of col.fact best)
  leads_end done = record { member = leads.keeps; least = λ l keeps. pick l keeps (leads.ahead l keeps) }
    where
      pick : (l : List ℕ) → KeepsIn col rs l → Agree col.fact from l (list_of col.fact best) ⊎ (list_of col.fact best ≼ l) → list_of col.fact best ≼ l
      pick l keeps (inr after) = after
      pick l keeps (inl same) = contained_first col rs best l keeps (λ c h t. by c h t (dec_lt c from))
        where
          by : (c : ℕ) → c < per_fact → in_choice best c ≡ true → Dec (c < from) → is_in l (code_number col.fact c) ≡ true
          by c h t (yes before) = same c h before ∙ in_list col.fact best c h ∙ t
          by c h t (no past) = absurd (false≢true (sym (next.absent c (omega arith) (omega arith)) ∙ t))

-- One turn: the best gives way to the list that was found, or `from` goes on behind its next repair.
abbrev pub Turned : Choice → Option Choice → ℕ → ℕ → Choice → ℕ → Type 0
Turned best (Some found) from code best' from' = (best' ≡ found) × (from' ≡ from)
Turned best None from code best' from' = (best' ≡ best) × (from' ≡ code + 1)

-- The code that was found, or the number past all codes.
abbrev pub code_or_end : Option ℕ → ℕ
code_or_end (Some code) = code
code_or_end None = per_fact

pub first_next : (s : Choice) (from : ℕ) (next : Option ℕ) → FirstIn s from next → NextIn s from (code_or_end next)
first_next s from (Some code) first = first.1
first_next s from None none = none

-- How far there is to go.
abbrev pub ahead_of : ℕ → ℕ → ℕ
ahead_of from code = (per_fact + 1) * (per_fact - from) + code

module _ (col : Column) (rs : Courses) (best : Choice) (from code : ℕ) (leads : Leads col rs best from) (next : NextIn best from code) (inside : code < per_fact)
    (best' : Choice) (from' code' : ℕ) (next' : NextIn best' from' code') where
  -- The next repair of what was found, where the best gave way to it.
  at_found : (r : Choice) → (best' ≡ r) × (from' ≡ from) → NextIn r from code'
  at_found r w = subst (λ b. NextIn b from code') w.0 (subst (λ i. NextIn best' i code') w.1 next')

  pub turned_leads : (found : Option Choice) → SomeOf col.fact (Earlier col rs best from code) found → Turned best found from code best' from' → Leads col rs best' from'
  turned_leads (Some r) new w =
      subst (Leads col rs best') (sym w.1)
      (subst (λ b. Leads col rs b from) (sym w.0) (leads_found col rs best from code leads next r new code' (at_found r w)))
  turned_leads None none w =
      subst (Leads col rs best') (sym w.1) (subst (λ b. Leads col rs b (code + 1)) (sym w.0) (leads_past col rs best from code leads next inside none))

  pub turned_falls : (found : Option Choice) → SomeOf col.fact (Earlier col rs best from code) found → Turned best found from code best' from'
      → ahead_of from' code' < ahead_of from code
  turned_falls (Some r) new w = omega (arith, w.1, next_earlier col rs best from code leads next r new code' (at_found r w))
  turned_falls None none w = omega (arith, w.1, next.after, next'.within)

-- ---- the whole search of a column

module _ (col : Column) (rs : Courses) where
  -- The first of the lists is no longer than some shortest.
  pub shortest_first : (some r : Choice) → Short col rs (Some some) → First (KeepsIn col rs) (list_of col.fact r) → Shortest col rs (Some r)
  shortest_first some r short first =
      (first, omega (arith, short.1, ≼_length (list_of col.fact r) (list_of col.fact some) (first.least (list_of col.fact some) short.0)))
