-- Laws of the bound: sets of repairs that share none, each lacking to the candidate with the earlier ones put in, cost a repair
-- each.
use mathlib.Core.Bool.{true, false, true≢false, ◌||◌}
use mathlib.Core.List.{List}
use mathlib.Core.Logic.{◌⊎◌, inl, inr}
use mathlib.Core.Path.{◌≡◌, sym, ◌∙◌, subst}
use Prim.Native.Nat.{ℕ, ◌+◌, ◌%◌, ◌<◌, ◌≤◌}
use native.Mathlib.Omega.{arith}
use lib.ListN.{length}
use Rattle.table.specs.Order.{is_in}
use Rattle.table.specs.Repairs.{repaired}
use Rattle.table.specs.Sizes.{per_fact}
use Rattle.table.specs.Strips.{Courses, AllRight}
use Rattle.table.proofs.FlagLaws.{is_false, or_cases, or_left, or_right}
use Rattle.table.proofs.RepairLaws.{right_more}
use Rattle.choices.specs.declared.Choice.{Choice}
use Rattle.choices.specs.Choices.{in_choice, numbers_in, list_of, code_number, Contains, Apart}
use Rattle.search.specs.declared.Column.{Column}
use Rattle.search.specs.Columns.{cells_in}
use Rattle.search.specs.Searching.{Complete, Sought, Lacks, Among, OutFor}
use Rattle.choices.specs.Trying.{with_repair, both_of, without_those, CodesBelow}
use Rattle.choices.proofs.ChoiceLaws.{list_of_only, list_of_members, list_of_has, in_both, in_without_cases, with_cases, with_length, contains_with}
use Rattle.search.proofs.SearchLaws.{no_more}

-- A list's share in the sets so far: the candidate s with n repairs more, all of them in `passed`, that the list has.
pub record Share (col : Column) (s passed : Choice) (n : ℕ) (l : List ℕ) : Type 0 where
  pub share : Choice
  pub within : (code : ℕ) → code < per_fact → in_choice share code ≡ true → in_choice passed code ≡ true
  pub size : length (list_of col.fact share) ≡ length (list_of col.fact s) + n
  pub part : Contains (is_in l) col.fact share

-- Every list that is looked for and contains the candidate has one; and the candidate is in `passed`.
pub record Shared (col : Column) (rs : Courses) (s out want passed : Choice) (n : ℕ) : Type 0 where
  pub shares : (l : List ℕ) → Sought col rs out want l → Contains (is_in l) col.fact s → Share col s passed n l
  pub candidate : (code : ℕ) → code < per_fact → in_choice s code ≡ true → in_choice passed code ≡ true

module _ (col : Column) (rs : Courses) (s out want : Choice) where
  pub shared_none : Shared col rs s out want s 0
  shared_none = record {
    shares = λ l sought part. record { share = s; within = λ code h t. t; size = omega arith; part = part };
    candidate = λ code h t. t;
  }

  -- One more set, lacking to all that was passed: each list has a repair of it.
  pub shared_more : (passed q : Choice) (n : ℕ) → Shared col rs s out want passed n → Lacks col rs passed out want q
      → Shared col rs s out want (both_of passed q) (n + 1)
  shared_more passed q n before lacks = record {
    shares = more;
    candidate = λ code h t. in_both passed q code ∙ or_left (in_choice passed code) (in_choice q code) (before.candidate code h t);
  }
    where
      more : (l : List ℕ) → Sought col rs out want l → Contains (is_in l) col.fact s → Share col s (both_of passed q) (n + 1) l
      more l sought part = record {
        share = with_repair w.share code;
        within = λ c hc t. in_both passed q c ∙ pick c hc (with_cases w.share code c h hc t);
        size = omega (arith, with_length col.fact w.share code h new, w.size);
        part = contains_with (is_in l) col.fact w.share code h w.part m.3;
      }
        where
          w : Share col s passed n l
          w = before.shares l sought part

          m : (code : ℕ) × (code < per_fact) × (in_choice q code ≡ true) × (is_in l (code_number col.fact code) ≡ true)
          m = lacks.meets l sought

          code : ℕ
          code = m.0

          h : code < per_fact
          h = m.1

          new : in_choice w.share code ≡ false
          new = is_false (in_choice w.share code) (λ t. true≢false (sym (w.within code h t) ∙ lacks.fresh code h m.2))

          pick : (c : ℕ) → c < per_fact → (c ≡ code) ⊎ (in_choice w.share c ≡ true) → (in_choice passed c || in_choice q c) ≡ true
          pick c hc (inl e) = or_right (in_choice passed c) (in_choice q c) (subst (λ k. in_choice q k ≡ true) (sym e) m.2)
          pick c hc (inr t) = or_left (in_choice passed c) (in_choice q c) (w.within c hc t)

  -- A list that has its share and no room for more has nothing beside what was passed.
  within_passed : (passed : Choice) (n left : ℕ) → left ≤ n → Shared col rs s out want passed n → (l : List ℕ)
      → Among col rs s out want (length (list_of col.fact s) + left) l → (m : ℕ) → is_in l m ≡ true → is_in (list_of col.fact passed) m ≡ true
  within_passed passed n left enough all l a m h =
      let w = all.shares l a.sought a.contains in
      let only : is_in (list_of col.fact w.share) m ≡ true =
      no_more col rs w.share l a.sought.keeps w.part (omega (arith, a.short, w.size)) m h in
      let number : code_number col.fact (m % per_fact) ≡ m = omega (arith, a.sought.keeps.own m h) in
      let code : in_choice w.share (m % per_fact) ≡ true =
      list_of_only col.fact w.share (m % per_fact) (subst (λ k. is_in (list_of col.fact w.share) k ≡ true) (sym number) only) in
      subst (λ k. is_in (list_of col.fact passed) k ≡ true) number
      (list_of_has col.fact passed (m % per_fact) (omega arith) (w.within (m % per_fact) (omega arith) code))

  module _ (passed : Choice) (n left : ℕ) (enough : left ≤ n) (all : Shared col rs s out want passed n) where
    -- All that was passed is not enough: there is no list.
    pub shared_short : Complete col rs passed want false → (l : List ℕ) → Among col rs s out want (length (list_of col.fact s) + left) l → ⊥
    shared_short short l a = short right (m.0, m.1, in_passed, m.2)
      where
        m : (code : ℕ) × (code < per_fact) × (in_choice want code ≡ true) × (is_in l (code_number col.fact code) ≡ true)
        m = a.sought.meets

        in_passed : in_choice passed m.0 ≡ true
        in_passed = list_of_only col.fact passed m.0 (within_passed passed n left enough all l a (code_number col.fact m.0) m.3)

        right : AllRight (repaired (cells_in col) (numbers_in col.fact passed)) rs col.fact
        right =
            right_more (cells_in col) rs col.fact (is_in l) (numbers_in col.fact passed)
            (λ k own h. sym (list_of_members col.fact passed k) ∙ within_passed passed n left enough all l a k h) a.sought.keeps.right

    -- Nothing beside what was passed: the rest is out.
    pub shared_out : (every : Choice) → CodesBelow per_fact every → Apart s out
        → OutFor col rs s out want (length (list_of col.fact s) + left) (both_of out (without_those every passed))
    shared_out every whole apart = record {
      before = λ code h t. in_both out (without_those every passed) code ∙ or_left (in_choice out code) _ t;
      apart = λ code h t.
          is_false (in_choice (both_of out (without_those every passed)) code) (λ u.
          true≢false (sym (all.candidate code h t) ∙ not_passed code u (λ o. true≢false (sym o ∙ apart code h t))));
      misses = λ l a code h t.
          is_false (is_in l (code_number col.fact code)) (λ u.
          true≢false (sym (list_of_only col.fact passed code (within_passed passed n left enough all l a (code_number col.fact code) u)) ∙
          not_passed code t (λ o. true≢false (sym u ∙ a.sought.misses code h o))));
    }
      where
        not_passed : (code : ℕ) → in_choice (both_of out (without_those every passed)) code ≡ true → (in_choice out code ≡ true → ⊥)
            → in_choice passed code ≡ false
        not_passed code t apart =
            pick (or_cases (in_choice out code) (in_choice (without_those every passed) code) (sym (in_both out (without_those every passed) code) ∙ t))
          where
            pick : (in_choice out code ≡ true) ⊎ (in_choice (without_those every passed) code ≡ true) → in_choice passed code ≡ false
            pick (inl o) = absurd (apart o)
            pick (inr r) = (in_without_cases every passed code r).1
