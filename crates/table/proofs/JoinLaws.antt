-- The join: the verdicts of the single facts, joined in order of fact, are the verdict on the whole task (003).
use mathlib.Core.Bool.{Bool, true, false, ◌&&◌, cond, false≢true}
use mathlib.Core.List.{List, [], ◌++◌}
use mathlib.Core.Logic.{◌⊎◌, inl, inr}
use mathlib.Core.Path.{◌≡◌, refl, sym, ap, ◌∙◌, subst}
use Prim.Native.Nat.{ℕ, zero, suc, ◌+◌, ◌*◌, ◌<◌, ◌≤◌}
use native.Mathlib.Decide.{dec_lt}
use native.Mathlib.Nat.{le_trans, lt_of_lt_of_le}
use native.Mathlib.Omega.{arith}
use borrow.Author.Tests.{ltb-true, ltb-false}
use lib.Dec.{ltb}
use lib.ListN.{length, length-append}
use Rattle.table.specs.Counting.{some_below, first_where}
use Rattle.table.proofs.AnswerLaws.{first_same, permitted_fact, permitted_part, permitted_append, hopeless_none, hopeful_some, over_longer, neither_first}
use Rattle.table.proofs.CountingLaws.{some_passes, none_passes, first_where_at}
use Rattle.table.proofs.FlagLaws.{by_order}
use Rattle.table.proofs.OrderLaws.{is_in_none, is_in_left, is_in_right, is_in_either, ascending_weaken, ≼_none, ≼_length, ≼_append, Split, split_at, split_left_in, split_right_in, split_either}
use Rattle.table.proofs.RepairLaws.{repaired_none, right_of_part, right_of_whole}
use Rattle.table.proofs.RunLaws.{valid_all_right, right_all_valid, right_same, same_course_refl}
use Rattle.table.proofs.Strides.{limit_within_row}
use Rattle.table.specs.Answer.{Permitted, Works, Keeps, First, Verdict, found, over, Within}
use Rattle.table.specs.Lists.{gather}
use Rattle.table.specs.Join.{KeepsBelow, Inside, is_hopeless, is_over, found_list, join_lists, Joined, no_list, beyond, in_order, join_rows, read_against, join_verdicts, ComesTo}
use Rattle.table.specs.Order.{is_in, ◌≼◌}
use Rattle.table.specs.Repairs.{drop_need, repaired, fact_of}
use Rattle.table.specs.Sizes.{per_fact, max_row}
use Rattle.table.specs.Strips.{Cells, Courses, AllRight}
use Rattle.table.specs.Tasks.{cells_of, course_of, courses_of, WorksFor, KeepsFor, WellFormed}
use Rattle.table.specs.declared.Task.{Task}

-- ---- the limit, read afterwards

comes_same : (G H : List ℕ → Type 0) → ((m : List ℕ) → G m → H m) → ((m : List ℕ) → H m → G m) → (k : ℕ) (j : Joined)
    → ComesTo G k j → ComesTo H k j
comes_same G H there back k no_list p = λ m h. p m (back m h)
comes_same G H there back k (beyond f) p = ((p.0.0, there p.0.0 p.0.1), λ m h. p.1 m (back m h))
comes_same G H there back k (in_order l) p = first_same G H there back l p

-- Where every fact has a list that a row holds, any limit may be read; where one has not, any that a row could hold.
pub read_within : (G : List ℕ → Type 0) (k limit : ℕ) (j : Joined) → ((f : ℕ) → j ≡ beyond f → limit ≤ k) → ComesTo G k j
    → Within G limit (read_against limit j)
unfolding read_against
read_within G k limit no_list low p = p
read_within G k limit (beyond f) low p = (p.0, λ m h. omega (arith, low f refl, p.1 m h))
read_within G k limit (in_order l) low p = pick (ltb limit (length l)) refl
  where
    pick : (b : Bool) → ltb limit (length l) ≡ b → Within G limit (cond {A = Verdict} b over (found l))
    pick true e = ((l, p.member), λ m h. omega (arith, ltb-true limit (length l) e, ≼_length l m (p.least m h)))
    pick false e = (p, ltb-false limit (length l) e)

module _ (c : Cells) (rs : Courses) where
  -- ---- one fact more

  pub permitted_none : Permitted c []
  permitted_none = record { ascending = tt; each = λ n h. absurd (is_in_none n h) }

  -- The empty list, where there is no fact yet.
  pub keeps_below_none : KeepsBelow c rs 0 []
  keeps_below_none = record {
    permitted = permitted_none;
    own = λ n h. absurd (is_in_none n h);
    right = λ f h. absurd (omega arith);
  }

  -- A list for the facts below n, followed by one for fact n, is one for the facts below n + 1.
  pub join_keeps : (n : ℕ) (a b : List ℕ) → KeepsBelow c rs n a → Keeps c rs n b → KeepsBelow c rs (suc n) (a ++ b)
  join_keeps n a b p q = record {
    permitted = permitted_append c (per_fact * n) a b p.permitted q.permitted
        (λ m h. omega (arith, p.own m h)) (λ m h. omega (arith, q.own m h));
    own = λ m h. owned m (is_in_either a b m h);
    right = λ f h. right_at f h (dec_lt f n);
  }
    where
      owned : (m : ℕ) → (is_in a m ≡ true) ⊎ (is_in b m ≡ true) → fact_of m < suc n
      owned m (inl h) = omega (arith, p.own m h)
      owned m (inr h) = omega (arith, q.own m h)

      in_first : (f m : ℕ) → f < n → fact_of m ≡ f → (is_in a m ≡ true) ⊎ (is_in b m ≡ true) → is_in a m ≡ true
      in_first f m h e (inl k) = k
      in_first f m h e (inr k) = absurd (omega (arith, q.own m k))

      in_last : (m : ℕ) → fact_of m ≡ n → (is_in a m ≡ true) ⊎ (is_in b m ≡ true) → is_in b m ≡ true
      in_last m e (inl k) = absurd (omega (arith, p.own m k))
      in_last m e (inr k) = k

      right_at : (f : ℕ) → f < suc n → Dec (f < n) → AllRight (repaired c (is_in (a ++ b))) rs f
      right_at f h (yes k) = right_of_whole c rs f (a ++ b) a (record {
        within = λ m e. is_in_left a b m;
        all = λ m e t. in_first f m k e (is_in_either a b m t);
      }) (p.right f k)
      right_at f h (no k) =
          let last : n ≡ f = omega arith in
          subst (λ (g : ℕ). AllRight (repaired c (is_in (a ++ b))) rs g) last (right_of_whole c rs n (a ++ b) b (record {
            within = λ m e. is_in_right a b m;
            all = λ m e t. in_last m e (is_in_either a b m t);
          }) q.right)

  -- Every list for the facts below n + 1 is such a join.
  pub record Parts (n : ℕ) (l : List ℕ) : Type 0 where
    pub lower : List ℕ
    pub last : List ℕ
    pub whole : lower ++ last ≡ l
    pub lower_keeps : KeepsBelow c rs n lower
    pub last_keeps : Keeps c rs n last

  pub join_parts : (n : ℕ) (l : List ℕ) → KeepsBelow c rs (suc n) l → Parts n l
  join_parts n l p = record {
    lower = s.left;
    last = s.right;
    whole = s.whole;
    lower_keeps = record {
      permitted = permitted_part c l s.left p.permitted s.left_ascending left_in;
      own = λ m h. omega (arith, s.below m h);
      right = λ f h. right_of_part c rs f l s.left (record {
        within = λ m e. left_in m;
        all = λ m e t. in_left f m h e (split_either 0 l (per_fact * n) s m t);
      }) (p.right f (omega arith));
    };
    last_keeps = record {
      permitted = permitted_part c l s.right p.permitted
          (ascending_weaken 0 (per_fact * n) s.right (omega arith) s.right_ascending) right_in;
      own = λ m h. omega (arith, s.above m h, p.own m (right_in m h));
      right = right_of_part c rs n l s.right (record {
        within = λ m e. right_in m;
        all = λ m e t. in_right m e (split_either 0 l (per_fact * n) s m t);
      }) (p.right n (omega arith));
    };
  }
    where
      s : Split 0 l (per_fact * n)
      s = split_at 0 l p.permitted.ascending (per_fact * n)

      left_in : (m : ℕ) → is_in s.left m ≡ true → is_in l m ≡ true
      left_in = split_left_in 0 l (per_fact * n) s

      right_in : (m : ℕ) → is_in s.right m ≡ true → is_in l m ≡ true
      right_in = split_right_in 0 l (per_fact * n) s

      in_left : (f m : ℕ) → f < n → fact_of m ≡ f → (is_in s.left m ≡ true) ⊎ (is_in s.right m ≡ true)
          → is_in s.left m ≡ true
      in_left f m h e (inl k) = k
      in_left f m h e (inr k) = absurd (omega (arith, s.above m k))

      in_right : (m : ℕ) → fact_of m ≡ n → (is_in s.left m ≡ true) ⊎ (is_in s.right m ≡ true) → is_in s.right m ≡ true
      in_right m e (inl k) = absurd (omega (arith, s.below m k))
      in_right m e (inr k) = k

  pub parts_length : (n : ℕ) (l : List ℕ) (p : Parts n l) → length l ≡ length p.lower + length p.last
  parts_length n l p = ap length (sym p.whole) ∙ length-append p.lower p.last

  pub join_first : (n : ℕ) (a b : List ℕ) → First (KeepsBelow c rs n) a → First (Keeps c rs n) b
      → First (KeepsBelow c rs (suc n)) (a ++ b)
  join_first n a b p q = record {
    member = join_keeps n a b p.member q.member;
    least = λ m h. before m (join_parts n m h);
  }
    where
      before : (m : List ℕ) → Parts n m → (a ++ b) ≼ m
      before m t =
          subst (λ (w : List ℕ). (a ++ b) ≼ w) t.whole
          (≼_append a t.lower b t.last (p.least t.lower t.lower_keeps) (q.least t.last t.last_keeps))

  -- ---- all facts

  -- A fact outside the task is right, whatever is repaired.
  pub right_outside : Inside c rs → (f : ℕ) → c.facts ≤ f → (R : ℕ → Bool) → AllRight (repaired c R) rs f
  right_outside inside f h R j low = record {
    needed = λ i k n.
        let a = (rs.course j).step i in
        absurd (false≢true (sym (unneeded (c.needs a f) _ (inside.needs a f h)) ∙ n));
    wanted = λ g. absurd (false≢true (sym (inside.goal j low f h) ∙ g));
  }
    where
      unneeded : (a b : Bool) → a ≡ false → (a && b) ≡ false
      unneeded true b e = absurd (false≢true (sym e))
      unneeded false b e = refl

  -- A fact that is right as it stands has the empty list as the first of its shortest.
  keeps_nothing : (f : ℕ) → AllRight (repaired c (is_in [])) rs f → First (Keeps c rs f) []
  keeps_nothing f right = record {
    member = record { permitted = permitted_none; own = λ n k. absurd (is_in_none n k); right = right };
    least = λ m k. ≼_none m;
  }

  pub keeps_right : (f : ℕ) → AllRight c rs f → First (Keeps c rs f) []
  keeps_right f right =
      keeps_nothing f (λ i h.
      let r = rs.course i in
      right_same f r r c (repaired c (is_in [])) (repaired_none c r f) (same_course_refl f r) (right i h))

  pub keeps_outside : Inside c rs → (f : ℕ) → c.facts ≤ f → First (Keeps c rs f) []
  keeps_outside inside f h = keeps_nothing f (right_outside inside f h (is_in []))

  pub keeps_below_works : Inside c rs → (l : List ℕ) → KeepsBelow c rs c.facts l → Works c rs l
  keeps_below_works inside l p = record {
    permitted = p.permitted;
    valid = right_all_valid (repaired c (is_in l)) rs (λ f. pick f (dec_lt f c.facts));
  }
    where
      pick : (f : ℕ) → Dec (f < c.facts) → AllRight (repaired c (is_in l)) rs f
      pick f (yes h) = p.right f h
      pick f (no h) = right_outside inside f (omega arith) (is_in l)

  pub works_keeps_below : (l : List ℕ) → Works c rs l → KeepsBelow c rs c.facts l
  works_keeps_below l w = record {
    permitted = w.permitted;
    own = λ n h. permitted_fact c n (w.permitted.each n h);
    right = λ f h. valid_all_right (repaired c (is_in l)) rs w.valid f;
  }

  -- ---- the facts below n, each by itself

  -- A list for the facts below n has one for each of them in it.
  part_below : (n f : ℕ) → f < n → (m : List ℕ) → KeepsBelow c rs n m → (p : List ℕ) × Keeps c rs f p × (length p ≤ length m)
  part_below zero f h m k = absurd (omega arith)
  part_below (suc n) f h m k =
      let t = join_parts n m k in
      by_order f n (λ l.
      let q = part_below n f l t.lower t.lower_keeps in
      (q.0, q.1, omega (arith, q.2, parts_length n m t)))
      (λ l.
      let last : n ≡ f = omega arith in
      (t.last, subst (λ (g : ℕ). Keeps c rs g t.last) last t.last_keeps, omega (arith, parts_length n m t)))

  some_below_lem : (n : ℕ) → ((f : ℕ) → f < n → (m : List ℕ) × Keeps c rs f m) → (m : List ℕ) × KeepsBelow c rs n m
  some_below_lem zero some = ([], keeps_below_none)
  some_below_lem (suc n) some =
      let a = some_below_lem n (λ f h. some f (omega arith)) in
      let b = some n (omega arith) in
      (a.0 ++ b.0, join_keeps n a.0 b.0 a.1 b.1)

  first_below : (l : ℕ → List ℕ) (n : ℕ) → ((f : ℕ) → f < n → First (Keeps c rs f) (l f)) → First (KeepsBelow c rs n) (gather l n)
  unfolding gather
  first_below l zero first = record { member = keeps_below_none; least = λ m h. ≼_none m }
  first_below l (suc n) first = join_first n (gather l n) (l n) (first_below l n (λ f h. first f (omega arith))) (first n (omega arith))

  -- ---- the verdicts joined

  -- The joined verdicts of the facts below n, a row holding k repairs, say what they come to for the lists of those facts.
  pub join_below : (v : ℕ → Verdict) (k n : ℕ) → ((f : ℕ) → f < n → Within (Keeps c rs f) k (v f)) → ComesTo (KeepsBelow c rs n) k (join_rows v n)
  unfolding join_rows
  join_below v k n w = pick (some_below (λ f. is_hopeless (v f)) n) (ltb (first_where (λ f. is_over (v f)) n) n) refl refl
    where
      hope : some_below (λ f. is_hopeless (v f)) n ≡ false → (f : ℕ) → f < n → is_hopeless (v f) ≡ false
      hope e = none_passes (λ f. is_hopeless (v f)) n e

      pick : (x y : Bool) → some_below (λ f. is_hopeless (v f)) n ≡ x → ltb (first_where (λ f. is_over (v f)) n) n ≡ y
          → ComesTo (KeepsBelow c rs n) k
          (cond {A = Joined} x no_list (cond {A = Joined} y (beyond (first_where (λ f. is_over (v f)) n)) (in_order (join_lists v n))))
      pick true y ex ey =
          let p = some_passes (λ f. is_hopeless (v f)) n ex in
          λ m h.
          let q = part_below n p.0 p.1 m h in
          hopeless_none (Keeps c rs p.0) k (v p.0) (w p.0 p.1) p.2 q.0 q.1
      pick false true ex ey =
          let f = first_where (λ f. is_over (v f)) n in
          let low : f < n = ltb-true f n ey in (
            some_below_lem n (λ g h. hopeful_some (Keeps c rs g) k (v g) (w g h) (hope ex g h)),
            λ m h.
                let q = part_below n f low m h in
                omega (arith, q.2, over_longer (Keeps c rs f) k (v f) (w f low) ((first_where_at (λ f. is_over (v f)) n).holds low) q.0 q.1),
          )
      pick false false ex ey =
          first_below (λ f. found_list (v f)) n (λ f h.
          neither_first (Keeps c rs f) k (v f) (w f h) (hope ex f h)
          ((first_where_at (λ f. is_over (v f)) n).before f (lt_of_lt_of_le h (ltb-false (first_where (λ f. is_over (v f)) n) n ey))))

  -- The theorem: each fact can be diagnosed by itself, and the joined verdicts say what they come to for the task.
  pub join_works : Inside c rs → (v : ℕ → Verdict) (k : ℕ) → ((f : ℕ) → f < c.facts → Within (Keeps c rs f) k (v f))
      → ComesTo (Works c rs) k (join_rows v c.facts)
  join_works inside v k w =
      comes_same (KeepsBelow c rs c.facts) (Works c rs) (keeps_below_works inside) works_keeps_below k (join_rows v c.facts)
      (join_below v k c.facts w)

-- ---- the same of a well-formed task

pub formed_inside : (t : Task) → WellFormed t → Inside (cells_of t.table) (courses_of t)
unfolding cells_of course_of
formed_inside t w = record { needs = w.inside drop_need; goal = λ i h. w.goal_inside i }

-- What solving and the session cite: the joined verdicts of a task's facts, each read off a row, are the verdict on the lists that work for it.
pub join_for : (t : Task) → WellFormed t → (v : ℕ → Verdict) → ((f : ℕ) → f < t.table.facts → Within (KeepsFor t f) max_row (v f))
    → Within (WorksFor t) t.table.limit (join_verdicts v t.table.facts t.table.limit)
unfolding cells_of
join_for t w v each =
    read_within (WorksFor t) max_row t.table.limit (join_rows v t.table.facts) (λ f e. le_trans w.limit_high limit_within_row)
    (join_works (cells_of t.table) (courses_of t) (formed_inside t w) v max_row each)

-- A fact from F up has the empty list, as the session table shows it.
pub keeps_for_outside : (t : Task) → WellFormed t → (f : ℕ) → t.table.facts ≤ f → First (KeepsFor t f) []
unfolding cells_of
keeps_for_outside t w f h = keeps_outside (cells_of t.table) (courses_of t) (formed_inside t w) f h
