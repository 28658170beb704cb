-- Why the search finds a list exactly if there is one: what a candidate, what it lacks and a try give.
use Rattle.std.specs.Prelude.{Option, Some, None}
use mathlib.Core.Bool.{Bool, true, false, false≢true, true≢false}
use mathlib.Core.List.{List}
use mathlib.Core.Logic.{◌⊎◌, inl, inr}
use mathlib.Core.Path.{◌≡◌, refl, sym, ap, ◌∙◌, subst, fun_ext}
use Prim.Native.Nat.{ℕ, ◌+◌, ◌-◌, ◌%◌, ◌<◌, ◌≤◌}
use native.Mathlib.Omega.{arith}
use lib.ListN.{length}
use Rattle.table.specs.Answer.{Permitted}
use Rattle.table.specs.Order.{is_in, ◌≼◌}
use Rattle.table.specs.Repairs.{permitted, repaired}
use Rattle.table.specs.Sizes.{per_fact}
use Rattle.table.specs.Strips.{Course, Courses, one, Right, AllRight, state_at}
use Rattle.table.proofs.FlagLaws.{is_false, by_order}
use Rattle.table.proofs.OrderLaws.{compared, ≼_length, subset_first}
use Rattle.choices.specs.declared.Choice.{Choice}
use Rattle.choices.specs.Choices.{in_choice, list_of, code_number, Contains, Apart, Shares}
use Rattle.search.specs.declared.Column.{Column}
use Rattle.search.specs.declared.Lent.{Lent}
use Rattle.search.specs.declared.Run.{Run}
use Rattle.search.specs.Columns.{cells_in, KeepsIn}
use Rattle.search.specs.Runs.{run_of, runs_of}
use Rattle.search.specs.Searching.{cells_with, NeededAt, Missing, Allowed, Conflicts, Lacks, Complete, LackingBelow, Among, SomeOf, OutFor}
use Rattle.search.specs.Gaps.{Gap}
use Rattle.choices.specs.Trying.{with_repair, without_those, NextIn}
use Rattle.choices.proofs.ChoiceLaws.{list_of_ascending, list_of_from, list_of_has, list_of_members, list_misses, contains_list, in_without_cases, left_over, with_has, with_keeps, with_other, with_cases, with_length, contains_with, contains_without}

-- ---- a candidate and its list

module _ (col : Column) (rs : Courses) (s : Choice) where
  -- Applying a candidate's list is applying the candidate.
  pub list_applied : repaired (cells_in col) (is_in (list_of col.fact s)) ≡ cells_with col s
  list_applied = ap (λ R. repaired (cells_in col) R) (fun_ext (list_of_members col.fact s))

  pub allowed_permitted : Allowed col s → Permitted (cells_in col) (list_of col.fact s)
  allowed_permitted allowed = record {
    ascending = list_of_ascending col.fact s;
    each = λ n h.
        let d = list_of_from col.fact s n h in
        subst (λ k. permitted (cells_in col) k ≡ true) (sym d.number) (allowed d.index d.below d.passes);
  }

  -- A candidate with which the fact is right keeps it right, as a list.
  pub right_keeps : Allowed col s → AllRight (cells_with col s) rs col.fact → KeepsIn col rs (list_of col.fact s)
  right_keeps allowed right = record {
    permitted = allowed_permitted allowed;
    own = λ n h. let d = list_of_from col.fact s n h in omega (arith, d.below, d.number);
    right = subst (λ c. AllRight c rs col.fact) (sym list_applied) right;
  }

  -- The candidate comes before, or is, every list that contains it.
  pub contained_first : (l : List ℕ) → KeepsIn col rs l → Contains (is_in l) col.fact s → list_of col.fact s ≼ l
  contained_first l keeps part =
      subset_first 0 l 0 (list_of col.fact s) (list_of_ascending col.fact s) keeps.permitted.ascending
      (contains_list col.fact s (is_in l) part)

  -- "a fact f is missing": then it is not right.
  pub missing_wrong : (r : Course) (j : ℕ) → Missing col r s j → Right (cells_with col s) r col.fact → ⊥
  missing_wrong r j m right = pick m.needed
    where
      pick : NeededAt col r s j → ⊥
      pick (NeededAt.by_step h n) = false≢true (sym m.absent ∙ right.needed j h n)
      pick (NeededAt.by_goal e g) =
          false≢true (sym m.absent ∙ ap (λ i. state_at (cells_with col s) r i col.fact) e ∙ right.wanted g)

  -- One more permitted repair.
  pub allowed_with : (q : Choice) (code : ℕ) → code < per_fact → Allowed col s → Allowed col q → in_choice q code ≡ true
      → Allowed col (with_repair s code)
  allowed_with q code h allowed each t c hc u = pick (with_cases s code c h hc u)
    where
      pick : (c ≡ code) ⊎ (in_choice s c ≡ true) → permitted (cells_in col) (code_number col.fact c) ≡ true
      pick (inl e) = subst (λ k. permitted (cells_in col) (code_number col.fact k) ≡ true) (sym e) (each code h t)
      pick (inr v) = allowed c hc v

-- ---- a try

module _ (col : Column) (rs : Courses) (s : Choice) where
  -- A list that keeps the fact right, contains the candidate and is no longer has no repair beside the candidate's.
  pub no_more : (l : List ℕ) → KeepsIn col rs l → Contains (is_in l) col.fact s → length l ≤ length (list_of col.fact s)
      → (n : ℕ) → is_in l n ≡ true → is_in (list_of col.fact s) n ≡ true
  no_more l keeps part short n h = pick (in_choice s (n % per_fact)) refl
    where
      number : code_number col.fact (n % per_fact) ≡ n
      number = omega (arith, keeps.own n h)

      in_l : is_in l (code_number col.fact (n % per_fact)) ≡ true
      in_l = subst (λ k. is_in l k ≡ true) (sym number) h

      pick : (b : Bool) → in_choice s (n % per_fact) ≡ b → is_in (list_of col.fact s) n ≡ true
      pick true t =
          subst (λ k. is_in (list_of col.fact s) k ≡ true) number (list_of_has col.fact s (n % per_fact) (omega arith) t)
      pick false t =
          let longer : list_of col.fact (with_repair s (n % per_fact)) ≼ l =
          contained_first col rs (with_repair s (n % per_fact)) l keeps
          (contains_with (is_in l) col.fact s (n % per_fact) (omega arith) part in_l) in
          absurd (omega (
            arith,
            ≼_length (list_of col.fact (with_repair s (n % per_fact))) l longer,
            with_length col.fact s (n % per_fact) (omega arith) t,
          ))

-- What a gap's place says.
pub gap_right : (col : Column) (r : Course) (s : Choice) (j : ℕ) → Gap col r s j → r.count < j → Right (cells_with col s) r col.fact
gap_right col r s j (Gap.missing_at low m) h = absurd (omega arith)
gap_right col r s j (Gap.nowhere e right) h = right

pub gap_missing : (col : Column) (r : Course) (s : Choice) (j : ℕ) → Gap col r s j → j ≤ r.count → Missing col r s j
gap_missing col r s j (Gap.missing_at low m) h = m
gap_missing col r s j (Gap.nowhere e right) h = absurd (omega arith)

-- What holds of a run that was taken out of what is lent holds there.
pub in_run : (P : Column → Course → Type 0) (v : Lent) (n : ℕ) (run : Run) → run.col.now ≡ v.col.now → run_of run ≡ (runs_of v).course n
    → P run.col.now (run_of run) → P v.col.now ((runs_of v).course n)
in_run P v n run column same p = subst (λ col. P col ((runs_of v).course n)) column (subst (P run.col.now) same p)

-- ---- what a candidate lacks

-- A conflict in one of the runs, without what is out.
pub conflict_lacks : (col : Column) (rs : Courses) (i : ℕ) → i < rs.many → (s out want q : Choice) → Conflicts col (one (rs.course i)) s q
    → Lacks col rs s out want (without_those q out)
conflict_lacks col rs i inside s out want q conflict = record {
  meets = λ l h. left_over q out (is_in l) col.fact h.misses (conflict.meets l (in_run h.keeps));
  fresh = λ code h t. conflict.fresh code h (in_without_cases q out code t).0;
  apart = λ code h t. (in_without_cases q out code t).1;
  allowed = λ code h t. conflict.allowed code h (in_without_cases q out code t).0;
}
  where
    in_run : {l : List ℕ} → KeepsIn col rs l → KeepsIn col (one (rs.course i)) l
    in_run keeps = record { permitted = keeps.permitted; own = keeps.own; right = λ _ _. keeps.right i inside }

-- What is wanted, where the candidate has none of it, without what is out.
pub wanted_lacks : (col : Column) (rs : Courses) (s out want : Choice) → Allowed col want → (Shares s want → ⊥) → Lacks col rs s out want (without_those want out)
wanted_lacks col rs s out want allowed unmet = record {
  meets = λ l h. left_over want out (is_in l) col.fact h.misses h.meets;
  fresh = λ code h t. is_false (in_choice s code) (λ u. unmet (code, h, u, (in_without_cases want out code t).0));
  apart = λ code h t. (in_without_cases want out code t).1;
  allowed = λ code h t. allowed code h (in_without_cases want out code t).0;
}

-- The fact is right in the runs below n.
abbrev pub RightBelow : Column → Courses → Choice → ℕ → Type 0
RightBelow col rs s n = (i : ℕ) → i < n → Right (cells_with col s) (rs.course i) col.fact

pub right_next : (col : Column) (rs : Courses) (s : Choice) (n : ℕ) → Right (cells_with col s) (rs.course n) col.fact → RightBelow col rs s n
    → RightBelow col rs s (n + 1)
right_next col rs s n right before i h = by_order i n (before i) (λ past. same (omega arith))
  where
    same : n ≡ i → Right (cells_with col s) (rs.course i) col.fact
    same e = subst (λ k. Right (cells_with col s) (rs.course k) col.fact) e right

-- Before the first run: nothing, if the candidate has one of the repairs that are wanted.
pub lacking_none : (col : Column) (rs : Courses) (s out want : Choice) → Shares s want → LackingBelow col rs s out want 0 None
lacking_none col rs s out want shares = (λ i h. absurd (omega arith), shares)

-- A run in which the fact is right: no more is lacking than before.
pub lacking_kept : (col : Column) (rs : Courses) (s out want : Choice) (n : ℕ) (best : Option Choice)
    → Right (cells_with col s) (rs.course n) col.fact → LackingBelow col rs s out want n best → LackingBelow col rs s out want (n + 1) best
lacking_kept col rs s out want n (Some q) right lacks = lacks
lacking_kept col rs s out want n None right so = (right_next col rs s n right so.0, so.1)

-- ---- a test's own answers

-- A candidate that lacks nothing is a list that is looked for.
pub candidate_among : (col : Column) (rs : Courses) (s out want : Choice) (left : ℕ) → Allowed col s → Apart s out → Complete col rs s want true
    → Among col rs s out want (length (list_of col.fact s) + left) (list_of col.fact s)
candidate_among col rs s out want left allowed apart complete = record {
  sought = record {
    keeps = right_keeps col rs s allowed complete.0;
    misses = list_misses col.fact s out apart;
    meets = let m = complete.1 in (m.0, m.1, m.3, list_of_has col.fact s m.0 m.1 m.2);
  };
  contains = list_of_has col.fact s;
  short = omega arith;
}

-- More is out, and nothing that a list has: the lists are the same.
module _ (col : Column) (rs : Courses) (s out want r : Choice) (k : ℕ) (more : OutFor col rs s out want k r) where
  pub among_fewer : (l : List ℕ) → Among col rs s out want k l → Among col rs s r want k l
  among_fewer l a = record {
    sought = record { keeps = a.sought.keeps; misses = more.misses l a; meets = a.sought.meets };
    contains = a.contains;
    short = a.short;
  }

  pub among_more : (l : List ℕ) → Among col rs s r want k l → Among col rs s out want k l
  among_more l a = record {
    sought = record {
      keeps = a.sought.keeps;
      misses = λ code h t. a.sought.misses code h (more.before code h t);
      meets = a.sought.meets;
    };
    contains = a.contains;
    short = a.short;
  }

  pub some_fewer : (found : Option Choice) → SomeOf col.fact (Among col rs s r want k) found → SomeOf col.fact (Among col rs s out want k) found
  some_fewer (Some found) a = among_more (list_of col.fact found) a
  some_fewer None none = λ l a. none l (among_fewer l a)

-- ---- a branch's loop over the codes of what is lacking

-- What is out when the loop comes to code i: what was out before it and the repairs of q that were tried, and none of the lists
-- has one of them.
pub record OutAt (col : Column) (rs : Courses) (s out want q : Choice) (k i : ℕ) (now : Choice) : Type 0 where
  pub outs : OutFor col rs s out want k now
  pub tried : (c : ℕ) → c < per_fact → c < i → in_choice q c ≡ true → in_choice now c ≡ true
  pub only : (c : ℕ) → c < per_fact → in_choice now c ≡ true → (in_choice out c ≡ true) ⊎ (c < i)

module _ (col : Column) (rs : Courses) (s out want q : Choice) (k : ℕ) where
  pub out_first : Apart s out → OutAt col rs s out want q k 0 out
  out_first apart = record {
    outs = record { before = λ c h t. t; apart = apart; misses = λ l a. a.sought.misses };
    tried = λ c h low t. absurd (omega arith);
    only = λ c h t. inl t;
  }

  -- On to the next code of q, or past them all: none of it is between.
  pub out_skip : (now : Choice) (i next : ℕ) → i ≤ per_fact → NextIn q i next → OutAt col rs s out want q k i now → OutAt col rs s out want q k next now
  out_skip now i next low after at = record {
    outs = at.outs;
    tried = λ c hc far t. by_order c i (λ past. at.tried c hc past t) (λ here. absurd (false≢true (sym (after.absent c far here) ∙ t)));
    only = λ c hc t. later c (at.only c hc t);
  }
    where
      later : (c : ℕ) → (in_choice out c ≡ true) ⊎ (c < i) → (in_choice out c ≡ true) ⊎ (c < next)
      later c (inl o) = inl o
      later c (inr past) = inr (omega (arith, after.after))

  module _ (lacks : Lacks col rs s out want q) (now : Choice) (i : ℕ) (h : i < per_fact) (here : in_choice q i ≡ true)
      (at : OutAt col rs s out want q k i now) where
    -- The repair that is tried is not out.
    not_out : in_choice now i ≡ false
    not_out = is_false (in_choice now i) (λ t. pick (at.only i h t))
      where
        pick : (in_choice out i ≡ true) ⊎ (i < i) → ⊥
        pick (inl t) = true≢false (sym t ∙ lacks.apart i h here)
        pick (inr low) = absurd (omega arith)

    -- The candidate with it has nothing that is out.
    pub apart_with : Apart (with_repair s i) now
    apart_with c hc t = pick (with_cases s i c h hc t)
      where
        pick : (c ≡ i) ⊎ (in_choice s c ≡ true) → in_choice now c ≡ false
        pick (inl e) = ap (in_choice now) e ∙ not_out
        pick (inr u) = at.outs.apart c hc u

    module _ (left : ℕ) (some : 0 < left) (e : k ≡ length (list_of col.fact s) + left) (w : Choice) (one : w ≡ with_repair s i) where
      longer : length (list_of col.fact w) + (left - 1) ≡ k
      longer = omega (arith, e, ap (λ x. length (list_of col.fact x)) one, with_length col.fact s i h (lacks.fresh i h here))

      -- A list found with it is one of the candidate's.
      pub found_with : (found : Choice) → SomeOf col.fact (Among col rs w now want (length (list_of col.fact w) + (left - 1))) (Some found)
          → SomeOf col.fact (Among col rs s out want k) (Some found)
      found_with found a =
          let l = list_of col.fact found in
          among_more col rs s out want now k at.outs l (record {
            sought = a.sought;
            contains = contains_without (is_in l) col.fact s i h (subst (Contains (is_in l) col.fact) one a.contains);
            short = omega (arith, a.short, longer);
          })

      -- No list has it: it is out from now on.
      pub out_next : SomeOf col.fact (Among col rs w now want (length (list_of col.fact w) + (left - 1))) None
          → OutAt col rs s out want q k (i + 1) (with_repair now i)
      out_next none = record {
        outs = record {
          before = λ c hc t. with_keeps now i c h hc (at.outs.before c hc t);
          apart = λ c hc t.
              with_other now i c h hc (λ d. true≢false (sym t ∙ ap (in_choice s) d ∙ lacks.fresh i h here)) ∙ at.outs.apart c hc t;
          misses = λ l a c hc t. missed l a c hc (with_cases now i c h hc t);
        };
        tried = λ c hc low t. done c hc t low (compared c i);
        only = λ c hc t. known c hc (with_cases now i c h hc t);
      }
        where
          absent : (l : List ℕ) → Among col rs s out want k l → is_in l (code_number col.fact i) ≡ false
          absent l a =
              is_false (is_in l (code_number col.fact i)) (λ t.
              let b = among_fewer col rs s out want now k at.outs l a in
              none l (record {
                sought = b.sought;
                contains = subst (Contains (is_in l) col.fact) (sym one) (contains_with (is_in l) col.fact s i h b.contains t);
                short = omega (arith, b.short, longer);
              }))

          missed : (l : List ℕ) → Among col rs s out want k l → (c : ℕ) → c < per_fact → (c ≡ i) ⊎ (in_choice now c ≡ true)
              → is_in l (code_number col.fact c) ≡ false
          missed l a c hc (inl d) = ap (λ j. is_in l (code_number col.fact j)) d ∙ absent l a
          missed l a c hc (inr t) = at.outs.misses l a c hc t

          done : (c : ℕ) → c < per_fact → in_choice q c ≡ true → c < i + 1 → (c < i) ⊎ ((c ≡ i) ⊎ (i < c)) → in_choice (with_repair now i) c ≡ true
          done c hc t far (inl low) = with_keeps now i c h hc (at.tried c hc low t)
          done c hc t far (inr (inl d)) = subst (λ j. in_choice (with_repair now i) j ≡ true) (sym d) (with_has now i h)
          done c hc t far (inr (inr high)) = absurd (omega arith)

          later : (c : ℕ) → (in_choice out c ≡ true) ⊎ (c < i) → (in_choice out c ≡ true) ⊎ (c < i + 1)
          later c (inl o) = inl o
          later c (inr low) = inr (omega arith)

          known : (c : ℕ) → c < per_fact → (c ≡ i) ⊎ (in_choice now c ≡ true) → (in_choice out c ≡ true) ⊎ (c < i + 1)
          known c hc (inl d) = inr (omega arith)
          known c hc (inr t) = later c (at.only c hc t)

  -- Every repair of what is lacking tried: a list would have one of them.
  pub out_all : Lacks col rs s out want q → (now : Choice) (i : ℕ) → per_fact ≤ i → OutAt col rs s out want q k i now
      → (l : List ℕ) → Among col rs s out want k l → ⊥
  out_all lacks now i past at l a =
      let m = lacks.meets l a.sought in
      true≢false (sym m.3 ∙ at.outs.misses l a m.0 m.1 (at.tried m.0 m.1 (omega (arith, m.1)) m.2))
