-- Laws of lists in two sittings (02, request 7): a second list is permitted on the table that the first one made just where they share nothing, it
-- is refused at the first number shared, both are the merged list at once, and what is left of an answer is the answer of what is left. Assumes
-- nothing.
use mathlib.Core.Bool.{Bool, true, false, not, ◌&&◌, ◌||◌, not-not, true≢false, false≢true}
use mathlib.Core.List.{List, []}
use mathlib.Core.Logic.{⊎_elim}
use mathlib.Core.Path.{◌≡◌, refl, sym, ap, ◌∙◌, subst, subst₂, fun_ext}
use Prim.Native.Nat.{ℕ, ◌-◌, ◌<◌}
use native.Mathlib.Omega.{arith}
use lib.Dec.{ltb, leb}
use lib.ListN.{length, get_or}
use Rattle.table.proofs.AnswerLaws.{permitted_part}
use Rattle.table.proofs.CountingLaws.{FirstAt, first_where_at, first_where_same}
use Rattle.table.proofs.FlagLaws.{or_cases, or_left, or_right, or_neither, and_both, both, is_false, by_order}
use Rattle.table.proofs.Formation.{well_formed}
use Rattle.table.proofs.JoinLaws.{permitted_none}
use Rattle.table.proofs.RepairLaws.{permitted_repaired, repaired_nothing, repaired_again}
use Rattle.table.specs.Answer.{Permitted, Works, First}
use Rattle.table.specs.Order.{is_in}
use Rattle.table.specs.Refusals.{accepted, list_not_permitted}
use Rattle.table.specs.Repairs.{permitted, repaired}
use Rattle.table.specs.Strips.{Cells, Courses, AllValid}
use Rattle.table.specs.Tasks.{cells_of, courses_of, WorksFor, Shaped, WellFormed}
use Rattle.table.specs.declared.Task.{Task}
use Rattle.table.specs.declared.TaskReply.{TaskReply}
use Rattle.change.proofs.MemberLaws.{get_or_is_in, is_in_all}
use Rattle.apply.specs.Applying.{wrong_at, first_wrong, AppliedTo, Applies}
use Rattle.apply.specs.Sittings.{merged, Apart, first_shared, SplitInto}
use Rattle.apply.proofs.ApplyLaws.{applied_well, applied_cells, cells_applied, applied_courses, applies_wrong, permitted_accepted, permitted_reply, applies_unique}
use Rattle.apply.proofs.MergeLaws.{merged_in, merged_ascending, merged_first}
use Rattle.apply.proofs.PermittedLaws.{permitted_right}

-- ---- the first number shared

pub shared_at : (a b : List ℕ) → FirstAt (λ i. is_in a (get_or b i 0)) (length b) (first_shared a b)
unfolding first_shared
shared_at a b = first_where_at (λ i. is_in a (get_or b i 0)) (length b)

-- there is none where it would be past the end of the second list
pub apart_by : (a b : List ℕ) → first_shared a b ≡ length b → Apart a b
apart_by a b none n h k = is_in_all (λ (m : ℕ). is_in a m ≡ true → ⊥) b (λ i low e. true≢false (sym e ∙ (shared_at a b).before i (omega arith))) n k h

-- and there is one where both have some number
pub some_shared : (a b : List ℕ) (n : ℕ) → is_in a n ≡ true → is_in b n ≡ true → first_shared a b < length b
some_shared a b n h k = by_order (first_shared a b) (length b) (λ low. low) (λ none. absurd (apart_by a b (omega (arith, (shared_at a b).inside)) n h k))

-- ---- what is permitted, before and after the first list

-- the two parts of a permitted list
pub parts_permitted : (c : Cells) (l a b : List ℕ) → SplitInto l a b → Permitted c l → Permitted c a × Permitted c b
parts_permitted c l a b s p = (
  permitted_part c l a p s.morning_ascending (λ n h. in_whole n (or_left (is_in a n) (is_in b n) h)),
  permitted_part c l b p s.afternoon_ascending (λ n h. in_whole n (or_right (is_in a n) (is_in b n) h)),
)
  where
    in_whole : (n : ℕ) → (is_in a n || is_in b n) ≡ true → is_in l n ≡ true
    in_whole n h = ap (λ (m : List ℕ). is_in m n) (sym s.whole) ∙ merged_in a b n ∙ h

module _ (c : Cells) (a : List ℕ) where
  -- a list that shares nothing with the first is permitted then too
  still_permitted : (b : List ℕ) → Permitted c b → Apart a b → Permitted (repaired c (is_in a)) b
  still_permitted b p apart = record {
    ascending = p.ascending;
    each = λ n h.
        permitted_repaired c (is_in a) n ∙
        and_both (permitted c n) (not (is_in a n)) (p.each n h) (ap not (is_false (is_in a n) (λ t. apart n t h)));
  }

  -- and a list that is permitted then was so before, and shares nothing with the first
  was_permitted : (b : List ℕ) → Permitted (repaired c (is_in a)) b → Permitted c b × Apart a b
  was_permitted b p = (
    record { ascending = p.ascending; each = λ n h. (two n h).0 },
    λ n t h. false≢true (ap not (sym t) ∙ (two n h).1),
  )
    where
      two : (n : ℕ) → is_in b n ≡ true → (permitted c n ≡ true) × (not (is_in a n) ≡ true)
      two n h = both (permitted c n) (not (is_in a n)) (sym (permitted_repaired c (is_in a) n) ∙ p.each n h)

  -- the merged list of two
  pub merged_permitted : Permitted c a → (b : List ℕ) → Permitted c b → Permitted c (merged a b)
  merged_permitted p b q = record {
    ascending = merged_ascending a b q.ascending;
    each = λ n h. ⊎_elim (p.each n) (q.each n) (or_cases (is_in a n) (is_in b n) (sym (merged_in a b n) ∙ h));
  }

  -- ---- both lists, one after the other, are the merged list at once

  repaired_merged : (b : List ℕ) → repaired (repaired c (is_in a)) (is_in b) ≡ repaired c (is_in (merged a b))
  repaired_merged b = repaired_again c (is_in a) (is_in b) ∙ ap (repaired c) (sym (fun_ext (merged_in a b)))

  -- ---- 15 at the first number shared

  -- on the table that the first list made, the numbers of a permitted list that are wrong are those shared
  second_wrong : (b : List ℕ) → Permitted c b → (i : ℕ) → i < length b → wrong_at (repaired c (is_in a)) b i ≡ is_in a (get_or b i 0)
  unfolding wrong_at
  second_wrong b p i h =
      let n = get_or b i 0 in
      let up : Bool = ltb 0 i && leb n (get_or b (i - 1) 0) in
      let rising : up ≡ false = (or_neither up (not (permitted c n)) (permitted_right c b p i h)).0 in
      rw (rising, permitted_repaired c (is_in a) n, p.each n (get_or_is_in b i h)) (not-not (is_in a n))

  pub second_refused : (b : List ℕ) → Permitted c b → first_wrong (repaired c (is_in a)) b ≡ first_shared a b
  unfolding first_wrong first_shared
  second_refused b p = first_where_same (wrong_at (repaired c (is_in a)) b) (λ i. is_in a (get_or b i 0)) (length b) (second_wrong b p)

  -- ---- what is left of an answer

  module _ (rs : Courses) where
    rest_works : (b : List ℕ) → Permitted c b → Apart a b → Works c rs (merged a b) → Works (repaired c (is_in a)) rs b
    rest_works b p apart w = record {
      permitted = still_permitted b p apart;
      valid = subst (λ (d : Cells). AllValid d rs) (sym (repaired_merged b)) w.valid;
    }

    whole_works : Permitted c a → (b : List ℕ) → Works (repaired c (is_in a)) rs b → Works c rs (merged a b)
    whole_works p b w = record {
      permitted = merged_permitted p b (was_permitted b w.permitted).0;
      valid = subst (λ (d : Cells). AllValid d rs) (repaired_merged b) w.valid;
    }

    -- a list that came before the rest would, joined with the part already made, come before the answer
    rest_first : (b : List ℕ) → Permitted c a → Permitted c b → Apart a b → First (Works c rs) (merged a b) → First (Works (repaired c (is_in a)) rs) b
    rest_first b p q apart l = record {
      member = rest_works b q apart l.member;
      least = λ m w. merged_first 0 a b m p.ascending apart (was_permitted m w.permitted).1 (l.least (merged a m) (whole_works p m w));
    }

-- ---- of tasks

-- the task with the empty list applied is the task
pub applied_none : (t : Task) → Shaped t → AppliedTo t [] t
applied_none t s = cells_applied t [] t s refl refl (sym (repaired_nothing (cells_of t.table)))

module _ (t : Task) (a : List ℕ) (u : Task) (made : AppliedTo t a u) where
  pub applied_twice : (b : List ℕ) (v : Task) → AppliedTo u b v → AppliedTo t (merged a b) v
  applied_twice b v again =
      cells_applied t (merged a b) v again.shaped (again.runs ∙ made.runs) (again.limit ∙ made.limit)
      (applied_cells u b v again ∙ ap (λ (c : Cells). repaired c (is_in b)) (applied_cells t a u made) ∙ repaired_merged (cells_of t.table) a b)

  pub permitted_then : (b : List ℕ) → Permitted (cells_of t.table) b → Apart a b → Permitted (cells_of u.table) b
  permitted_then b p apart =
      subst (λ (c : Cells). Permitted c b) (sym (applied_cells t a u made)) (still_permitted (cells_of t.table) a b p apart)

  pub refused_then : (b : List ℕ) → Permitted (cells_of t.table) b → first_wrong (cells_of u.table) b ≡ first_shared a b
  refused_then b p = ap (λ (c : Cells). first_wrong c b) (applied_cells t a u made) ∙ second_refused (cells_of t.table) a b p

  pub answer_then : (b : List ℕ) → Permitted (cells_of t.table) a → Permitted (cells_of t.table) b → Apart a b
      → First (WorksFor t) (merged a b) → First (WorksFor u) b
  answer_then b p q apart l =
      subst₂ (λ (c : Cells) (rs : Courses). First (Works c rs) b) (sym (applied_cells t a u made)) (sym (applied_courses t a u made))
      (rest_first (cells_of t.table) a (courses_of t) b p q apart l)

-- ---- of the calls

module _ (t : Task) (w : WellFormed t) where
  -- "The empty list changes nothing."
  pub nothing_applied : (r : TaskReply) → Applies t [] r → r ≡ record { number = accepted; place = 0; task = t }
  nothing_applied r a = permitted_reply t w [] (permitted_none (cells_of t.table) (courses_of t)) r a t (applied_none t w.shaped)

  module _ (a b : List ℕ) (p : Permitted (cells_of t.table) a) (q : Permitted (cells_of t.table) b) (r s : TaskReply)
      (morning : Applies t a r) (afternoon : Applies r.task b s) where
    first_accepted : r.number ≡ accepted
    first_accepted = permitted_accepted t w a p r morning

    first_made : AppliedTo t a r.task
    first_made = morning.applied first_accepted

    first_well : WellFormed r.task
    first_well = applied_well t a r.task w p first_made

    -- the second call gives what the merged list at once gives
    pub second_apart : Apart a b → (m : TaskReply) → Applies t (merged a b) m → (s.number ≡ accepted) × (s ≡ m)
    second_apart apart m at_once =
        let still = permitted_then t a r.task first_made b q apart in
        let ok = permitted_accepted r.task first_well b still s afternoon in
        let again = afternoon.applied ok in
        let twice = applied_twice t a r.task first_made b s.task again in (
          ok,
          permitted_reply r.task first_well b still s afternoon s.task again ∙
              sym (permitted_reply t w (merged a b) (merged_permitted (cells_of t.table) a p b q) m at_once s.task twice),
        )

    -- or is refused at the first number shared, with the task that the first call made
    pub second_shared : first_shared a b < length b → s ≡ record { number = list_not_permitted; place = first_shared a b; task = r.task }
    second_shared some =
        applies_unique r.task b s _ afternoon
        (applies_wrong r.task b (first_shared a b) (sym (refused_then t a r.task first_made b q)) (well_formed r.task first_well) some)
