-- Laws of applying a list: numbers made one after another are made at once; the answer is the only one; a well-formed task stays well
-- formed, no locked need is gone, and a list that works makes every run valid; a permitted list is accepted. Assumes nothing.
use mathlib.Core.Bool.{Bool, true, false, ◌&&◌, ◌||◌, cond, or-false, and-false, and-or_distrib_left}
use mathlib.Core.List.{List, [], ◌∷◌}
use mathlib.Core.Path.{◌≡◌, refl, sym, ap, ◌∙◌, subst, subst₂}
use Prim.Native.Nat.{ℕ, zero, suc, ◌<◌, ◌≤◌}
use native.Mathlib.Nat.{le_refl}
use native.Mathlib.Omega.{arith}
use lib.Dec.{eqb, ltb}
use lib.ListN.{length, get_or, take}
use lib.Seq.{take-suc, take-length}
use borrow.Author.Tests.{ltb-true, lt-ltb, le-ltb, eqb-true, eq-eqb}
use Rattle.facts.specs.Sets.{width, has}
use Rattle.table.proofs.Formation.{formed_well, well_formed}
use Rattle.table.proofs.FlagLaws.{same_flag, is_false, both, and_both}
use Rattle.table.proofs.LockLaws.{locked_stands}
use Rattle.table.proofs.OrderLaws.{is_in_append}
use Rattle.table.proofs.ReplyLaws.{one_answer}
use Rattle.table.proofs.RepairNumbers.{kind_cases, kind_of_lt, action_of_lt, permitted_inside, permitted_number, permits_inside}
use Rattle.table.proofs.SettingLaws.{added, dropped}
use Rattle.table.specs.Answer.{Permitted}
use Rattle.table.specs.Order.{is_in}
use Rattle.table.specs.Refusals.{Refusal, none, accepted, not_well_formed, list_not_permitted, first_of}
use Rattle.table.specs.Repairs.{drop_delete, add_effect, drop_need, number_of, fact_of, kind_of, action_of, permitted, chosen, repaired}
use Rattle.table.specs.Sizes.{max_actions, kinds}
use Rattle.table.specs.Strips.{Cells, AllValid}
use Rattle.table.specs.Tasks.{cells_of, start_of, goal_of, course_of, courses_of, mask_of, WorksFor, formed, Shaped, WellFormed}
use Rattle.table.specs.declared.Runs.{Runs}
use Rattle.table.specs.declared.Table.{Table}
use Rattle.table.specs.declared.Task.{Task}
use Rattle.apply.specs.Applying.{first_wrong, apply_refusal, AppliedTo, Applies}
use Rattle.table.specs.declared.TaskReply.{TaskReply}
use Rattle.change.specs.Kinds.{number_set, one_by_one}
use Rattle.change.proofs.KindLaws.{Long, shaped_long, long_shaped, long_kind_set, cell_kind_set, sizes_kind_set, locks_kind_set}
use Rattle.change.proofs.SameLaws.{outside_well, same_table}
use Rattle.change.proofs.MemberLaws.{get_or_is_in}
use Rattle.apply.proofs.PermittedLaws.{first_wrong_le, permitted_list, list_permitted}

-- ---- numbers made one after another are made at once

cell_named : (g k a n : ℕ) → (eqb k (kind_of n) && eqb a (action_of n) && eqb g (fact_of n)) ≡ true
    → (k ≡ kind_of n) × (a ≡ action_of n) × (g ≡ fact_of n)
cell_named g k a n h =
    let p = both (eqb k (kind_of n) && eqb a (action_of n)) (eqb g (fact_of n)) h in
    let q = both (eqb k (kind_of n)) (eqb a (action_of n)) p.0 in
    (eqb-true k (kind_of n) q.0, eqb-true a (action_of n) q.1, eqb-true g (fact_of n) p.1)

-- the cell (k, a, g) is the one that the number n names
number_same : (g k a n : ℕ) → k < kinds
    → (ltb a max_actions && eqb (number_of g k a) n) ≡ (eqb k (kind_of n) && eqb a (action_of n) && eqb g (fact_of n))
number_same g k a n hk =
    same_flag (ltb a max_actions && eqb (number_of g k a) n) (eqb k (kind_of n) && eqb a (action_of n) && eqb g (fact_of n))
    (λ h.
    let p = both (ltb a max_actions) (eqb (number_of g k a) n) h in
    let ha = ltb-true a max_actions p.0 in
    let e = eqb-true (number_of g k a) n p.1 in
    and_both _ _ (and_both _ _ (eq-eqb k (kind_of n) (omega arith)) (eq-eqb a (action_of n) (omega arith))) (eq-eqb g (fact_of n) (omega arith)))
    (λ h.
    let e = cell_named g k a n h in
    and_both _ _ (lt-ltb a max_actions (omega (arith, action_of_lt n))) (eq-eqb (number_of g k a) n (omega (arith, e.0, e.1, e.2))))

chosen_more : (l : List ℕ) (i g k a : ℕ) → i < length l → k < kinds
    → chosen (is_in (take (suc i) l)) g k a
    ≡ (chosen (is_in (take i l)) g k a || eqb k (kind_of (get_or l i 0)) && eqb a (action_of (get_or l i 0)) && eqb g (fact_of (get_or l i 0)))
unfolding chosen is_in
chosen_more l i g k a h hk =
    let n = get_or l i 0 in
    let m = number_of g k a in
    ap (λ (s : List ℕ). ltb a max_actions && is_in s m) (take-suc l i 0 h) ∙
    ap (λ (b : Bool). ltb a max_actions && b) (is_in_append (take i l) (n ∷ []) m) ∙
    and-or_distrib_left (ltb a max_actions) (is_in (take i l) m) (eqb m n || false) ∙
    ap (λ (b : Bool). ltb a max_actions && is_in (take i l) m || b) (ap (λ (b : Bool). ltb a max_actions && b) (or-false (eqb m n)) ∙ number_same g k a n hk)

-- one number more: its cell has the value of its kind, whatever was made before
make_more : (same before value now old : Bool) → (same ≡ true → value ≡ now) → cond same value (cond before now old) ≡ cond (before || same) now old
make_more true true value now old e = e refl
make_more true false value now old e = e refl
make_more false true value now old e = refl
make_more false false value now old e = refl

module _ (t : Table) (long : Long t) (l : List ℕ) where
  long_one_by_one : (i : ℕ) → Long (one_by_one t l i)
  unfolding one_by_one number_set
  long_one_by_one zero = long
  long_one_by_one (suc i) =
      let n = get_or l i 0 in
      long_kind_set (one_by_one t l i) (action_of n) (fact_of n) (eqb (kind_of n) add_effect) (long_one_by_one i) (kind_of n) (kind_of_lt n)

  sizes_one_by_one : (i : ℕ) → ((one_by_one t l i).facts ≡ t.facts) × ((one_by_one t l i).actions ≡ t.actions) × ((one_by_one t l i).limit ≡ t.limit)
  unfolding one_by_one number_set
  sizes_one_by_one zero = (refl, refl, refl)
  sizes_one_by_one (suc i) =
      let n = get_or l i 0 in
      let more = sizes_kind_set (one_by_one t l i) (action_of n) (fact_of n) (eqb (kind_of n) add_effect) (kind_of n) (kind_of_lt n) in
      let before = sizes_one_by_one i in
      (more.0 ∙ before.0, more.1 ∙ before.1, more.2 ∙ before.2)

  locks_one_by_one : (i : ℕ) → (one_by_one t l i).locks ≡ t.locks
  unfolding one_by_one number_set
  locks_one_by_one zero = refl
  locks_one_by_one (suc i) =
      let n = get_or l i 0 in
      locks_kind_set (one_by_one t l i) (action_of n) (fact_of n) (eqb (kind_of n) add_effect) (kind_of n) (kind_of_lt n) ∙ locks_one_by_one i

  cell_one_by_one : ((j : ℕ) → j < length l → fact_of (get_or l j 0) < width) → (i : ℕ) → i ≤ length l → (k a g : ℕ) → k < kinds
      → has (mask_of (one_by_one t l i) k a) g ≡ cond (chosen (is_in (take i l)) g k a) (eqb k add_effect) (has (mask_of t k a) g)
  unfolding one_by_one number_set chosen is_in
  cell_one_by_one fits zero h k a g hk = ap (λ (b : Bool). cond b (eqb k add_effect) (has (mask_of t k a) g)) (sym (and-false (ltb a max_actions)))
  cell_one_by_one fits (suc i) h k a g hk =
      let n = get_or l i 0 in
      let same = eqb k (kind_of n) && eqb a (action_of n) && eqb g (fact_of n) in
      let before = chosen (is_in (take i l)) g k a in
      cell_kind_set (one_by_one t l i) (action_of n) (fact_of n) (eqb (kind_of n) add_effect) (long_one_by_one i) (action_of_lt n) (fits i h) (kind_of n) (kind_of_lt n) k a g hk ∙
      ap (λ (b : Bool). cond same (eqb (kind_of n) add_effect) b) (cell_one_by_one fits i (omega arith) k a g hk) ∙
      make_more same before (eqb (kind_of n) add_effect) (eqb k add_effect) (has (mask_of t k a) g) (λ e. ap (λ (j : ℕ). eqb j add_effect) (sym (cell_named g k a n e).0)) ∙
      ap (λ (b : Bool). cond b (eqb k add_effect) (has (mask_of t k a) g)) (sym (chosen_more l i g k a h hk))

-- ---- the definition, once over the kind

-- each cell of the table with a list applied: chosen, it has the value of its kind, and else its old one
pub applied_cell : (t : Task) (l : List ℕ) (u : Task) → AppliedTo t l u → (a g k : ℕ) → k < kinds
    → has (mask_of u.table k a) g ≡ cond (chosen (is_in l) g k a) (eqb k add_effect) (has (mask_of t.table k a) g)
unfolding cells_of
applied_cell t l u d a g =
    kind_cases (λ k. has (mask_of u.table k a) g ≡ cond (chosen (is_in l) g k a) (eqb k add_effect) (has (mask_of t.table k a) g))
    (d.deletes a g ∙ dropped (has (mask_of t.table drop_delete a) g) (chosen (is_in l) g drop_delete a))
    (d.adds a g ∙ added (has (mask_of t.table add_effect a) g) (chosen (is_in l) g add_effect a))
    (d.needs a g ∙ dropped (has (mask_of t.table drop_need a) g) (chosen (is_in l) g drop_need a))

-- "Applying a list changes all its cells at once", and so does making its numbers one after another
pub made_applied : (t : Task) (l : List ℕ) → Shaped t → ((j : ℕ) → j < length l → fact_of (get_or l j 0) < width)
    → AppliedTo t l (record { table = one_by_one t.table l (length l); runs = t.runs })
unfolding cells_of
made_applied t l s fits =
    let long = shaped_long t s in
    let sizes = sizes_one_by_one t.table long l (length l) in
    let locks = locks_one_by_one t.table long l (length l) in
    let cell : (k a g : ℕ) → k < kinds
    → has (mask_of (one_by_one t.table l (length l)) k a) g ≡ cond (chosen (is_in l) g k a) (eqb k add_effect) (has (mask_of t.table k a) g) =
    λ k a g hk.
    cell_one_by_one t.table long l fits (length l) (le_refl (length l)) k a g hk ∙
    ap (λ (w : List ℕ). cond (chosen (is_in w) g k a) (eqb k add_effect) (has (mask_of t.table k a) g)) (take-length l) in
    record {
      shaped = long_shaped (one_by_one t.table l (length l)) t (long_one_by_one t.table long l (length l)) locks s;
      runs = refl;
      facts = sizes.0;
      actions = sizes.1;
      limit = sizes.2;
      needs = λ a f. cell drop_need a f (omega arith) ∙ sym (dropped (has (mask_of t.table drop_need a) f) (chosen (is_in l) f drop_need a));
      adds = λ a f. cell add_effect a f (omega arith) ∙ sym (added (has (mask_of t.table add_effect a) f) (chosen (is_in l) f add_effect a));
      deletes = λ a f. cell drop_delete a f (omega arith) ∙ sym (dropped (has (mask_of t.table drop_delete a) f) (chosen (is_in l) f drop_delete a));
      locks = λ a f. ap (λ (m : List ℕ). has (get_or m a 0) f) locks;
    }

-- ---- the task with a list applied is the only one, and stays well formed

pub applied_unique : (t : Task) (l : List ℕ) (u v : Task) → AppliedTo t l u → AppliedTo t l v → u ≡ v
applied_unique t l u v d e =
    let table =
    same_table u v d.shaped e.shaped (λ k a f hk. applied_cell t l u d a f k hk ∙ sym (applied_cell t l v e a f k hk))
    (λ a f. d.locks a f ∙ sym (e.locks a f))
    (d.facts ∙ sym e.facts) (d.actions ∙ sym e.actions) (d.limit ∙ sym e.limit) in
    let runs = d.runs ∙ sym e.runs in
    λ i. record { table = table i; runs = runs i }

-- a list that is permitted chooses no cell outside the task
chosen_outside : (c : Cells) (l : List ℕ) → Permitted c l → (g k a : ℕ) → k < kinds → (g < c.facts → a < c.actions → ⊥) → chosen (is_in l) g k a ≡ false
unfolding chosen
chosen_outside c l p g k a hk out =
    is_false (ltb a max_actions && is_in l (number_of g k a)) (λ e.
    let q = both (ltb a max_actions) (is_in l (number_of g k a)) e in
    let inside =
    permits_inside c g k a (sym (permitted_number c g k a hk (ltb-true a max_actions q.0)) ∙ p.each (number_of g k a) q.1) in
    out inside.0 inside.1)

-- "no list may drop them": a locked need stands in the task with a permitted list applied (02, request 6)
pub applied_locked : (t : Task) (l : List ℕ) (u : Task) → AppliedTo t l u → Permitted (cells_of t.table) l → (a f : ℕ)
    → (cells_of t.table).locks a f ≡ true → (cells_of t.table).needs a f ≡ true → (cells_of u.table).needs a f ≡ true
applied_locked t l u d p a f lock need = d.needs a f ∙ locked_stands (cells_of t.table) l p.each a f lock need

pub applied_well : (t : Task) (l : List ℕ) (u : Task) → WellFormed t → Permitted (cells_of t.table) l → AppliedTo t l u → WellFormed u
unfolding cells_of
applied_well t l u w p d =
    outside_well t u w
    (record {
      shaped = d.shaped;
      sizes = record {
        facts = d.facts;
        actions = d.actions;
        limit = d.limit;
        many = ap (λ (r : Runs). r.many) d.runs;
        counts = ap (λ (r : Runs). r.counts) d.runs;
        steps = ap (λ (r : Runs). r.steps) d.runs;
      };
      cell = λ k a g hk out.
          applied_cell t l u d a g k hk ∙
          ap (λ (b : Bool). cond b (eqb k add_effect) (has (mask_of t.table k a) g)) (chosen_outside (cells_of t.table) l p g k a hk out);
      start = λ i g _. ap (λ (r : Runs). has (start_of r i) g) d.runs;
      goal = λ i g _. ap (λ (r : Runs). has (goal_of r i) g) d.runs;
    })
    (λ a f lock. applied_locked t l u d p a f (sym (d.locks a f) ∙ lock) (w.locks_needs a f (sym (d.locks a f) ∙ lock)))

-- ---- its sets are the repaired table's, and its runs those of before

pub applied_cells : (t : Task) (l : List ℕ) (u : Task) → AppliedTo t l u → cells_of u.table ≡ repaired (cells_of t.table) (is_in l)
unfolding cells_of
applied_cells t l u d = λ i. record {
  facts = d.facts i;
  actions = d.actions i;
  needs = λ a f. d.needs a f i;
  adds = λ a f. d.adds a f i;
  deletes = λ a f. d.deletes a f i;
  locks = λ a f. d.locks a f i;
}

-- and a task of which that holds is the one with the list applied
pub cells_applied : (t : Task) (l : List ℕ) (u : Task) → Shaped u → u.runs ≡ t.runs → u.table.limit ≡ t.table.limit
    → cells_of u.table ≡ repaired (cells_of t.table) (is_in l) → AppliedTo t l u
unfolding cells_of
cells_applied t l u s runs limit same = record {
  shaped = s;
  runs = runs;
  facts = ap (λ (c : Cells). c.facts) same;
  actions = ap (λ (c : Cells). c.actions) same;
  limit = limit;
  needs = λ a f. ap (λ (c : Cells). c.needs a f) same;
  adds = λ a f. ap (λ (c : Cells). c.adds a f) same;
  deletes = λ a f. ap (λ (c : Cells). c.deletes a f) same;
  locks = λ a f. ap (λ (c : Cells). c.locks a f) same;
}

pub applied_courses : (t : Task) (l : List ℕ) (u : Task) → AppliedTo t l u → courses_of u ≡ courses_of t
applied_courses t l u d = ap (λ (r : Runs). record { many = r.many; course = course_of r }) d.runs

-- a list that works, applied, gives a task whose runs are valid as it stands
pub applied_valid : (t : Task) (l : List ℕ) (u : Task) → AppliedTo t l u → WorksFor t l → AllValid (cells_of u.table) (courses_of u)
applied_valid t l u d w = subst₂ AllValid (sym (applied_cells t l u d)) (sym (applied_courses t l u d)) w.valid

-- ---- the three ways out of `apply`

not_refused : (t : Task) (l : List ℕ) → formed t ≡ true → length l ≤ first_wrong (cells_of t.table) l → apply_refusal t l ≡ none
unfolding apply_refusal first_of
not_refused t l e h = rw (e, le-ltb (first_wrong (cells_of t.table) l) (length l) h)

-- a refusal with the task as it was
refuses : (t : Task) (l : List ℕ) (n p : ℕ) → (n ≡ accepted → ⊥) → apply_refusal t l ≡ record { number = n; place = p }
    → Applies t l (record { number = n; place = p; task = t })
refuses t l n p some e = record {
  number = ap (λ (r : Refusal). r.number) (sym e);
  place = ap (λ (r : Refusal). r.place) (sym e);
  refused = λ _. refl;
  applied = λ z. absurd (some z);
}

pub applies_unformed : (t : Task) (l : List ℕ) → formed t ≡ false → Applies t l (record { number = not_well_formed; place = 0; task = t })
unfolding apply_refusal first_of
applies_unformed t l e = refuses t l not_well_formed 0 (λ z. omega arith) (rw e)

pub applies_wrong : (t : Task) (l : List ℕ) (wrong : ℕ) → wrong ≡ first_wrong (cells_of t.table) l → formed t ≡ true → wrong < length l
    → Applies t l (record { number = list_not_permitted; place = wrong; task = t })
unfolding apply_refusal first_of
applies_wrong t l wrong first e h = refuses t l list_not_permitted wrong (λ z. omega arith) (rw (e, ← first, lt-ltb wrong (length l) h))

pub applies_made : (t : Task) (l : List ℕ) (u : Table) → u ≡ one_by_one t.table l (length l) → Shaped t → formed t ≡ true
    → length l ≤ first_wrong (cells_of t.table) l → Applies t l (record { number = accepted; place = 0; task = record { table = u; runs = t.runs } })
unfolding cells_of
applies_made t l u made s e h = record {
  number = ap (λ (r : Refusal). r.number) (sym (not_refused t l e h));
  place = ap (λ (r : Refusal). r.place) (sym (not_refused t l e h));
  refused = λ z. absurd (z refl);
  applied = λ _.
      subst (λ (v : Table). AppliedTo t l (record { table = v; runs = t.runs })) (sym made)
      (made_applied t l s (λ j m. omega (arith, (permitted_inside (cells_of t.table) (get_or l j 0) (allowed j m)).0, w.facts_high)));
}
  where
    w : WellFormed t
    w = formed_well t s e

    p : Permitted (cells_of t.table) l
    p = permitted_list (cells_of t.table) l (omega (arith, first_wrong_le (cells_of t.table) l))

    allowed : (j : ℕ) → j < length l → permitted (cells_of t.table) (get_or l j 0) ≡ true
    allowed j m = p.each (get_or l j 0) (get_or_is_in l j m)

-- ---- a permitted list is accepted, and the one task with it applied is given

permitted_clear : (t : Task) → WellFormed t → (l : List ℕ) → Permitted (cells_of t.table) l → apply_refusal t l ≡ none
permitted_clear t w l p = not_refused t l (well_formed t w) (omega (arith, list_permitted (cells_of t.table) l p))

pub permitted_accepted : (t : Task) → WellFormed t → (l : List ℕ) → Permitted (cells_of t.table) l → (r : TaskReply) → Applies t l r → r.number ≡ accepted
permitted_accepted t w l p r a = a.number ∙ ap (λ (x : Refusal). x.number) (permitted_clear t w l p)

pub permitted_reply : (t : Task) → WellFormed t → (l : List ℕ) → Permitted (cells_of t.table) l → (r : TaskReply) → Applies t l r → (u : Task)
    → AppliedTo t l u → r ≡ record { number = accepted; place = 0; task = u }
permitted_reply t w l p r a u d =
    let number = permitted_accepted t w l p r a in
    let place : r.place ≡ 0 = a.place ∙ ap (λ (x : Refusal). x.place) (permitted_clear t w l p) in
    let task = applied_unique t l r.task u (a.applied number) d in
    λ i. record { number = number i; place = place i; task = task i }

-- ---- the contract determines the answer

pub applies_unique : (t : Task) (l : List ℕ) (r s : TaskReply) → Applies t l r → Applies t l s → r ≡ s
applies_unique t l r s p q =
    let number : r.number ≡ s.number = p.number ∙ sym q.number in
    let place : r.place ≡ s.place = p.place ∙ sym q.place in
    let task =
    one_answer (λ (u : Task). u ≡ t) (AppliedTo t l) r.number s.number r.task s.task number (λ a b. a ∙ sym b)
    (applied_unique t l r.task s.task) p.refused q.refused p.applied q.applied in
    λ i. record { number = number i; place = place i; task = task i }
