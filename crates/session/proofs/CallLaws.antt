-- Laws of the session's calls: which refusal is given, what each way out of a call promises, and that the promise determines the
-- answer and what was lent. Assumes nothing.
use mathlib.Core.Bool.{Bool, true, false, not, ◌&&◌, false≢true}
use mathlib.Core.List.{List, [], ◌∷◌}
use mathlib.Core.Path.{◌≡◌, refl, sym, ap, ◌∙◌, subst}
use Prim.Native.Nat.{ℕ, ◌<◌}
use native.Mathlib.Omega.{arith}
use lib.Dec.{eqb, ltb}
use lib.ListN.{length}
use borrow.Author.Tests.{eq-eqb, ne_eqb, eqb-true, ltb-true, not-true, not-false}
use Rattle.change.proofs.EditLaws.{edited_exactly, edited_only}
use Rattle.change.specs.Editing.{edited, cell_fact, cell_inside, leaves_lock, accepts, EditedTo}
use Rattle.change.specs.declared.Cell.{Cell}
use Rattle.change.specs.declared.Cell.TheVariants.{Need, Add, Delete, Start, Goal, Lock}
use Rattle.change.specs.declared.Edit.{Edit}
use Rattle.rows.proofs.TableLaws.{filled_stored, stored_unique, rewritten_unique}
use Rattle.solve.specs.Solving.{told}
use Rattle.table.specs.Outcomes.{refused}
use Rattle.rows.specs.Tables.{verdict_at, Stored, Filled, Rewritten}
use Rattle.table.proofs.FlagLaws.{both, and_both, and_left, and_right}
use Rattle.table.proofs.Formation.{well_formed}
use Rattle.table.proofs.RefusalLaws.{silent}
use Rattle.table.proofs.ReplyLaws.{one_answer}
use Rattle.table.specs.Refusals.{Refusal, first_of, refuse, none, accepted, not_well_formed, not_a_session, not_there, lock_without_need}
use Rattle.table.specs.Join.{join_verdicts}
use Rattle.table.specs.Sizes.{session_places}
use Rattle.table.specs.Tasks.{WellFormed, formed}
use Rattle.table.specs.declared.Reply.{Reply}
use Rattle.table.specs.declared.Task.{Task}
use Rattle.session.specs.Calls.{open_refusal, Opens, edit_refusal, Edits, listed, Made, made_none, made_set, made_refused}
use Rattle.session.specs.Sessions.{in_form}
use Rattle.table.specs.declared.TaskReply.{TaskReply}

-- ---- which refusal

-- A refusal at place 0.
abbrev at_zero : ℕ → Refusal
at_zero n = record { number = n; place = 0 }

module _ (t : Task) (s : List ℕ) where
  pub open_malformed : formed t ≡ false → open_refusal t s ≡ at_zero not_well_formed
  unfolding open_refusal first_of
  open_malformed h = rw h

  pub open_not_a_session : formed t ≡ true → (length s ≡ session_places → ⊥) → open_refusal t s ≡ at_zero not_a_session
  unfolding open_refusal first_of
  open_not_a_session h n = rw (h, ne_eqb (length s) session_places n)

  pub open_clear : formed t ≡ true → length s ≡ session_places → open_refusal t s ≡ none
  unfolding open_refusal first_of
  open_clear h n = rw (h, eq-eqb (length s) session_places n)

  module _ (e : Edit) where
    pub edit_malformed : formed t ≡ false → edit_refusal t s e ≡ at_zero not_well_formed
    unfolding edit_refusal first_of
    edit_malformed h = rw h

    pub edit_not_a_session : formed t ≡ true → (length s ≡ session_places → ⊥) → edit_refusal t s e ≡ at_zero not_a_session
    unfolding edit_refusal first_of
    edit_not_a_session h n = rw (h, ne_eqb (length s) session_places n)

    pub edit_outside : formed t ≡ true → length s ≡ session_places → cell_inside t e.cell ≡ false → edit_refusal t s e ≡ at_zero not_there
    unfolding edit_refusal first_of
    edit_outside h n o = rw (h, eq-eqb (length s) session_places n, o)

    -- "a lock set on a cell that isn't a need, or a need cleared under a lock" (02, request 6)
    pub edit_locked : formed t ≡ true → length s ≡ session_places → cell_inside t e.cell ≡ true → leaves_lock t e ≡ true
        → edit_refusal t s e ≡ at_zero lock_without_need
    unfolding edit_refusal first_of
    edit_locked h n o l = rw (h, eq-eqb (length s) session_places n, o, l)

    pub edit_clear : formed t ≡ true → length s ≡ session_places → accepts t e ≡ true → edit_refusal t s e ≡ none
    unfolding edit_refusal first_of
    edit_clear h n a =
        let p = both (cell_inside t e.cell) (not (leaves_lock t e)) a in
        rw (h, eq-eqb (length s) session_places n, p.0, not-true (leaves_lock t e) p.1)

    pub edit_accepted : (edit_refusal t s e).number ≡ accepted → (formed t ≡ true) × (length s ≡ session_places) × (accepts t e ≡ true)
    unfolding edit_refusal
    edit_accepted h =
        let p = silent
        (refuse (not (formed t)) not_well_formed ∷ refuse (not (eqb (length s) session_places)) not_a_session ∷
        refuse (not (cell_inside t e.cell)) not_there ∷ refuse (leaves_lock t e) lock_without_need ∷ []) (omega arith) h in (
          not-false (formed t) p.0,
          eqb-true (length s) session_places (not-false (eqb (length s) session_places) p.1.0),
          and_both (cell_inside t e.cell) (not (leaves_lock t e)) (not-false (cell_inside t e.cell) p.1.1.0) (ap not p.1.1.1.0),
        )

-- ---- what each way out of a call promises

module _ (t : Task) (s : List ℕ) where
  pub opens_refused : (n : ℕ) → 0 < n → open_refusal t s ≡ at_zero n → Opens t s (record { number = n; place = 0; length = 0 }) s
  opens_refused n h e = record {
    number = ap (λ (r : Refusal). r.number) (sym e);
    place = ap (λ (r : Refusal). r.place) (sym e);
    refused = λ k. (refl, refl);
    opened = λ k. absurd (omega arith);
  }

  pub opens_opened : formed t ≡ true → length s ≡ session_places → (after : List ℕ) → Filled t s after
      → Opens t s (record { number = accepted; place = 0; length = session_places }) after
  opens_opened h n after b = record {
    number = ap (λ (r : Refusal). r.number) (sym (open_clear t s h n));
    place = ap (λ (r : Refusal). r.place) (sym (open_clear t s h n));
    refused = λ k. absurd (k refl);
    opened = λ k. (refl, filled_stored t s after n b);
  }

  pub edits_refused : (e : Edit) (n : ℕ) → 0 < n → edit_refusal t s e ≡ at_zero n → Edits t s e (record { number = n; place = 0; task = t }) s
  edits_refused e n h r = record {
    number = ap (λ (r : Refusal). r.number) (sym r);
    place = ap (λ (r : Refusal). r.place) (sym r);
    refused = λ k. (refl, refl);
    accepted = λ k. absurd (omega arith);
  }

  pub edits_done : (e : Edit) → WellFormed t → length s ≡ session_places → accepts t e ≡ true → {u : Task} {f : ℕ} {after : List ℕ}
      → u ≡ edited t e → f ≡ cell_fact e.cell → Rewritten u f s after → Edits t s e (record { number = accepted; place = 0; task = u }) after
  edits_done e w n o {u} {f} {after} made fact row =
      let clear = edit_clear t s e (well_formed t w) n o in
      record {
        number = ap (λ (r : Refusal). r.number) (sym clear);
        place = ap (λ (r : Refusal). r.place) (sym clear);
        refused = λ k. absurd (k refl);
        accepted = λ k. (subst (EditedTo t e) (sym made) (edited_exactly t e w (and_left (cell_inside t e.cell) (not (leaves_lock t e)) o)), subst (λ (g : ℕ). Rewritten u g s after) fact row);
      }

of_fact : (t : Task) (f : ℕ) (b : Bool) → (b && ltb f t.table.facts) ≡ true → f < t.table.facts
of_fact t f b h = ltb-true f t.table.facts (and_right b (ltb f t.table.facts) h)

-- An edit inside names a fact of the task, and so of the edited one.
inside_low : (t : Task) (c : Cell) → cell_inside t c ≡ true → cell_fact c < t.table.facts
unfolding cell_inside
inside_low t (Need a f) h = of_fact t f (ltb a t.table.actions) h
inside_low t (Add a f) h = of_fact t f (ltb a t.table.actions) h
inside_low t (Delete a f) h = of_fact t f (ltb a t.table.actions) h
inside_low t (Start r f) h = of_fact t f (ltb r t.runs.many) h
inside_low t (Goal r f) h = of_fact t f (ltb r t.runs.many) h
inside_low t (Lock a f) h = of_fact t f (ltb a t.table.actions) h

pub edited_low : (t : Task) (e : Edit) → WellFormed t → cell_inside t e.cell ≡ true → {u : Task} {f : ℕ} → u ≡ edited t e → f ≡ cell_fact e.cell
    → f < u.table.facts
edited_low t e w o {u} {f} made fact =
    omega (arith, fact, inside_low t e.cell o, (edited_exactly t e w o).facts, ap (λ (x : Task). x.table.facts) made)

module _ (t : Task) (s room : List ℕ) where
  pub listed_malformed : formed t ≡ false → listed t s room ≡ refused not_well_formed room
  unfolding listed
  listed_malformed h = rw h

  pub listed_not_a_session : WellFormed t → in_form t s ≡ false → listed t s room ≡ refused not_a_session room
  unfolding listed
  listed_not_a_session w h = rw (well_formed t w, h)

  pub listed_told : WellFormed t → in_form t s ≡ true
      → listed t s room ≡ told (join_verdicts (verdict_at s) t.table.facts t.table.limit) room
  unfolding listed
  listed_told w h = rw (well_formed t w, h)

-- ---- one result

-- Two results of opening that meet its promise on equal inputs are equal: number, place, length, and all numbers lent.
pub opens_unique : (t : Task) (s : List ℕ) (r q : Reply) (after other : List ℕ) → Opens t s r after → Opens t s q other → (r ≡ q) × (after ≡ other)
opens_unique t s r q after other a b =
    let number : r.number ≡ q.number = a.number ∙ sym b.number in
    let place : r.place ≡ q.place = a.place ∙ sym b.place in
    let rest : ◌≡◌ {A = ℕ × List ℕ} (r.length, after) (q.length, other) =
    one_answer {X = ℕ × List ℕ} (λ x. (x.0 ≡ 0) × (x.1 ≡ s)) (λ x. (x.0 ≡ session_places) × Stored t x.1) r.number q.number
    (r.length, after) (q.length, other) number (λ p o i. ((p.0 ∙ sym o.0) i, (p.1 ∙ sym o.1) i))
    (λ p o i. ((p.0 ∙ sym o.0) i, stored_unique t after other p.1 o.1 i)) a.refused b.refused a.opened b.opened in
    ((λ i. record { number = number i; place = place i; length = (rest i).0 }), (λ i. (rest i).1))

-- The same of an edit: number, place, task, and all numbers lent.
pub edits_unique : (t : Task) (s : List ℕ) (e : Edit) (r q : TaskReply) (after other : List ℕ) → Edits t s e r after → Edits t s e q other
    → (r ≡ q) × (after ≡ other)
edits_unique t s e r q after other a b =
    let f = cell_fact e.cell in
    let number : r.number ≡ q.number = a.number ∙ sym b.number in
    let place : r.place ≡ q.place = a.place ∙ sym b.place in
    let rest : ◌≡◌ {A = Task × List ℕ} (r.task, after) (q.task, other) =
    one_answer {X = Task × List ℕ} (λ x. (x.0 ≡ t) × (x.1 ≡ s)) (λ x. EditedTo t e x.0 × Rewritten x.0 f s x.1) r.number q.number
    (r.task, after) (q.task, other) number (λ p o i. ((p.0 ∙ sym o.0) i, (p.1 ∙ sym o.1) i))
    (λ p o.
    let task = edited_only t e r.task q.task p.0 o.0 in
    let table = rewritten_unique r.task f s after other p.1 (subst (λ (x : Task). Rewritten x f s other) (sym task) o.1) in
    λ i. (task i, table i)) a.refused b.refused a.accepted b.accepted in
    ((λ i. record { number = number i; place = place i; task = (rest i).0 }), (λ i. (rest i).1))

-- The same of the facts that the accepted edits name, and of the task that they make.
pub made_unique : (t : Task) (es : List Edit) (fs gs : List ℕ) (u v : Task) → Made t es fs u → Made t es gs v → (fs ≡ gs) × (u ≡ v)
made_unique t [] fs gs u v made_none made_none = (refl, refl)
made_unique t (e ∷ es) fs gs u v (made_set {q = q} {fs = xs} i d rest) (made_set {q = p} {fs = ys} j b more) =
    let same = made_unique q es xs ys u v rest (subst (λ (x : Task). Made x es ys v) (edited_only t e p q b d) more) in
    (ap (λ (l : List ℕ). cell_fact e.cell ∷ l) same.0, same.1)
made_unique t (e ∷ es) fs gs u v (made_set i d rest) (made_refused j more) = absurd (false≢true (sym j ∙ i))
made_unique t (e ∷ es) fs gs u v (made_refused i rest) (made_set j b more) = absurd (false≢true (sym i ∙ j))
made_unique t (e ∷ es) fs gs u v (made_refused i rest) (made_refused j more) = made_unique t es fs gs u v rest more
