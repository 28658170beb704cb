-- What demand 2 needs of the solve's contract: what each of its numbers says of the permitted lists, and what is left of an answer of which a part
-- is made (02, request 7). Assumes nothing.
use mathlib.Core.List.{List}
use mathlib.Core.Logic.{inl, inr, ◌↔◌}
use mathlib.Core.Path.{◌≡◌, sym, ap, ◌∙◌, subst}
use Prim.Native.Nat.{ℕ, ◌<◌, ◌≤◌}
use native.Mathlib.Omega.{arith}
use lib.ListN.{length, take, drop}
use lib.Seq.{take-append_seam}
use Rattle.apply.proofs.ApplyLaws.{permitted_accepted, applied_well, applied_valid}
use Rattle.apply.proofs.MergeLaws.{merged_length}
use Rattle.apply.proofs.SittingLaws.{parts_permitted, answer_then, second_apart}
use Rattle.apply.specs.Applying.{Applies}
use Rattle.apply.specs.Sittings.{SplitInto}
use Rattle.table.specs.declared.TaskReply.{TaskReply}
use Rattle.runcheck.proofs.Valid.{valid_checked_zero}
use Rattle.runcheck.specs.OpenNeeds.{checked}
use Rattle.solve.specs.Solving.{told, Solves}
use Rattle.table.proofs.OutcomeLaws.{given_cases, given_short}
use Rattle.table.specs.Outcomes.{Outcome, answered, given}
use Rattle.table.proofs.AnswerLaws.{within_unique}
use Rattle.table.proofs.Formation.{well_formed}
use Rattle.table.proofs.OrderLaws.{≼_length}
use Rattle.table.specs.Answer.{Permitted, First, Verdict, found, over, hopeless, Within}
use Rattle.table.specs.Order.{NotAfter, ◌≼◌}
use Rattle.table.specs.Refusals.{accepted, no_list_works, over_the_limit, room_too_short}
use Rattle.table.specs.Strips.{AllValid}
use Rattle.table.specs.Tasks.{cells_of, courses_of, WorksFor, WellFormed}
use Rattle.table.specs.declared.Task.{Task}

-- ---- which verdict a number tells

-- The number of the outcome, and the verdict that it tells into the room: of a known number only its own case is left.
data Told (room : List ℕ) (o : Outcome) : ℕ → Verdict → Type 0 where
  fits : (l : List ℕ) → o ≡ answered l room → Told room o accepted (found l)
  short : (l : List ℕ) → length room < length l → Told room o room_too_short (found l)
  above : Told room o over_the_limit over
  none : Told room o no_list_works hopeless

abbrev number : Outcome → ℕ
number o = o.reply.number

told_as : (v : Verdict) (room : List ℕ) (o : Outcome) → o ≡ told v room → Told room o (number o) v
unfolding told
told_as v room o e = subst (λ (n : ℕ). Told room o n v) (sym (ap number e)) (pick v e)
  where
    pick : (v : Verdict) → o ≡ told v room → Told room o (number (told v room)) v
    pick (found l) e =
        given_cases l room (λ u. o ≡ u → Told room o (number u) (found l)) (λ low d. short l low) (λ enough d. fits l d) e
    pick over e = above
    pick hopeless e = none

-- ---- the first of the shortest, in demand 2's words

-- "no shorter permitted list does", and "among equals it is the first"
pub least_length : {G : List ℕ → Type 0} {l : List ℕ} → First G l → (m : List ℕ) → G m → length l ≤ length m
least_length {l = l} p m g = ≼_length l m (p.least m g)

pub least_first : {G : List ℕ → Type 0} {l : List ℕ} → First G l → (m : List ℕ) → G m → length m ≡ length l → NotAfter l m
least_first {l = l} p m g e = pick (p.least m g)
  where
    pick : l ≼ m → NotAfter l m
    pick (inl h) = absurd (omega arith)
    pick (inr h) = h

-- ---- the solve of a well-formed task

module _ (t : Task) (w : WellFormed t) (room : List ℕ) (o : Outcome) (s : Solves t room o) where
  abbrev Holding : Verdict → Type 0
  Holding = Within (WorksFor t) t.table.limit

  -- the verdict that holds where the number is n
  verdict_of : (n : ℕ) → number o ≡ n → (v : Verdict) × Holding v × Told room o n v
  verdict_of n h =
      let x = s.verdict (well_formed t w) in
      (x.0, x.1, subst (λ (m : ℕ). Told room o m x.0) h (told_as x.0 room o x.2))

  -- a verdict that holds is the one told
  pub is_told : (v : Verdict) → Holding v → o ≡ told v room
  is_told v h =
      let x = s.verdict (well_formed t w) in
      x.2 ∙ ap (λ (u : Verdict). told u room) (within_unique (WorksFor t) t.table.limit x.0 v x.1 h)

  -- 9 and 10
  pub hopeless_exactly : (number o ≡ no_list_works) ↔ Holding hopeless
  unfolding told
  hopeless_exactly = (λ h. pick (verdict_of no_list_works h), λ p. ap number (is_told hopeless p))
    where
      pick : (v : Verdict) × Holding v × Told room o no_list_works v → Holding hopeless
      pick (hopeless, p, none) = p
      pick (found _, p, x) = elim x [ ]
      pick (over, p, x) = elim x [ ]

  pub over_exactly : (number o ≡ over_the_limit) ↔ Holding over
  unfolding told
  over_exactly = (λ h. pick (verdict_of over_the_limit h), λ p. ap number (is_told over p))
    where
      pick : (v : Verdict) × Holding v × Told room o over_the_limit v → Holding over
      pick (over, p, above) = p
      pick (found _, p, x) = elim x [ ]
      pick (hopeless, p, x) = elim x [ ]

  -- The answer within the limit: 0 in room that is enough, else 11.
  pub accepted_answer : number o ≡ accepted → (l : List ℕ) × First (WorksFor t) l × (length l ≤ t.table.limit) × (o ≡ answered l room)
  accepted_answer h = pick (verdict_of accepted h)
    where
      pick : (v : Verdict) × Holding v × Told room o accepted v
          → (l : List ℕ) × First (WorksFor t) l × (length l ≤ t.table.limit) × (o ≡ answered l room)
      pick (found l, p, fits _ e) = (l, p.0, p.1, e)
      pick (over, p, x) = elim x [ ]
      pick (hopeless, p, x) = elim x [ ]

  -- what was written into the room is the answer
  pub wrote_answer : number o ≡ accepted
      → First (WorksFor t) (take o.reply.length o.room) × (length (take o.reply.length o.room) ≤ t.table.limit)
  wrote_answer h =
      let x = accepted_answer h in
      let same = ap (λ (p : Outcome). take p.reply.length p.room) x.3 ∙ take-append_seam x.0 (drop (length x.0) room) in
      (subst (First (WorksFor t)) (sym same) x.1, omega (arith, ap length same, x.2))

  pub short_exactly : (number o ≡ room_too_short) ↔ ((l : List ℕ) × First (WorksFor t) l × (length l ≤ t.table.limit) × (length room < length l))
  unfolding told
  short_exactly = (
    λ h. pick (verdict_of room_too_short h),
    λ p. ap number (is_told (found p.0) (p.1, p.2) ∙ given_short p.0 room p.3),
  )
    where
      pick : (v : Verdict) × Holding v × Told room o room_too_short v
          → (l : List ℕ) × First (WorksFor t) l × (length l ≤ t.table.limit) × (length room < length l)
      pick (found l, p, short _ low) = (l, p.0, p.1, low)
      pick (over, p, x) = elim x [ ]
      pick (hopeless, p, x) = elim x [ ]

-- ---- the list applied

-- A list that works is accepted by applying it, every run is then valid, and the run check finds nothing open in any.
pub works_cures : (t : Task) → WellFormed t → (l : List ℕ) → WorksFor t l → (r : TaskReply) → Applies t l r
    → (r.number ≡ accepted) × AllValid (cells_of r.task.table) (courses_of r.task) ×
    ((run : ℕ) → run < r.task.runs.many → (checked r.task run).total ≡ 0)
works_cures t w l works r a =
    let ok = permitted_accepted t w l works.permitted r a in
    let is = a.applied ok in
    let valid = applied_valid t l r.task is works in
    let well = applied_well t l r.task w works.permitted is in
    (ok, valid, λ run there. valid_checked_zero r.task run well there (valid run there))

-- ---- the list applied in two sittings (02, request 7)

-- Between them: a part of the answer is made, and the rest is left.
module _ (t : Task) (w : WellFormed t) (l : List ℕ) (answer : First (WorksFor t) l) (within : length l ≤ t.table.limit)
    (part rest : List ℕ) (split : SplitInto l part rest) (r : TaskReply) (morning : Applies t part r) where
  both_permitted : Permitted (cells_of t.table) part × Permitted (cells_of t.table) rest
  both_permitted = parts_permitted (cells_of t.table) l part rest split answer.member.permitted

  pub part_accepted : r.number ≡ accepted
  part_accepted = permitted_accepted t w part both_permitted.0 r morning

  pub part_well : WellFormed r.task
  part_well = applied_well t part r.task w both_permitted.0 (morning.applied part_accepted)

  -- The rest is the answer of what came out, and within its limit; a solve tells it.
  pub rest_within : Within (WorksFor r.task) r.task.table.limit (found rest)
  rest_within =
      let made = morning.applied part_accepted in (
        answer_then t part r.task made rest both_permitted.0 both_permitted.1 split.apart
            (subst (First (WorksFor t)) (sym split.whole) answer),
        omega (arith, within, merged_length part rest split.afternoon_ascending, ap length split.whole, made.limit),
      )

  pub rest_solved : (room : List ℕ) (o : Outcome) → Solves r.task room o → o ≡ given rest room
  unfolding told
  rest_solved room o s = is_told r.task part_well room o s (found rest) rest_within

  -- With the rest applied, the table is that of the whole list.
  pub rest_whole : (s m : TaskReply) → Applies r.task rest s → Applies t l m → s ≡ m
  rest_whole s m afternoon at_once =
      (second_apart t w part rest both_permitted.0 both_permitted.1 r s morning afternoon split.apart m
      (subst (λ (k : List ℕ). Applies t k m) (sym split.whole) at_once)).1
