-- Laws of a replayed list of edits: what a story of the edits left is of all. Assumes nothing.
use mathlib.Core.List.{List, [], ◌∷◌}
use mathlib.Core.Path.{◌≡◌, refl, sym, ap, ◌∙◌, subst}
use Prim.Native.Nat.{ℕ, ◌-◌, ◌<◌, ◌≤◌}
use native.Mathlib.Omega.{arith}
use lib.ListN.{length, take, drop}
use lib.Seq.{take_all}
use Rattle.change.specs.declared.Edit.{Edit}
use Rattle.session.specs.Calls.{Edits, Story, told_all, then}
use Rattle.table.specs.declared.TaskReply.{TaskReply}
use Rattle.table.specs.declared.Task.{Task}
use Rattle.promises.specs.Replays.{edit_places, edit_at, edits_in}

-- The first edit, and those after it.
edits_first : (l : List ℕ) → edit_places ≤ length l
    → edits_in l ≡ edit_at l 0 ∷ edits_in (take (length l - edit_places) (drop edit_places l))
unfolding edits_in
edits_first [] h = absurd (omega arith)
edits_first (k ∷ []) h = absurd (omega arith)
edits_first (k ∷ a ∷ []) h = absurd (omega arith)
edits_first (k ∷ a ∷ f ∷ []) h = absurd (omega arith)
edits_first (k ∷ a ∷ f ∷ p ∷ l) h =
    ap (λ (x : List ℕ). edit_at (k ∷ a ∷ f ∷ p ∷ l) 0 ∷ edits_in x) (sym (take_all (length (k ∷ a ∷ f ∷ p ∷ l) - edit_places) l (omega arith)))

edits_none : (l : List ℕ) → length l < edit_places → edits_in l ≡ []
unfolding edits_in
edits_none [] h = refl
edits_none (k ∷ []) h = refl
edits_none (k ∷ a ∷ []) h = refl
edits_none (k ∷ a ∷ f ∷ []) h = refl
edits_none (k ∷ a ∷ f ∷ p ∷ l) h = absurd (omega arith)

module _ {t : Task} {s : List ℕ} (l : List ℕ) where
  pub story_more : {e : Edit} {r : TaskReply} {made u : Task} {after end : List ℕ} → edit_places ≤ length l → e ≡ edit_at l 0 → Edits t s e r after
      → made ≡ r.task → Story made after (edits_in (take (length l - edit_places) (drop edit_places l))) u end → Story t s (edits_in l) u end
  story_more {e = e} {u = u} {after = after} {end = end} h at done left x =
      let rest = edits_in (take (length l - edit_places) (drop edit_places l)) in
      subst (λ (es : List Edit). Story t s es u end) (ap (λ (d : Edit). d ∷ rest) at ∙ sym (edits_first l h))
      (then done (subst (λ (q : Task). Story q after rest u end) left x))

  pub story_none : length l < edit_places → Story t s (edits_in l) t s
  story_none h = subst (λ (es : List Edit). Story t s es t s) (sym (edits_none l h)) told_all
