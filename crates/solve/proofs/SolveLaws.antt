-- Laws of solving: what each way out of it promises, and that the promise determines the outcome. Assumes nothing.
use mathlib.Core.Bool.{Bool, true, false, true≢false}
use mathlib.Core.List.{List}
use mathlib.Core.Path.{◌≡◌, refl, sym, ap, ◌∙◌}
use Prim.Native.Nat.{ℕ}
use Rattle.table.specs.Answer.{Verdict, Within}
use Rattle.table.specs.Join.{join_verdicts}
use Rattle.table.specs.Refusals.{not_well_formed}
use Rattle.table.specs.Tasks.{WorksFor, WellFormed, formed}
use Rattle.table.specs.declared.Task.{Task}
use Rattle.table.proofs.AnswerLaws.{within_unique}
use Rattle.table.proofs.Formation.{well_formed}
use Rattle.solve.specs.Solving.{told, Solves}
use Rattle.table.specs.Outcomes.{Outcome, refused}
use Rattle.rows.specs.Tables.{verdict_at, RightRows}
use Rattle.rows.proofs.TableLaws.{right_within}

module _ (t : Task) (room : List ℕ) where
  pub solves_malformed : (o : Outcome) → formed t ≡ false → o ≡ refused not_well_formed room → Solves t room o
  solves_malformed o h e = record { malformed = λ k. e; verdict = λ k. absurd (true≢false (sym k ∙ h)) }

  -- The verdict on a well-formed task, told, is the solve.
  pub solves_verdict : WellFormed t → (v : Verdict) → Within (WorksFor t) t.table.limit v → (o : Outcome) → o ≡ told v room → Solves t room o
  solves_verdict w v q o e = record { malformed = λ k. absurd (true≢false (sym (well_formed t w) ∙ k)); verdict = λ k. (v, q, e) }

  -- So are its rows, joined and told.
  pub solves_told : WellFormed t → (s : List ℕ) → RightRows t s → (o : Outcome)
      → o ≡ told (join_verdicts (verdict_at s) t.table.facts t.table.limit) room → Solves t room o
  solves_told w s b o e = solves_verdict w (join_verdicts (verdict_at s) t.table.facts t.table.limit) (right_within t w s b) o e

  -- Two outcomes that meet the promise are equal.
  pub solve_unique : (o p : Outcome) → Solves t room o → Solves t room p → o ≡ p
  solve_unique o p a b = pick (formed t) refl
    where
      pick : (f : Bool) → formed t ≡ f → o ≡ p
      pick false h = a.malformed h ∙ sym (b.malformed h)
      pick true h =
          let x = a.verdict h in
          let y = b.verdict h in
          x.2 ∙ ap (λ (v : Verdict). told v room) (within_unique (WorksFor t) t.table.limit x.0 y.0 x.1 y.1) ∙ sym y.2
