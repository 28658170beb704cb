use mathlib.Core.Path.{◌≡◌, sym, ap, ◌∙◌}
use Prim.Native.Nat.{ℕ, ◌+◌, ◌*◌, ◌≤◌}
use native.Mathlib.Omega.{arith}
use lib.ListN.{get_or}
use Rattle.facts.specs.Sets.{has}
use Rattle.table.specs.Sizes.{max_facts}
use Rattle.table.specs.Tasks.{cells_of, count_of, step_of, course_of, WellFormed}
use Rattle.table.specs.declared.Task.{Task}
use Rattle.runcheck.specs.OpenNeeds.{states_of}
use Rattle.runcheck.specs.Tallies.{noted, stepped}
use Rattle.runcheck.specs.declared.OpenNeeds.{OpenNeeds}
use Rattle.runcheck.proofs.StateLaws.{state_first, state_next}
use Rattle.runcheck.proofs.TallyLaws.{tally_of, tally_start, tally_of_le, needs_next, goals_next}
use Rattle.runcheck.proofs.tally_run.Goals as goal

-- before step i: how large the total is
total_low : (t : Task) (run i : ℕ) (tally : OpenNeeds) → WellFormed t → tally ≡ tally_of t run (states_of t run) i → tally.total ≤ i * max_facts
total_low t run i tally w e = omega (arith, ap (λ (s : OpenNeeds). s.total) e, tally_of_le t w run (states_of t run) i)

pub loop-i-init : goal.loop-i-init
loop-i-init c =
    let t = c.args.t in
    let run = c.args.run in
    (state_first t run, sym (tally_start (cells_of t.table) (course_of t.runs run) (states_of t run)))

pub note-tally-requires : goal.note-tally-requires
note-tally-requires c =
    omega (
      arith,
      c.requires.0.count_high c.args.run,
      total_low c.args.t c.args.run c.loop-i.i c.loop-i.tally c.requires.0 c.loop-i.invariant.1,
    )

pub loop-i-preserved : goal.loop-i-preserved
loop-i-preserved c =
    let t = c.args.t in
    let run = c.args.run in
    let i = c.loop-i.i in
    let adds = get_or t.table.adds (step_of t.runs run i) 0 in
    let deletes = get_or t.table.deletes (step_of t.runs run i) 0 in (
      λ f.
          ap (λ (m : ℕ). has m f) (c.after_step-state.ensures ∙ ap (λ (m : ℕ). stepped c.loop-i.state m adds deletes) c.remove-absent.ensures) ∙
          state_next t c.requires.0 run i c.loop-i.state (omega arith) c.loop-i.invariant.0 f,
      c.note-tally.ensures ∙ (λ j. noted (c.loop-i.invariant.1 j) (c.remove-absent.ensures j) (i + 1)) ∙
          needs_next t c.requires.0 run (states_of t run) i c.loop-i.state c.loop-i.invariant.0 c.loop-i-test.true,
    )

pub note-requires : goal.note-requires
note-requires c =
    omega (
      arith,
      c.requires.0.count_high c.args.run,
      total_low c.args.t c.args.run c.loop-i.i c.loop-i.tally c.requires.0 c.loop-i.invariant.1,
    )

pub returns : goal.returns
returns c =
    let t = c.args.t in
    let run = c.args.run in
    c.note.ensures ∙ (λ j. noted (c.loop-i.invariant.1 j) (c.remove.ensures j) (count_of t.runs run + 1)) ∙
    goals_next t c.requires.0 run (states_of t run) c.loop-i.i c.loop-i.state c.loop-i.invariant.0 (omega arith)
