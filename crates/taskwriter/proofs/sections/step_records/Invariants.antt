-- `step_records`: one record for each step of the run.
use Rattle.room.proofs.Gathering.{Gathering}
use Rattle.taskwriter.specs.Pieces.{step_at}
use Rattle.taskwriter.proofs.sections.step_records.Given as goal

abbrev pub invariant-loop-step : goal.invariant-loop-step
invariant-loop-step l = Gathering (step_at l.steps l.run) l.count l.initial.room l.room l.at l.next l.step-index
