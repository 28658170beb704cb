-- Putting one run more to a task: 02, request 4. A domain text gives a task that has no run yet, and a problem text one run's start and goal;
-- "Steps and L are passed beside it".
use Rattle.std.specs.Prelude.{cond, List, ℕ, zero, suc, ◌+◌, ◌*◌, length, take, drop, set}
use Rattle.std.proofs.lemmas.List.Edits.{sets}
use Rattle.table.specs.Refusals.{not_well_formed}
use Rattle.table.specs.Sizes.{max_steps}
use Rattle.table.specs.Tasks.{start_of, goal_of, count_of, unlocked, formed, no_task}
use Rattle.table.specs.declared.Task.{Task}
use Rattle.table.specs.declared.TaskReply.{TaskReply}
use Rattle.taskformat.specs.Reading.{accepted_read}

-- The task with one run more, after those that it has: its steps stand from place 64 times its number on. The table stays.
unfoldable pub with_run : Task → ℕ → ℕ → List ℕ → Task
with_run t start goal steps = record {
  table = t.table;
  runs = record {
    many = run + 1;
    starts = set t.runs.starts run start;
    goals = set t.runs.goals run goal;
    counts = set t.runs.counts run (length steps);
    steps = sets t.runs.steps (max_steps * run) steps;
  };
}
  where
    run : ℕ
    run = t.runs.many

-- 12, with the task given.
abbrev pub refused_run : Task → TaskReply
refused_run t = record { number = not_well_formed; place = 0; task = t }

-- What a call gives: that task where it is well formed, and else 12. So 12 is given for a ninth run, a 65th step, a step that is no action, a
-- fact outside, a lock that is on no need and a limit or a size out of range.
unfoldable pub run_added : Task → ℕ → ℕ → List ℕ → TaskReply
run_added t start goal steps =
    cond {A = TaskReply} (formed (with_run t start goal steps)) (accepted_read (with_run t start goal steps)) (refused_run t)

-- ---- a task, put together again run by run

-- The steps of run i, as they are passed beside its problem text.
unfoldable pub steps_of : Task → ℕ → List ℕ
steps_of t i = take (count_of t.runs i) (drop (max_steps * i) t.runs.steps)

-- The table of t without its locks, which its domain text does not carry (02, request 6), and its first i runs put to it one after another.
unfoldable pub built : Task → ℕ → Task
built t zero = record { table = unlocked t.table; runs = no_task.runs }
built t (suc i) = with_run (built t i) (start_of t.runs i) (goal_of t.runs i) (steps_of t i)
