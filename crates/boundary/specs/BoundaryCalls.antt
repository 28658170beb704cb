-- Each call of the boundary, over the definitions that the inner call's contract cites.
use Rattle.std.specs.Prelude.{List, ◌≡◌, ℕ}
use Rattle.addrun.specs.Adding.{run_added}
use Rattle.apply.specs.Applying.{Applies}
use Rattle.table.specs.declared.TaskReply.{TaskReply}
use Rattle.listing.specs.Listing.{ListsInto}
use Rattle.pddl.specs.Readings.{ReadsDomain, ReadsProblem}
use Rattle.pddl.specs.declared.ProblemReply.{ProblemReply}
use Rattle.pddlwriter.specs.Writing.{domain_written, problem_written}
use Rattle.runcheck.specs.OpenNeeds.{checked}
use Rattle.session.specs.Calls.{Opens, Edits, listed}
use Rattle.session.specs.EditNumbers.{edit_of}
use Rattle.solve.specs.Solving.{Solves}
use Rattle.table.specs.Outcomes.{Outcome}
use Rattle.table.specs.declared.Reply.{Reply}
use Rattle.taskformat.specs.Reading.{ReadsFile}
use Rattle.records.specs.Records.{record_at}
use Rattle.taskwriter.specs.Writing.{written}
use Rattle.taskwords.specs.Words.{task_in, lent_back}
use Rattle.taskwords.specs.Answers.{Answers, changed_length, reply_length, problem_length, checked_length, record_length, answer_most, changed_words, reply_words, problem_words, checked_words, record_words, task_answer}

-- Nothing but the room for the answer is lent to be written.
abbrev pub Nothing : Type 0
Nothing = Unit {0}

-- A call that answers with a reply and writes a lent room: `Replies` says both.
abbrev pub AnswersReply : List ℕ → List ℕ → (Reply → Type 0) → List ℕ → List ℕ → ℕ → Type 0
AnswersReply room after Replies =
    Answers reply_length (after ≡ room) (λ words. (y : Reply) × Replies y × (words ≡ reply_words y))

-- The same, where the reply and the room afterwards are one outcome.
abbrev pub AnswersOutcome : List ℕ → List ℕ → (Outcome → Type 0) → List ℕ → List ℕ → ℕ → Type 0
AnswersOutcome room after Gives = AnswersReply room after (λ y. Gives (record { reply = y; room = after }))

abbrev pub HandsRecord : List ℕ → ℕ → List ℕ → List ℕ → ℕ → Type 0
HandsRecord file at = Answers record_length Nothing (λ words. words ≡ record_words (record_at file at))

abbrev pub ReadsTask : List ℕ → List ℕ → List ℕ → ℕ → Type 0
ReadsTask file =
    Answers answer_most Nothing
    (λ words. (y : TaskReply) × ReadsFile file y × (words ≡ task_answer y.number y.place y.task))

abbrev pub WritesTask : List ℕ → List ℕ → List ℕ → List ℕ → List ℕ → ℕ → Type 0
WritesTask ws room after = AnswersOutcome room after (λ o. o ≡ written (task_in ws) room)

-- "a run check names its run" (02, request 1)
abbrev pub ChecksRun : List ℕ → ℕ → List ℕ → List ℕ → ℕ → Type 0
ChecksRun ws run = Answers checked_length Nothing (λ words. words ≡ checked_words (checked (task_in ws) run))

-- The task's words are ws before the call and `left` after it.
abbrev pub AppliesList : List ℕ → List ℕ → List ℕ → List ℕ → List ℕ → ℕ → Type 0
AppliesList ws left list =
    Answers changed_length (left ≡ ws)
    (λ words.
    (y : TaskReply) × (Applies (task_in ws) list y × (left ≡ lent_back ws y.number y.task)) ×
    (words ≡ changed_words y.number y.place))

abbrev pub SolvesTask : List ℕ → List ℕ → List ℕ → List ℕ → List ℕ → ℕ → Type 0
SolvesTask ws room after = AnswersOutcome room after (Solves (task_in ws) room)

abbrev pub OpensSession : List ℕ → List ℕ → List ℕ → List ℕ → List ℕ → ℕ → Type 0
OpensSession ws table after = AnswersReply table after (λ y. Opens (task_in ws) table y after)

abbrev pub EditsSession : List ℕ → List ℕ → ℕ → ℕ → ℕ → ℕ → List ℕ → List ℕ → List ℕ → List ℕ → ℕ → Type 0
EditsSession ws left kind whose fact present table after =
    Answers changed_length ((left ≡ ws) × (after ≡ table))
    (λ words.
    (y : TaskReply) ×
    (Edits (task_in ws) table (edit_of kind whose fact present) y after × (left ≡ lent_back ws y.number y.task)) ×
    (words ≡ changed_words y.number y.place))

abbrev pub ListsSession : List ℕ → List ℕ → List ℕ → List ℕ → List ℕ → List ℕ → ℕ → Type 0
ListsSession ws table room after = AnswersOutcome room after (λ o. o ≡ listed (task_in ws) table room)

abbrev pub ListsInput : List ℕ → List ℕ → List ℕ → List ℕ → List ℕ → ℕ → Type 0
ListsInput input room after = AnswersOutcome room after (ListsInto input room)

-- ---- 02, request 4

abbrev pub WritesDomain : List ℕ → List ℕ → List ℕ → List ℕ → List ℕ → ℕ → Type 0
WritesDomain ws room after = AnswersOutcome room after (λ o. o ≡ domain_written (task_in ws) room)

-- "one problem text for each run": a call names its run
abbrev pub WritesProblem : List ℕ → ℕ → List ℕ → List ℕ → List ℕ → List ℕ → ℕ → Type 0
WritesProblem ws run room after = AnswersOutcome room after (λ o. o ≡ problem_written (task_in ws) run room)

-- "Steps and L are passed beside it": L here, the steps where a run is added
abbrev pub HandsDomain : List ℕ → ℕ → List ℕ → List ℕ → ℕ → Type 0
HandsDomain text limit =
    Answers answer_most Nothing
    (λ words. (y : TaskReply) × ReadsDomain text limit y × (words ≡ task_answer y.number y.place y.task))

abbrev pub HandsProblem : List ℕ → ℕ → List ℕ → List ℕ → ℕ → Type 0
HandsProblem text facts =
    Answers problem_length Nothing
    (λ words.
    (y : ProblemReply) × ReadsProblem text facts y × (words ≡ problem_words y.number y.place y.start y.goal))

-- The task's words are ws before the call and `left` after it.
abbrev pub AddsRun : List ℕ → List ℕ → ℕ → ℕ → List ℕ → List ℕ → List ℕ → ℕ → Type 0
AddsRun ws left start goal steps =
    Answers changed_length (left ≡ ws)
    (λ words.
    (y : TaskReply) × ((y ≡ run_added (task_in ws) start goal steps) × (left ≡ lent_back ws y.number y.task)) ×
    (words ≡ changed_words y.number y.place))
