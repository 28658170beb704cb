-- `zp_read_problem`: the room first, then what reading the problem text gives.
use native.Mathlib.Omega.{arith}
use Rattle.taskwords.proofs.AnsweringLaws.{answers_given}
use mathlib.Core.Path.{refl, sym}
use Rattle.taskwords.specs.Answers.{problem_words}
use Rattle.boundary.proofs.texts.zp_read_problem.Goals as goal

pub returns : goal.returns
returns c =
    let found = c.from-found.result in
    answers_given (problem_words found.number found.place found.start found.goal) (omega (arith, c.if-answer-lt-PROBLEM_WORDS.false))
    (found, rw (sym c.from-found.ensures) at c.read_problem.ensures, refl) c.give_problem.ensures
