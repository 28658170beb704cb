-- `write_text`: the domain text, or the problem text of the run before that number. Assumes nothing.
use Rattle.topddl.proofs.NumberedLaws.{first_written, further_written}
use Rattle.topddl.proofs.texts.write_text.Goals as goal

pub returns-then-number-eq0 : goal.returns-then-number-eq0
returns-then-number-eq0 c =
    first_written c.args.task c.args.room.now c.args.number _ c.if-number-eq0.true c.write_domain.ensures

pub returns : goal.returns
returns c = further_written c.args.task c.args.room.now c.args.number _ c.if-number-eq0.false c.write_problem.ensures
