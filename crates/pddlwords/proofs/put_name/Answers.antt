-- `put_name` puts the last digit, and the one before it where the number has more than one.
use native.Mathlib.Omega.{arith}
use Rattle.pddlwords.proofs.WordLaws.{short_placed, long_placed}
use Rattle.pddlwords.proofs.put_name.Goals as goal

pub returns-then-n-lt10 : goal.returns-then-n-lt10
returns-then-n-lt10 c =
    short_placed _ c.digit.ensures (omega arith) c.put.ensures

pub returns : goal.returns
returns c =
    long_placed _ c.digit-3.ensures (omega arith) c.digit-2.ensures c.put-next.ensures c.put-2.ensures
