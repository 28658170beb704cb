-- `listed`: the buffer has the program's length, and the room is for the longest text. Assumes nothing.
use mathlib.Core.Path.{subst}
use Prim.Native.Nat.{ℕ}
use Rattle.std.proofs.Common.{arith}
use Rattle.std.specs.Prelude.{Result}
use Rattle.listing.proofs.Determined.{listed_ok}
use Rattle.table.specs.Outcomes.{reply_of}
use Rattle.table.specs.declared.refusals.Refusal.{Refusal}
use Rattle.zernoplysk.proofs.PrintLaws.{prints}
use Rattle.zernoplysk.specs.Printing.{Prints}
use Rattle.zernoplysk.proofs.listed.Goals as goal

pub unwrap-requires : goal.unwrap-requires
unwrap-requires c = listed_ok _ (omega arith) c.first_listed.ensures

pub returns : goal.returns
returns c =
    subst (λ (r : Result ℕ Refusal). Prints c.args.input.now c.args.got c.args.text.now (reply_of r).length c.first_listed.new.room) c.unwrap.ensures
    (prints (omega arith) (omega arith) c.first_listed.ensures)
