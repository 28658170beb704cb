-- `whole_file`: the room is for the longest. Assumes nothing.
use mathlib.Core.Path.{subst}
use Prim.Native.Nat.{ℕ}
use native.Mathlib.Omega.{arith}
use Rattle.std.specs.Prelude.{Result}
use Rattle.table.specs.Outcomes.{reply_of}
use Rattle.table.specs.declared.refusals.Refusal.{Refusal}
use Rattle.frompddl.specs.Together.{HoldsFile}
use Rattle.frompddl.proofs.WellLaws.{written_ok, holds_file}
use Rattle.frompddl.proofs.whole_file.Goals as goal

pub unwrap-requires : goal.unwrap-requires
unwrap-requires c = written_ok c.args.task c.args.room.now _ _ c.requires (omega arith) c.write.ensures

pub returns : goal.returns
returns c =
    subst (λ (r : Result ℕ Refusal). HoldsFile c.args.task c.args.room.now (reply_of r).length c.write.new.room) c.unwrap.ensures
    (holds_file c.args.task c.args.room.now _ c.requires (omega arith) c.write.ensures)
