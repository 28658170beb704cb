-- `whole_text`: the room is for the longest. Assumes nothing.
use mathlib.Core.Path.{subst}
use Prim.Native.Nat.{ℕ}
use native.Mathlib.Omega.{arith}
use Rattle.std.specs.Prelude.{Result}
use Rattle.table.specs.Outcomes.{reply_of}
use Rattle.table.specs.declared.refusals.Refusal.{Refusal}
use Rattle.topddl.specs.Numbered.{Holds}
use Rattle.topddl.proofs.NumberedLaws.{written_ok, holds}
use Rattle.topddl.proofs.texts.whole_text.Goals as goal

pub unwrap-requires : goal.unwrap-requires
unwrap-requires c =
    written_ok c.args.task c.args.room.now c.args.number _ _ c.requires.well_formed (omega arith) c.requires.number_le_many c.write_text.ensures

pub returns : goal.returns
returns c =
    subst (λ (r : Result ℕ Refusal). Holds c.args.task c.args.number c.args.room.now (reply_of r).length c.write_text.new.room) c.unwrap.ensures
    (holds c.args.task c.args.room.now c.args.number _ c.requires.well_formed (omega arith) c.requires.number_le_many c.write_text.ensures)
