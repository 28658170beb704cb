-- `read_full`: one read more. Assumes nothing.
use Rattle.std.proofs.Common.{◌-◌, arith, length, subst}
use Rattle.std.specs.Io.KnownBytes.{Consumes}
use Rattle.std.proofs.KnownBytes.{Consumes-trans}
use Rattle.stdio.proofs.ReadLaws.{read_joined}
use Rattle.stdio.proofs.read_full.Goals as goal

pub loop-got-preserved : goal.loop-got-preserved
loop-got-preserved g c =
    let at = c.loop-got.got in
    let more = c.in_ok-more.ensures in
    let joined = read_joined at (length c.loop-got.buffer - at) c.in_ok-more.more c.loop-got.buffer c.read.new.buf
    c.loop-got.invariant.0 more.bound.0 in
    (omega arith, subst (Consumes _ _) joined (Consumes-trans _ _ _ _ _ c.loop-got.invariant.1 more.bytes.0))
