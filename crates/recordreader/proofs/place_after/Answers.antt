-- `recordreader::place_after` meets its contract: the record's place, or the place asked where it is refused. Assumes nothing.
use Rattle.std.specs.Prelude.{Ok, Err}
use Rattle.records.specs.Records.{record_told}
use Rattle.table.proofs.WhyLaws.{number_some}
use mathlib.Core.Path.{refl}
use Rattle.recordreader.proofs.PlaceLaws.{good_record_next, refused_record_stays}
use Rattle.recordreader.proofs.place_after.Goals as goal

pub returns-in-Ok : goal.returns-in-Ok
returns-in-Ok c = good_record_next _ _ (record_told (Ok c.in-Ok.record)) c.in-Ok.ensures refl

pub returns-in-Err : goal.returns-in-Err
returns-in-Err c = refused_record_stays _ _ (record_told (Err c.in-Err.field-0)) c.in-Err.ensures (number_some c.in-Err.field-0.why)
