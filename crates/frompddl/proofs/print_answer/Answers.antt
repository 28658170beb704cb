-- `print_answer`: what was put together is well formed. Assumes nothing.
use mathlib.Core.Path.{refl}
use Rattle.frompddl.proofs.WellLaws.{puts_well}
use Rattle.frompddl.proofs.print_answer.Goals as goal

pub print_file-requires : goal.print_file-requires
print_file-requires g c = puts_well c.in-Ok.ensures refl
