-- `print_answer`: what was repaired is well formed. Assumes nothing.
use mathlib.Core.Path.{refl}
use Rattle.topddl.proofs.RepairedLaws.{repairs_repaired}
use Rattle.topddl.proofs.print_answer.Goals as goal

pub print_texts-requires : goal.print_texts-requires
print_texts-requires g c = (repairs_repaired c.in-Ok.ensures refl).well
