use Rattle.feasibility.proofs.KeptMarks.{kept_are_compatible}
use Rattle.feasibility.proofs.laws.kept_marks_are_compatible.Goals as goal

pub returns : goal.returns
returns c = λ ppb n low high a b. kept_are_compatible ppb n low high a b
