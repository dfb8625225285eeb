use Rattle.error_marks.proofs.Common.{AllWithin, AreCompatible}
use Rattle.error_marks.proofs.conflict.first_against.Given as goal

abbrev pub invariant-loop-j : goal.invariant-loop-j
invariant-loop-j l = AllWithin (λ high. AreCompatible l.drift_ppb l.low high) l.highs 0 l.j
