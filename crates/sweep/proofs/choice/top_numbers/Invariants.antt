use Rattle.sweep.proofs.Common.{AreOver, IsTopNumber}
use Rattle.sweep.proofs.choice.top_numbers.Given as goal

abbrev pub invariant-loop-k : goal.invariant-loop-k
invariant-loop-k l = AreOver (IsTopNumber l.fn.drift_ppb l.fn.extremes) l.fn.stretches l.k l.numbers.items
