use Rattle.sweep.specs.Extreme.{seen}
use Rattle.sweep.proofs.MaximumList.{MaximaSoFar}
use Rattle.sweep.proofs.prefix_maximum.maxima_of.Given as goal

abbrev pub invariant-loop-turn : goal.invariant-loop-turn
invariant-loop-turn l =
    MaximaSoFar l.fn.drift_ppb (seen l.fn.backwards l.fn.extremes) l.queue.items l.turn l.maxima.items
