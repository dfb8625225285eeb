use Rattle.sweep.specs.Extreme.{seen}
use Rattle.sweep.proofs.ArrivalOrder.{ArrivalsSoFar}
use Rattle.sweep.proofs.queue.arrivals_of.Given as goal

abbrev pub invariant-loop-turn : goal.invariant-loop-turn
invariant-loop-turn l =
    ArrivalsSoFar l.fn.drift_ppb l.fn.backwards (seen l.fn.backwards l.fn.extremes) l.turn l.arrivals.items
