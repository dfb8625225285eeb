use Rattle.sweep.proofs.Common.{◌-◌, IsBracket}
use Rattle.sweep.proofs.prefix_maximum.count_upto.Given as goal

abbrev pub invariant-loop-low : goal.invariant-loop-low
invariant-loop-low l = IsBracket l.maxima l.place l.low l.high

abbrev pub decreases-loop-low : goal.decreases-loop-low
decreases-loop-low l = l.high - l.low
