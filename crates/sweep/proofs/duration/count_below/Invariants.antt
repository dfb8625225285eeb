use Rattle.std.proofs.Common.{◌-◌, ◌≤◌, length}
use Rattle.sweep.proofs.duration.count_below.Given as goal

abbrev pub invariant-loop-low : goal.invariant-loop-low
invariant-loop-low l = record { in_order : l.low ≤ l.high; within : l.high ≤ length l.maxima }

abbrev pub decreases-loop-low : goal.decreases-loop-low
decreases-loop-low l = l.high - l.low
