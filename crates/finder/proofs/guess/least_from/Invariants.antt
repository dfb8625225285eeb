use Rattle.finder.proofs.Common.{◌≤◌, ◌-◌, max_bound_ns}
use Rattle.finder.proofs.guess.least_from.Given as goal

abbrev pub invariant-loop-low : goal.invariant-loop-low
invariant-loop-low l = record {
  from_start : l.start ≤ l.low;
  in_order : l.low ≤ l.high;
  lawful : l.high ≤ max_bound_ns;
}

abbrev pub decreases-loop-low : goal.decreases-loop-low
decreases-loop-low l = l.high - l.low
