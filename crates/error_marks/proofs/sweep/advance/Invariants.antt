use Rattle.error_marks.proofs.Common.{◌-◌, ◌≤◌, length, AllWithin, Precedes, IsHighest}
use Rattle.error_marks.proofs.sweep.advance.Given as goal

abbrev pub invariant-loop-passed : goal.invariant-loop-passed
invariant-loop-passed l = record {
  within : l.passed ≤ length l.lows;
  precede : AllWithin (λ low. Precedes low l.high) l.lows 0 l.passed;
  highest : IsHighest l.direction l.drift_ppb l.lows record { passed = l.passed; highest = l.highest };
}

abbrev pub decreases-loop-passed : goal.decreases-loop-passed
decreases-loop-passed l = length l.lows - l.passed
