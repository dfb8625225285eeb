use Rattle.error_marks.proofs.Common.{◌+◌, ◌-◌, ◌<◌, ◌≤◌, length, AllWithin, FitsAll}
use Rattle.error_marks.proofs.conflict.front_by_halving.Given as goal

abbrev pub invariant-loop-least : goal.invariant-loop-least
invariant-loop-least l = record {
  in_order : l.least ≤ l.most;
  within : l.most ≤ length l.lows;
  fit : AllWithin (FitsAll l.drift_ppb l.highs) l.lows 0 l.least;
  no_more : l.most < length l.lows → ¬ (AllWithin (FitsAll l.drift_ppb l.highs) l.lows 0 (l.most + 1));
}

abbrev pub decreases-loop-least : goal.decreases-loop-least
decreases-loop-least l = l.most - l.least
