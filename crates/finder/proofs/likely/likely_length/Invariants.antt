use Rattle.std.proofs.Common.{◌≤◌, length}
use Rattle.finder.proofs.likely.likely_length.Given as goal

abbrev pub invariant-loop-group : goal.invariant-loop-group
invariant-loop-group l = record {
  lows : length l.lows.items ≤ l.group;
  highs : length l.highs.items ≤ l.group;
}
