use Rattle.std.proofs.Common.{◌≤◌}
use Rattle.sweep.proofs.extreme.count_of.Given as goal

abbrev pub invariant-loop-of : goal.invariant-loop-of
invariant-loop-of l = l.count ≤ l.of-index
