use Rattle.std.proofs.Common.{◌≡◌, length}
use Rattle.sweep.proofs.duration.durations_near.Given as goal

abbrev pub invariant-loop-index : goal.invariant-loop-index
invariant-loop-index l = length l.durations.items ≡ l.index
