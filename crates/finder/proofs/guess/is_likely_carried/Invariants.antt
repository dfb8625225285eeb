use Rattle.std.proofs.Common.{pos, ◌≤ℤ◌, ◌-◌}
use Rattle.finder.proofs.guess.is_likely_carried.Given as goal

abbrev pub invariant-loop-pieces : goal.invariant-loop-pieces
invariant-loop-pieces l = pos l.begin ≤ℤ l.claim.last

abbrev pub decreases-loop-pieces : goal.decreases-loop-pieces
decreases-loop-pieces l = l.most - l.pieces
