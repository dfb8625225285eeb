use Rattle.std.proofs.Common.{length, map}
use Rattle.cover_finder.specs.Ridge.{IsRidgeOf}
use Rattle.cover_finder.specs.Side.{turned}
use Rattle.cover_finder.proofs.side.late_ridge.Given as goal

abbrev pub invariant-loop-number : goal.invariant-loop-number
invariant-loop-number l = IsRidgeOf l.drift l.rate (map turned l.marks) l.number (length l.marks) l.ridge
