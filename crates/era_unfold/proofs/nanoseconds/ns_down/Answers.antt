use Rattle.std.proofs.Common.{arith}
use Rattle.std.proofs.lemmas.Int.{ints}
use Rattle.era_unfold.specs.Ratio.{floor_of}
use Rattle.era_unfold.specs.Nanoseconds.{ticks_down}
use Rattle.era_unfold.proofs.nanoseconds.ns_down.Goals as goal

pub returns-clause-ticks : goal.returns-clause-ticks
unfolding ticks_down floor_of
returns-clause-ticks c = omega (arith, ints)
