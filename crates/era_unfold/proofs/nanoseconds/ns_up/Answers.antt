use Rattle.std.proofs.Common.{arith}
use Rattle.std.proofs.lemmas.Int.{ints}
use Rattle.era_unfold.specs.Ratio.{ceiling_of}
use Rattle.era_unfold.specs.Nanoseconds.{ticks_up}
use Rattle.era_unfold.proofs.nanoseconds.ns_up.Goals as goal

pub returns-clause-ticks : goal.returns-clause-ticks
unfolding ticks_up ceiling_of
returns-clause-ticks c = omega (arith, ints)
