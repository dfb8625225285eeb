use Rattle.std.proofs.Common.{arith}
use Rattle.std.proofs.lemmas.Int.{ints}
use Rattle.era_unfold.proofs.RecordWindow.{window_low-parts}
use Rattle.era_unfold.proofs.window.low.Goals as goal

pub returns-clause-window : goal.returns-clause-window
returns-clause-window c = omega (arith, ints, window_low-parts c.args.unit c.args.sec c.args.sub)
