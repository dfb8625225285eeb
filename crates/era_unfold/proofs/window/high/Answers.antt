use Rattle.std.proofs.Common.{arith}
use Rattle.std.proofs.lemmas.Int.{ints}
use Rattle.era_unfold.proofs.RecordWindow.{window_high-parts, window_low-lt-window_high}
use Rattle.era_unfold.proofs.window.high.Goals as goal

pub returns-clause-window : goal.returns-clause-window
returns-clause-window c = omega (arith, ints, window_high-parts c.args.unit c.args.sec c.args.sub)

pub returns-clause-after_low : goal.returns-clause-after_low
returns-clause-after_low c =
    let parts = window_high-parts c.args.unit c.args.sec c.args.sub in
    omega (arith, ints, parts, window_low-lt-window_high c.args.unit c.args.sec c.args.sub)
