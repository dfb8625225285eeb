use Rattle.error_marks.proofs.MarkPair.{falls_line, rises_line, before_from_test, behind_from_test, joined, lines_compared}
use Rattle.error_marks.proofs.pair.are_compatible.Goals as goal

pub returns-then-low-high : goal.returns-then-low-high
returns-then-low-high c = joined
    (lines_compared c.falling_line.ensures.exact c.falling_line-then-low-high.ensures.exact
    c.falling_line.ensures.range c.falling_line-then-low-high.ensures.range)
    (falls_line c.args.drift_ppb c.args.low c.args.high
    (before_from_test c.args.low c.args.high c.requires.low c.requires.high c.if-low-high.true))

pub returns-else-low-high : goal.returns-else-low-high
returns-else-low-high c = joined
    (lines_compared c.rising_line.ensures.exact c.rising_line-else-low-high.ensures.exact
    c.rising_line.ensures.range c.rising_line-else-low-high.ensures.range)
    (rises_line c.args.drift_ppb c.args.low c.args.high
    (behind_from_test c.args.low c.args.high c.requires.low c.requires.high c.if-low-high.false))
