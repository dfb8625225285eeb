use Rattle.sweep.proofs.Common.{◌≡◌, length, Low, High}
use Rattle.sweep.proofs.ExtremeList.{ExtremesSoFar}
use Rattle.sweep.proofs.extreme.extremes_of.Given as goal

abbrev pub invariant-loop-number : goal.invariant-loop-number
invariant-loop-number g l = record {
  lows : ExtremesSoFar Low (g.S.SampleSource.samples l.fn.samples) l.fn.server l.number l.lows.items;
  highs : ExtremesSoFar High (g.S.SampleSource.samples l.fn.samples) l.fn.server l.number l.highs.items;
  as_many : length l.lows.items ≡ length l.highs.items;
}
