use Rattle.finder.proofs.Common.{◌-◌, List, data_of, Sample, AreTablesFor}
use Rattle.finder.proofs.LongestPiece.{IsHalved}
use Rattle.finder.proofs.longest.longest_end.Given as goal

abbrev pub invariant-loop-low : goal.invariant-loop-low
invariant-loop-low l = (samples : List Sample) → AreTablesFor samples (data_of l.claim) l.tables
    → IsHalved samples (data_of l.claim) l.begin l.next l.low l.high

abbrev pub decreases-loop-low : goal.decreases-loop-low
decreases-loop-low l = l.high - l.low
