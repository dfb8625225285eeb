use Rattle.finder.proofs.Common.{take, Gathered}
use Rattle.finder.proofs.tick_parts.best_at.Given as goal

abbrev pub invariant-loop-number : goal.invariant-loop-number
invariant-loop-number g l =
    Gathered (take l.number (g.S.SampleSource.samples l.samples)) l.tick l.tick l.claim.drift_ppb l.best
